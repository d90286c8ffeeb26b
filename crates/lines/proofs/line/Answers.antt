-- `line` meets its contract.
-- Assumes nothing.
use native.Mathlib.Omega.{arith}
use Rattle.lines.proofs.Lines.{line_short, line_ok, line_no}
use Rattle.lines.proofs.line.Goals as goal

pub returns-then-size-lt64 : goal.returns-then-size-lt64
returns-then-size-lt64 c =
    let a = c.args in
    rw (line_short a.number a.block.now (omega arith)) c.short_line.ensures

pub returns-in-Ok : goal.returns-in-Ok
returns-in-Ok c =
    let a = c.args in
    let r = c.recover in
    rw (line_ok a.number a.block.now (omega arith) r.result r.new.message r.ensures c.in-Ok.is) c.ok_line.ensures

pub returns-in-Err : goal.returns-in-Err
returns-in-Err c =
    let a = c.args in
    let r = c.recover in
    rw (line_no a.number a.block.now (omega arith) r.result r.new.message r.ensures c.in-Err.refusal c.in-Err.is) c.no_line.ensures
