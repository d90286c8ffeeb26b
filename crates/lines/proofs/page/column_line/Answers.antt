-- `page::column_line` meets its contract.
-- Assumes nothing.
use mathlib.Core.Path.{sym}
use native.Mathlib.Omega.{arith}
use Rattle.lines.specs.Page.{column_line}
use Rattle.lines.proofs.Texts.{next}
use Rattle.lines.proofs.page.column_line.Goals as goal

pub returns : goal.returns
unfolding column_line
returns c =
    let digit = c.hex_digit-digit in
    let x = c.bytes-a.ensures in
    let points = c.points-b.ensures in
    let end = c.bytes.ensures in
    (rw (sym digit.ensures) (next x (next points.0 end)), omega arith)
