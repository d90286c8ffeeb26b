-- `code::check::slices` meets its contract: each way out has the tests that led there.
-- Assumes nothing.
use mathlib.Core.Path.{sym}
use Rattle.field.proofs.Outcomes.{not_done, handed_on, err_not_done}
use Rattle.code.proofs.Checks.{slices_length, slices_value, slices_room, slices_passed}
use Rattle.code.proofs.check.slices.Goals as goal

pub returns-then-input-takes : goal.returns-then-input-takes
returns-then-input-takes c =
    let x = c.args in
    sym (slices_length x.gaps x.size x.takes x.input.now x.writes x.room _ c.if-input-takes.true)

pub returns-in_err-values : goal.returns-in_err-values
returns-in_err-values c =
    let x = c.args in rw (handed_on _ _ c.from_residual.ensures.1 c.in_err-values.was) (sym (slices_value x.gaps x.size x.takes x.input.now x.writes x.room _ c.if-input-takes.false _
    c.values.ensures (not_done c.values.result (err_not_done c.in_err-values.was))))

pub returns-then-room-writes : goal.returns-then-room-writes
returns-then-room-writes c =
    let x = c.args in
    let v = c.values in
    sym (slices_room x.gaps x.size x.takes x.input.now x.writes x.room _ c.if-input-takes.false _
    v.ensures c.in_ok-values.was c.if-room-writes.true)

pub returns : goal.returns
returns c =
    let x = c.args in
    let v = c.values in
    sym (slices_passed x.gaps x.size x.takes x.input.now x.writes x.room _ c.if-input-takes.false _
    v.ensures c.in_ok-values.was c.if-room-writes.false)
