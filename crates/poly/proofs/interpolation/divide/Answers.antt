-- `poly::interpolation::divide` meets its contract. The invariant of its loop: the rows of the columns before number 16 * i are divided.
-- Assumes nothing.
use mathlib.Core.Path.{◌≡◌}
use Prim.Native.Nat.{◌+◌, ◌*◌, ◌<◌, min}
use native.Mathlib.Omega.{arith}
use lib.ListN.{length}
use Rattle.field.proofs.Fields.{field_of}
use Rattle.poly.proofs.Divisions.{group_turn}
use Rattle.poly.proofs.interpolation.divide.Goals as goal
use Rattle.poly.proofs.interpolation.divide.Goals.{In-loop-i}

-- the group that begins at number 16 * i
group : (c : goal.In-loop-i) → let n = length c.args.columns.now in
    (min n (16 * c.loop-i.i) ≡ 16 * c.loop-i.i) × (16 * c.loop-i.i < min n (16 * c.loop-i.i + 16))
group c =
    let some : 16 * c.loop-i.i < length c.args.columns.now = omega (arith, c.loop-i-test.true, c.div_ceil-i-end.ensures) in
    (omega arith, omega arith)

pub loop-i-preserved : goal.loop-i-preserved
loop-i-preserved c =
    let l = c.loop-i in
    let F = field_of c.args.q in
    let n = length c.args.columns.now in
    let g = group (goal.at.loop-i-preserved c).In-loop-i in
    let d = c.divide_rows-in-loop-i in
    let next : c.min-to.result ≡ min n (16 * (l.i + 1)) = omega (arith, c.min-to.ensures) in
    rw (← next)
    (group_turn F c.args.columns.now (16 * l.i) c.min-to.result c.args.work.now l.work
    c.requires.work_len.0 (rw c.min-to.ensures g.1) (omega (arith, c.min-to.ensures)) l.auto.work _ d.auto.rows
    (rw g.0 at l.invariant) d.ensures)
