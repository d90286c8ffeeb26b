-- `linear::vectors::double` meets its contract: block by block.
-- Assumes nothing.
use mathlib.Core.Path.{◌≡◌, refl}
use Prim.Native.Nat.{◌+◌, ◌*◌, ◌≤◌, ◌<◌}
use native.Mathlib.Omega.{arith}
use lib.ListN.{length}
use Rattle.field.proofs.Fields.{field_of}
use Rattle.poly.proofs.LaneLaws.{lanes_below}
use Rattle.linear.proofs.PivotTables.{doubling_turn, doubling_all, rows_fit}
use Rattle.linear.proofs.vectors.double.Goals as goal
use Rattle.linear.proofs.vectors.double.Goals.{In-loop-i}

-- the next block is within a row, and both rows are within the table, after row a and row 1
fits : (c : goal.In-loop-i) → let a = c.args in
    (16 * c.loop-i.i < a.n) × (16 * c.loop-i.i + 16 ≤ a.n) × (a.n ≤ a.n * a.a) × (2 * (a.n * a.a) + a.n + a.n ≤ length a.table.now)
fits c =
    let a = c.args in
    let r = rows_fit a.n a.a (length a.table.now) c.requires.1 c.requires.2 in
    let e : 16 * c.loop-i.i + 16 ≤ a.n = omega (arith, c.loop-i-test.true) in
    (omega arith, e, r.0, r.1)

pub times_z-double-requires : goal.times_z-double-requires
times_z-double-requires c =
    let l = c.loop-i in
    let a = c.args in
    rw c.take-row.ensures (lanes_below _ (field_of a.q).size (λ t k. l.invariant.symbols (a.n * a.a + 16 * l.i + t)))

pub loop-i-preserved : goal.loop-i-preserved
loop-i-preserved c =
    let a = c.args in
    let l = c.loop-i in
    let f = fits (goal.at.loop-i-preserved c).In-loop-i in
    let row = c.take-row in
    let first = c.take-first in
    let double = c.times_z-double in
    let sum = c.plus-sum in
    let odd = c.copy-in-loop-i in
    let next : 16 * (l.i + 1) ≡ 16 * l.i + 16 = omega arith in
    rw next
    (doubling_turn (field_of a.q) a.n a.a a.table.now l.table (16 * l.i) l.invariant c.requires.0 f.0 f.2 f.3
    row.result first.result double.result sum.result c.copy.new.dst odd.new.dst row.ensures
    first.ensures double.ensures sum.ensures c.copy.ensures _ refl odd.ensures)

pub returns : goal.returns
returns c =
    doubling_all (field_of c.args.q) c.args.n c.args.a c.args.table.now c.loop-i.table (16 * c.loop-i.i) c.loop-i.invariant
    (omega (arith, c.loop-i-test.false, c.requires.0))
