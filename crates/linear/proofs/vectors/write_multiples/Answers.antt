-- `linear::vectors::write_multiples` meets its contract. The invariant of its loop: the rows before 2·a, as far as they are asked for,
-- are multiples of row 1.
-- Assumes nothing.
use mathlib.Core.Path.{ap, ◌∙◌}
use Prim.Native.Nat.{ℕ, ◌+◌, ◌*◌, ◌≤◌}
use native.Mathlib.Omega.{arith}
use lib.ListN.{length}
use Rattle.field.specs.Inner.Halves.{half_of}
use Rattle.field.proofs.Fields.{field_of}
use Rattle.field.proofs.Halves.{half_even, half_lt}
use Rattle.poly.specs.Inner.Linear.{entry}
use Rattle.linear.proofs.PivotTables.{multiples_more, multiples_less, multiples_cong, table_doubled, Begun, begun_doubled, begun_alone}
use Rattle.linear.proofs.vectors.write_multiples.Goals as goal
use Rattle.linear.proofs.vectors.write_multiples.Goals.{Joined-half-gt2, else-half-gt2, then-half-gt2}

-- where the loop begins
begun : (c : goal.Joined-half-gt2) → let a = c.args in Begun a.q a.n a.table.now c.if-half-gt2.table
begun c =
    let a = c.args in
    elim c.if-half-gt2.branch [
      | then-half-gt2 w ↦ begun_doubled a.q a.n a.table.now c.if-half-gt2.table c.requires (ap length w.table-is ∙ w.double.auto.table)
          (rw w.table-is w.double.ensures)
      | else-half-gt2 w ↦ begun_alone a.q a.n a.table.now c.if-half-gt2.table c.requires w.table-is (omega (arith, w.if-half-gt2.false, c.half-half.ensures))
    ]

pub loop-a-init : goal.loop-a-init
loop-a-init c =
    let b = begun (goal.at.loop-a-init c).Joined-half-gt2 in
    (b.formed, b.rows)

pub loop-a-preserved : goal.loop-a-preserved
loop-a-preserved c =
    let a = c.args in
    let l = c.loop-a in
    let d = c.double-in-loop-a in
    let F = field_of a.q in
    let row : ℕ → ℕ = λ j. entry c.if-half-gt2.table (a.n + j) in
    let one : 1 ≤ l.a = omega (arith, l.auto.a) in
    let within : 2 * l.a ≤ half_of a.q = omega (arith, c.loop-a-test.true, c.half-half.ensures) in (
      table_doubled F a.n (half_of a.q) l.a l.table d.new.table one d.auto.table l.invariant.0 d.ensures,
      λ m few most. multiples_less F a.n m (2 * (l.a + 1)) row d.new.table few
          (multiples_more a.q a.n l.a row l.table d.new.table one (omega (arith, within, half_lt a.q))
          (l.invariant.1 (2 * l.a) (omega arith) within) d.ensures),
    )

pub returns : goal.returns
returns c =
    let a = c.args in
    let l = c.loop-a in
    let b = begun (goal.at.returns c).Joined-half-gt2 in record {
      table = l.invariant.0;
      multiples = multiples_cong (field_of a.q) a.n (half_of a.q) _ _ l.table b.first
          (l.invariant.1 (half_of a.q) (omega (arith, c.loop-a-test.false, c.half-half.ensures, half_even a.q)) (omega arith));
    }
