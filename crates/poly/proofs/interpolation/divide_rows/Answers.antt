-- `poly::interpolation::divide_rows` meets its contract. The invariant of its loop: the first t rows are divided.
-- Assumes nothing.
use mathlib.Core.Path.{◌≡◌, sym, ap, ◌∙◌}
use Prim.Native.Nat.{ℕ, ◌+◌, ◌-◌, ◌*◌, ◌≤◌, ◌<◌}
use native.Mathlib.Omega.{arith}
use lib.ListN.{length, get_or}
use Rattle.field.proofs.Fields.{field_of}
use Rattle.poly.specs.Inner.Ranges.{part}
use Rattle.poly.specs.Inner.Rows.{scaled}
use Rattle.poly.proofs.Parts.{length_part, below_part}
use Rattle.poly.proofs.Products.{others_lt, others_ne_zero}
use Rattle.poly.proofs.Divisions.{divide_room, divide_turn}
use Rattle.poly.proofs.interpolation.divide_rows.Goals as goal
use Rattle.poly.proofs.interpolation.divide_rows.Goals.{In-loop-t}

room : (c : goal.In-loop-t) → 16 * c.loop-t.t + 16 ≤ length c.loop-t.rows
room c =
    let l = c.loop-t in
    divide_room (field_of c.args.q) c.args.columns.now c.args.from (c.args.to - c.args.from) l.t c.args.rows.now l.rows
    c.requires.rows_len.0 c.loop-t-test.true l.auto.rows

pub divide_row-requires : goal.divide_row-requires
divide_row-requires c =
    let F = field_of c.args.q in
    let l = c.loop-t in
    let at = 16 * l.t in
    let here : c.args.from + l.t < c.args.to = omega (arith, c.loop-t-test.true) in
    let v = c.slopes-slopes.ensures.at l.t here in (
      rw v (others_lt F c.args.columns.now (c.args.from + l.t) _),
      λ e. others_ne_zero F c.args.columns.now (c.args.from + l.t) c.requires.below.0 c.requires.below.4 (omega (arith, c.requires.below.2)) (sym v ∙ e),
      λ i. below_part F.size l.rows at (at + 16) l.invariant.below i,
      length_part l.rows at (at + 16) (omega arith) (room (goal.at.divide_row-requires c).In-loop-t) ∙ omega arith,
    )

pub loop-t-preserved : goal.loop-t-preserved
loop-t-preserved c =
    let F = field_of c.args.q in
    let l = c.loop-t in
    let at = 16 * l.t in
    let v₀ = get_or c.slopes-slopes.result l.t 0 in
    let v = c.slopes-slopes.ensures.at l.t (omega arith) in
    let long : length (part l.rows at (at + 16)) ≡ 16
    = length_part l.rows at (at + 16) (omega arith) (room (goal.at.loop-t-preserved c).In-loop-t) ∙ omega arith in
    divide_turn F c.args.columns.now c.args.from (c.args.to - c.args.from) l.t c.args.rows.now l.rows
    c.requires.rows_len.0 c.loop-t-test.true l.auto.rows (F.inverse v₀) _ l.invariant
    (ap F.inverse v)
    (c.divide_row.ensures ∙ ap (λ (n : ℕ). scaled F (F.inverse v₀) n (part l.rows at (at + 16))) long)
