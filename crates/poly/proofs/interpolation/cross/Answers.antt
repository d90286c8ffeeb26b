-- `interpolation::cross` meets its contract. The invariant of its loop: the products with the first i coefficients are added up.
-- Assumes nothing.
use mathlib.Core.Path.{◌≡◌, ap, ◌∙◌}
use Prim.Native.Nat.{◌-◌, ◌*◌, ◌≤◌}
use lib.ListN.{length, get_or}
use Rattle.field.proofs.Fields.{field_of}
use Rattle.poly.proofs.LaneLaws.{length_lanes}
use Rattle.poly.proofs.Crossings.{added_to, add_zero, crossed_none, crossed_turn, turn_place}
use Rattle.poly.proofs.interpolation.cross.Goals as goal
use Rattle.poly.proofs.interpolation.cross.Goals.{In-loop-i, else-f-i-ne0, else-g-i-ne0, then-f-i-ne0, then-g-i-ne0}

-- the place of the coefficient's products
place : (c : goal.In-loop-i) → c.args.w * c.loop-i.i ≤ c.args.at
place c = turn_place c.args.w (length c.args.f.now) c.loop-i.i c.args.at c.loop-i-test.true c.requires.0.low

pub loop-i-init : goal.loop-i-init
loop-i-init c = crossed_none _ _ _ _ _ _ _

pub loop-i-preserved : goal.loop-i-preserved
loop-i-preserved c =
    let a = c.args in
    let l = c.loop-i in
    let F = field_of a.q in
    let from = a.at - a.w * l.i in
    let s₁ = c.if-g-i-ne0.sum in
    let long : length l.sum ≡ 16 = ap length l.invariant ∙ length_lanes _ in
    let e₁ : s₁ ≡ added_to F l.sum a.left.now from (get_or a.g.now l.i 0) =
    elim c.if-g-i-ne0.branch [ then-g-i-ne0 w ↦ w.sum-is ∙ w.add-sum.ensures | else-g-i-ne0 w ↦ w.sum-is ∙ add_zero F l.sum a.left.now from _ long w.if-g-i-ne0.false ] in
    let e₂ : c.if-f-i-ne0.sum ≡ added_to F s₁ a.right.now from (get_or a.f.now l.i 0) =
    elim c.if-f-i-ne0.branch [ then-f-i-ne0 w ↦ w.sum-is ∙ w.add-sum-then-f-i-ne0.ensures | else-f-i-ne0 w ↦ w.sum-is ∙ add_zero F s₁ a.right.now from _ (ap length e₁ ∙ length_lanes _) w.if-f-i-ne0.false ] in
    crossed_turn F a.w a.f.now a.g.now a.left.now a.right.now a.at
    l.i l.sum s₁ c.if-f-i-ne0.sum (place (goal.at.loop-i-preserved c).In-loop-i) l.invariant e₁ e₂
