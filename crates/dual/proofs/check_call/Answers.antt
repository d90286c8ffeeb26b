-- `dual::check_call` meets its contract: each way out has the tests that led there.
-- Assumes nothing.
use mathlib.Core.Bool.{Bool, true, false}
use mathlib.Core.Path.{◌≡◌, sym, ap, ◌∙◌}
use Prim.Native.Nat.{◌-◌, ◌*◌, ◌≤◌, ◌<◌}
use native.Mathlib.Omega.{arith}
use lib.ListN.{length}
use Rattle.field.specs.Curve.{is_curve, IsCurve, curve_of}
use Rattle.field.specs.declared.curve.Curve.{Curve}
use Rattle.field.specs.Outcomes.{Done}
use Rattle.field.proofs.Curves.{curve_of_true}
use Rattle.field.proofs.Outcomes.{not_done, handed_on, err_not_done}
use Rattle.points.specs.Series.{is_series}
use Rattle.code.specs.Checks.{order_checks, value_check}
use Rattle.code.proofs.Checks.{order_done}
use Rattle.dual.proofs.Checking.{genus_range, refused_order, refused_low, refused_length, values_decide}
use Rattle.dual.proofs.check_call.Goals as goal
use Rattle.dual.proofs.check_call.Goals.{After-at-curve, After-order, Else-m-curve, Else-word-curve, In_ok-order}

-- what 1, 17 and 2 came to
order_is : (c : goal.After-order) → let x = c.args in c.order.result ≡ order_checks (is_curve x.q) x.q x.series x.m Done
order_is c =
    let x = c.args in
    c.order.ensures ∙ ap (λ (t : Bool). order_checks t x.q x.series x.m Done) c.is_curve.ensures

-- past them
ordered : (c : goal.In_ok-order) → let x = c.args in
    IsCurve x.q × (x.m < x.q * x.q * x.q) × (is_series x.series ≡ true)
ordered c =
    let x = c.args in
    let w = order_done (is_curve x.q) x.q x.series x.m (sym (order_is (goal.at.In_ok-order c).After-order) ∙ c.in_ok-order.was) in
    (curve_of_true x.q w.0, w.1, w.2)

-- the numbers of the curve
points : (c : goal.After-at-curve) → let x = c.args in c.at-curve.result.points ≡ x.q * x.q * x.q
points c = ap (λ (v : Curve). v.points) c.at-curve.ensures

genus_is : (c : goal.After-at-curve) → c.at-curve.result.genus ≡ (curve_of c.args.q).genus
genus_is c = ap (λ (v : Curve). v.genus) c.at-curve.ensures

-- past 19
high : (c : goal.Else-m-curve) → 2 * (curve_of c.args.q).genus - 1
    ≤ c.args.m
high c = omega (arith, genus_is (goal.at.Else-m-curve c).After-at-curve, c.if-m-curve.false)

-- past 3
long : (c : goal.Else-word-curve) → let x = c.args in
    length x.word.now ≡ x.q * x.q * x.q
long c = c.if-word-curve.false ∙ points (goal.at.Else-word-curve c).After-at-curve

pub returns-in_err-order : goal.returns-in_err-order
returns-in_err-order c =
    let x = c.args in rw (handed_on _ _ c.from_residual.ensures.1 c.in_err-order.was) (refused_order x.q x.series x.m x.word.now _ (order_is (goal.at.returns-in_err-order c).After-order) (not_done c.order.result (err_not_done c.in_err-order.was)))

pub at-curve-requires : goal.at-curve-requires
at-curve-requires c = (ordered (goal.at.at-curve-requires c).In_ok-order).0

pub overflow_sub-curve : goal.overflow_sub-curve
overflow_sub-curve c = omega (arith, genus_is (goal.at.overflow_sub-curve c).After-at-curve, (genus_range _ (ordered (goal.at.overflow_sub-curve c).In_ok-order).0).0)

pub returns-then-m-curve : goal.returns-then-m-curve
returns-then-m-curve c =
    let x = c.args in
    let o = ordered (goal.at.returns-then-m-curve c).In_ok-order in
    refused_low x.q x.series x.m x.word.now o.0 o.2 o.1 (omega (arith, genus_is (goal.at.returns-then-m-curve c).After-at-curve, c.if-m-curve.true))

pub returns-then-word-curve : goal.returns-then-word-curve
returns-then-word-curve c =
    let x = c.args in
    let o = ordered (goal.at.returns-then-word-curve c).In_ok-order in
    refused_length x.q x.series x.m x.word.now o.0 o.2 o.1 (high (goal.at.returns-then-word-curve c).Else-m-curve) (λ e. c.if-word-curve.true (e ∙ sym (points (goal.at.returns-then-word-curve c).After-at-curve)))

pub returns : goal.returns
returns c =
    let x = c.args in
    let o = ordered (goal.at.returns c).In_ok-order in
    values_decide x.q x.series x.m x.word.now o.0 o.2 o.1 (high (goal.at.returns c).Else-m-curve) (long (goal.at.returns c).Else-word-curve) _
    (c.values.ensures ∙ ap (λ (v : Curve). value_check false v.symbols x.word.now Done) c.at-curve.ensures)
