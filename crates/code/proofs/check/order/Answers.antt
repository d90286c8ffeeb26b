-- `code::check::order` meets its contract: a refusal by 1 and 17 is the row's; past them, 2 decides.
-- Assumes nothing.
use mathlib.Core.Path.{◌≡◌, sym, ap, ◌∙◌}
use mathlib.Core.Bool.{true}
use Prim.Native.Nat.{◌*◌}
use native.Mathlib.Omega.{arith}
use borrow.Author.Tests.{le-leb, lt-leb}
use Rattle.field.specs.declared.curve.Curve.{Curve}
use Rattle.field.specs.Outcomes.{Done}
use Rattle.field.proofs.Outcomes.{row_refused, handed_on, err_not_done}
use Rattle.points.specs.Series.{is_series}
use Rattle.code.specs.Checks.{curve_checks, order_checks}
use Rattle.code.proofs.Checks.{curve_rest, curve_passed, curve_follows}
use Rattle.code.proofs.check.order.Goals as goal
use Rattle.code.proofs.check.order.Goals.{After-at-curve, In_ok-curve}

-- past 1 and 17
named : (c : goal.In_ok-curve) → let x = c.args in (x.taken ≡ true) × (is_series x.series ≡ true)
named c =
    let x = c.args in
    let w = curve_rest x.taken x.series Done (sym c.curve.ensures ∙ c.in_ok-curve.was) in
    (w.0, w.1)

points : (c : goal.After-at-curve) → let q = c.args.q in c.at-curve.result.points ≡ q * q * q
points c = ap (λ (v : Curve). v.points) c.at-curve.ensures

pub returns-in_err-curve : goal.returns-in_err-curve
unfolding order_checks
returns-in_err-curve c =
    let x = c.args in rw (handed_on _ _ c.from_residual.ensures.1 c.in_err-curve.was) (row_refused (curve_checks x.taken x.series) (curve_follows x.taken x.series) _ c.curve.ensures _ (err_not_done c.in_err-curve.was))

pub at-curve-requires : goal.at-curve-requires
at-curve-requires c = c.requires (named (goal.at.at-curve-requires c).In_ok-curve).0

pub returns-then-curve-m : goal.returns-then-curve-m
unfolding order_checks
returns-then-curve-m c =
    let x = c.args in
    let n = named (goal.at.returns-then-curve-m c).In_ok-curve in
    sym (curve_passed x.taken x.series _ n.0 n.1 ∙ rw (le-leb (x.q * x.q * x.q) x.m (omega (arith, c.if-curve-m.true, points (goal.at.returns-then-curve-m c).After-at-curve))))

pub returns : goal.returns
unfolding order_checks
returns c =
    let x = c.args in
    let n = named (goal.at.returns c).In_ok-curve in
    sym (curve_passed x.taken x.series _ n.0 n.1 ∙ rw (lt-leb (x.q * x.q * x.q) x.m (omega (arith, c.if-curve-m.false, points (goal.at.returns c).After-at-curve))))
