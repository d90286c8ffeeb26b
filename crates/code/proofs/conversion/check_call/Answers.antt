-- `code::conversion::check_call` meets its contract: a refusal by 1 and 17 is the call's; past them, 3, 4 and 5 decide.
-- Assumes nothing.
use mathlib.Core.Bool.{Bool, true}
use mathlib.Core.Path.{◌≡◌, sym, ap, ◌∙◌}
use Rattle.field.specs.Curve.{is_curve}
use Rattle.field.specs.declared.curve.Curve.{Curve}
use Rattle.field.specs.Outcomes.{Done}
use Rattle.field.proofs.Curves.{curve_of_true}
use Rattle.field.proofs.Outcomes.{row_refused, handed_on, err_not_done}
use Rattle.points.specs.Series.{is_series}
use Rattle.code.specs.Checks.{curve_checks, slice_checks}
use Rattle.code.specs.Converted.{convert_checks}
use Rattle.code.proofs.Checks.{curve_rest, curve_passed, curve_follows}
use Rattle.code.proofs.conversion.check_call.Goals as goal
use Rattle.code.proofs.conversion.check_call.Goals.{After-curve, In_ok-curve}

-- what 1 and 17 came to
first : (c : goal.After-curve) → let x = c.args in c.curve.result ≡ curve_checks (is_curve x.q) x.series Done
first c =
    let x = c.args in
    c.curve.ensures ∙ ap (λ (taken : Bool). curve_checks taken x.series Done) c.is_curve.ensures

-- past them
named : (c : goal.In_ok-curve) → let x = c.args in (is_curve x.q ≡ true) × (is_series x.series ≡ true)
named c =
    let x = c.args in
    let w = curve_rest (is_curve x.q) x.series Done (sym (first (goal.at.In_ok-curve c).After-curve) ∙ c.in_ok-curve.was) in
    (w.0, w.1)

pub returns-in_err-curve : goal.returns-in_err-curve
unfolding convert_checks
returns-in_err-curve c =
    let x = c.args in rw (handed_on _ _ c.from_residual.ensures.1 c.in_err-curve.was) (row_refused (curve_checks (is_curve x.q) x.series) (curve_follows (is_curve x.q) x.series) _ (first (goal.at.returns-in_err-curve c).After-curve) _ (err_not_done c.in_err-curve.was))

pub at-curve-requires : goal.at-curve-requires
at-curve-requires c = curve_of_true c.args.q (named (goal.at.at-curve-requires c).In_ok-curve).0

pub returns : goal.returns
unfolding convert_checks
returns c =
    let x = c.args in
    let n = named (goal.at.returns c).In_ok-curve in
    c.slices.ensures
    ∙ ap (λ (v : Curve). slice_checks true v.symbols v.points x.word.now v.points x.room Done) c.at-curve.ensures
    ∙ sym (curve_passed (is_curve x.q) x.series _ n.0 n.1)
