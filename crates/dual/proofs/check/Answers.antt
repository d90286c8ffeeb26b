-- `dual::check` meets its contract: a refusal says no, and past the checks the sums against the partner's terms decide.
-- Assumes nothing.
use mathlib.Core.Path.{◌≡◌, sym, ap, ◌∙◌}
use Prim.Native.Nat.{ℕ, ◌+◌, ◌-◌, ◌*◌, ◌≤◌}
use native.Mathlib.Omega.{arith}
use Rattle.field.specs.Curve.{curve_of}
use Rattle.field.specs.declared.curve.Curve.{Curve}
use Rattle.field.proofs.Curves.{sizes}
use Rattle.std.proofs.lemmas.Result.{err_from_is_err_and}
use Rattle.field.proofs.Outcomes.{counted}
use Rattle.points.specs.Series.{columns_of}
use Rattle.dual.specs.Partner.{partner}
use Rattle.dual.specs.Checked.{is_orthogonal}
use Rattle.dual.proofs.Checking.{Passed, genus_range, checks_passed, passed_word, passed_partner, says_no, says}
use Rattle.dual.proofs.check.Goals as goal
use Rattle.dual.proofs.check.Goals.{After-at-curve, In_ok-check_call}

-- past the checks
past : (c : goal.In_ok-check_call) → let x = c.args in Passed x.q x.series x.m x.word.now
past c =
    let x = c.args in
    checks_passed x.q x.series x.m x.word.now (sym c.check_call.ensures ∙ c.in_ok-check_call.was)

-- the numbers of the curve
numbers : (c : goal.After-at-curve) → let q = c.args.q in
    (c.at-curve.result.points ≡ q * q * q) × (c.at-curve.result.genus ≡ (curve_of q).genus) × (1 ≤ (curve_of q).genus) × ((curve_of q).genus ≤ 28) × (q * q * q ≤ 512)
numbers c =
    let q = c.args.q in
    let curve = (past (goal.at.After-at-curve c).In_ok-check_call).curve in (
      ap (λ (v : Curve). v.points) c.at-curve.ensures,
      ap (λ (v : Curve). v.genus) c.at-curve.ensures,
      (genus_range q curve).0,
      (genus_range q curve).1,
      (sizes q curve).points,
    )

-- the partner
partner_is : (c : goal.After-at-curve) → let x = c.args in
    c.at-curve.result.points + 2 * c.at-curve.result.genus - 2 - x.m ≡ partner x.q x.m
partner_is c = omega (arith, (numbers (goal.at.After-at-curve c).After-at-curve).0, (numbers (goal.at.After-at-curve c).After-at-curve).1)

pub returns-in_err-check_call : goal.returns-in_err-check_call
returns-in_err-check_call c =
    let x = c.args in
    let p = err_from_is_err_and c.from_residual.result c.from_residual.ensures.1 in
    rw (p.1, p.2) (sym (says_no x.q x.series x.m x.word.now _ (sym c.in_err-check_call.was ∙ c.check_call.ensures) (counted _)))

pub at-curve-requires : goal.at-curve-requires
at-curve-requires c = (past (goal.at.at-curve-requires c).In_ok-check_call).curve

pub overflow_sub-partner : goal.overflow_sub-partner
overflow_sub-partner c =
    let n = numbers (goal.at.overflow_sub-partner c).After-at-curve in
    omega (arith, n.0, n.1, n.2, (past (goal.at.overflow_sub-partner c).In_ok-check_call).order)

pub overflow_sub-partner-2 : goal.overflow_sub-partner-2
overflow_sub-partner-2 c =
    let n = numbers (goal.at.overflow_sub-partner-2 c).After-at-curve in
    omega (arith, n.0, n.1, n.2, (past (goal.at.overflow_sub-partner-2 c).In_ok-check_call).order)

pub is_orthogonal-requires : goal.is_orthogonal-requires
is_orthogonal-requires c =
    let h = past (goal.at.is_orthogonal-requires c).In_ok-check_call in
    (passed_word _ _ _ _ h, omega (arith, partner_is (goal.at.is_orthogonal-requires c).After-at-curve, passed_partner _ _ _ _ h))

pub returns : goal.returns
returns c =
    let x = c.args in
    sym (says x.q x.series x.m x.word.now (sym c.check_call.ensures ∙ c.in_ok-check_call.was) c.is_orthogonal.result
    (c.is_orthogonal.ensures ∙ ap (λ (k : ℕ). is_orthogonal x.q (columns_of x.q x.series) k x.word.now) (partner_is (goal.at.returns c).After-at-curve)))
