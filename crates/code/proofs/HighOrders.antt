-- An order of n or more meets 2 in every call that names a curve and a series, whatever else is passed in: "larger values meet refusals 2 and 6 at those places in the
-- order" (T-08).
-- Assumes nothing.
use mathlib.Core.Bool.{Bool, true}
use mathlib.Core.List.{List}
use mathlib.Core.Path.{◌≡◌, refl, ◌∙◌}
use Prim.Native.Nat.{ℕ, ◌*◌, ◌≤◌}
use borrow.Author.Tests.{le-leb}
use Rattle.field.specs.Curve.{is_curve, IsCurve, is_short, IsShort}
use Rattle.std.specs.Prelude.{Err}
use Rattle.field.specs.Outcomes.{Outcome}
use Rattle.field.specs.declared.outcome.Refusal.TheVariants.{BadOrder}
use Rattle.field.proofs.Curves.{curve_true, short_true}
use Rattle.points.specs.Series.{is_series}
use Rattle.code.specs.Checks.{order_checks}
use Rattle.code.specs.Answers.{answered}
use Rattle.code.specs.Encoded.{encoded}
use Rattle.code.specs.Unencoded.{unencoded}
use Rattle.code.specs.Recovered.{recovered}
use Rattle.code.specs.RecoveredLong.{recovered_long}
use Rattle.code.proofs.Checks.{curve_passed}
use Rattle.code.proofs.Answers.{refused}

module _ (q series m : ℕ) (named : is_series series ≡ true) (h : q * q * q ≤ m) where
  -- 2 comes before all that follows it
  pub order_high : (taken : Bool) → taken ≡ true → (rest : Outcome) → order_checks taken q series m rest ≡ Err BadOrder
  unfolding order_checks
  order_high taken t rest = curve_passed taken series _ t named ∙ rw (le-leb (q * q * q) m h)

  module _ (input slice : List ℕ) where
    pub encoded_high : IsCurve q → encoded q series m input slice ≡ answered (Err BadOrder) slice
    unfolding encoded
    encoded_high c = refused _ (Err BadOrder) slice _ (order_high (is_curve q) (curve_true q c) _) refl

    pub unencoded_high : IsCurve q → unencoded q series m input slice ≡ answered (Err BadOrder) slice
    unfolding unencoded
    unencoded_high c = refused _ (Err BadOrder) slice _ (order_high (is_curve q) (curve_true q c) _) refl

    pub recovered_high : IsShort q → recovered q series m input slice ≡ answered (Err BadOrder) slice
    unfolding recovered
    recovered_high c = refused _ (Err BadOrder) slice _ (order_high (is_short q) (short_true q c) _) refl

-- of long blocks, whatever the length of the work slice
pub recovered_long_high : (series m : ℕ) → is_series series ≡ true → 512 ≤ m → (input slice : List ℕ) (work : ℕ) → recovered_long series m input slice work ≡ answered (Err BadOrder) slice
unfolding recovered_long
recovered_long_high series m named h input slice work = refused _ (Err BadOrder) slice _ (order_high 8 series m named h true refl _) refl
