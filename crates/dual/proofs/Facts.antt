-- THE CHECK: where it isn't refused it says yes exactly when the word is a codeword, and exactly when unencoding by the same order and series,
-- lent a slice of length k, succeeds. Refused, it says no; and it never meets 9.
-- Assumes nothing.
use mathlib.Core.Bool.{Bool, true, false, not}
use mathlib.Core.List.{List}
use mathlib.Core.Logic.{◌↔◌}
use mathlib.Core.Path.{◌≡◌, refl, sym, ap, ◌∙◌}
use Prim.Native.Nat.{ℕ, ◌-◌, ◌*◌, ◌≤◌}
use native.Mathlib.Omega.{arith}
use lib.Dec.{eqb, leb, ltb}
use lib.ListN.{length}
use Rattle.std.specs.Prelude.{Err}
use Rattle.field.specs.Curve.{is_curve, IsCurve, curve_of}
use Rattle.field.specs.Outcomes.{Done, number, refuse}
use Rattle.field.specs.declared.outcome.Refusal.TheVariants.{BadCurve, BadOrder, BadLength, BadValue, BadSeries, LowOrder}
use Rattle.points.specs.Series.{is_series, columns_of}
use Rattle.code.specs.Checks.{curve_checks, order_checks, bad_value, first_bad}
use Rattle.code.specs.Terms.{size}
use Rattle.code.specs.Unencoded.{unencoded}
use Rattle.dual.specs.Partner.{partner}
use Rattle.dual.specs.Orthogonal.{Codeword, Orthogonal}
use Rattle.dual.specs.Checked.{is_orthogonal, check_checks, checked}
use Rattle.dual.specs.Checked.{Verdict}
use Rattle.dual.proofs.Duality.{codeword_exactly, orthogonal_unencoded}
use Rattle.dual.proofs.Verdicts.{orthogonal_of_test, test_of_orthogonal}
use Rattle.dual.proofs.Checking.{checks_passed, refused_high, says_no, says}

-- six checks, none of them 9
six : (a b c d e f : Bool) (w : ℕ)
    → number (refuse a BadCurve (refuse b BadSeries (refuse c BadOrder (refuse d LowOrder (refuse e BadLength (refuse f (BadValue w) Done)))))) ≡ 9 → ⊥
six true b c d e f w h = omega (arith, h)
six false true c d e f w h = omega (arith, h)
six false false true d e f w h = omega (arith, h)
six false false false true e f w h = omega (arith, h)
six false false false false true f w h = omega (arith, h)
six false false false false false true w h = omega (arith, h)
six false false false false false false w h = omega (arith, h)

module _ (q series m : ℕ) (word : List ℕ) where
  module _ (accepted : (checked q series m word).outcome ≡ Done) where
    passes : check_checks q series m word ≡ Done
    unfolding checked
    passes = accepted

    yes_orthogonal : (checked q series m word).codeword ≡ true → Orthogonal q (columns_of q series) (partner q m) word
    yes_orthogonal e =
        orthogonal_of_test q (columns_of q series) (partner q m) word
        (ap (λ (v : Verdict). v.codeword) (says q series m word passes (is_orthogonal q (columns_of q series) (partner q m) word) refl) ∙ e)

    orthogonal_yes : Orthogonal q (columns_of q series) (partner q m) word → (checked q series m word).codeword ≡ true
    orthogonal_yes h =
        sym (ap (λ (v : Verdict). v.codeword) (says q series m word passes (is_orthogonal q (columns_of q series) (partner q m) word) refl))
        ∙ test_of_orthogonal q (columns_of q series) (partner q m) word h

    -- yes: the word is a codeword of order m
    pub yes_codeword : ((checked q series m word).codeword ≡ true) ↔ Codeword q (columns_of q series) m word
    yes_codeword =
        let h = checks_passed q series m word passes in
        let (to, from) = codeword_exactly q series m h.curve h.order word h.vector in
        (λ e. from (yes_orthogonal e), λ c. orthogonal_yes (to c))

    -- "it says yes exactly when unencoding by the same order and series, lent a slice of length k, succeeds"
    pub yes_unencoded : (slice : List ℕ) → length slice ≡ size q m
        → ((checked q series m word).codeword ≡ true) ↔ ((unencoded q series m word slice).outcome ≡ Done)
    yes_unencoded slice long =
        let h = checks_passed q series m word passes in
        let (to, from) = orthogonal_unencoded q series m h.curve h.order word h.vector h.named slice long in
        (λ e. to (yes_orthogonal e), λ d. orthogonal_yes (from d))

  -- "refused, it says no"
  pub refused_no : eqb (number (checked q series m word).outcome) 0 ≡ false → (checked q series m word).codeword ≡ false
  unfolding checked
  refused_no e = rw e

  -- "it never meets 9"
  pub never_nine : number (checked q series m word).outcome ≡ 9 → ⊥
  unfolding checked check_checks order_checks curve_checks
  never_nine =
      let bad = first_bad (bad_value false (q * q)) word in
      six (not (is_curve q)) (not (is_series series)) (leb (q * q * q) m) (ltb m (2 * (curve_of q).genus - 1)) (not (eqb (length word) (q * q * q)))
      (ltb bad (length word)) bad

  -- an order of n or more meets 2, whatever the word (T-08)
  pub checked_high : IsCurve q → is_series series ≡ true → q * q * q ≤ m → checked q series m word ≡ record { codeword = false; outcome = Err BadOrder }
  checked_high curve named h = sym (says_no q series m word (Err BadOrder) (sym (refused_high q series m word curve named h)) refl)
