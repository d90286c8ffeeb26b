-- The indicator of a root: its coefficients are symbols, and its values are 1 and 0.
-- Assumes nothing.
use mathlib.Core.Path.{◌≡◌, refl, ap, ◌∙◌}
use Prim.Native.Nat.{ℕ, zero, suc, ◌+◌, ◌≤◌, ◌<◌}
use native.Mathlib.Omega.{arith}
use borrow.Author.Tests.{ne_eqb}
use lib.Dec.{eqb}
use Rattle.field.specs.Plus.{plus}
use Rattle.field.specs.Field.{Field}
use Rattle.field.specs.Power.{power}
use Rattle.field.proofs.Plus.{plus_self, plus_zero, zero_plus}
use Rattle.field.proofs.Powers.{power_lt}
use Rattle.poly.specs.Inner.Polynomials.{value}
use Rattle.poly.specs.Inner.Indicators.{indicator}
use Rattle.poly.proofs.Lists.{one_if_le}
use Rattle.poly.proofs.Values.{value_constant}
use Rattle.poly.proofs.ClosedForm.{falling, at_root, at_other}

module _ (F : Field) where
  pub indicator_lt : (n b j : ℕ) → indicator F n b j < F.size
  unfolding indicator
  indicator_lt n b j = F.plus_lt _ _ (power_lt F b _) (omega (arith, one_if_le (eqb j 0), F.two_le))

  -- a constant more than the falling powers
  indicator_value : (n b y : ℕ) → value F (suc n) (indicator F (suc n) b) y ≡ plus (value F (suc n) (falling F (suc n) b) y) 1
  unfolding indicator
  indicator_value n b y =
      value_constant F n (falling F (suc n) b) (indicator F (suc n) b) 1 y (power_lt F b _) F.two_le refl
      (λ i l. rw (ne_eqb (suc i) 0 (λ e. omega arith)) (plus_zero _))

  pub indicator_here : (n h b : ℕ) → n ≡ h + h → 1 ≤ h → value F n (indicator F n b) b ≡ 1
  indicator_here zero h b even some = absurd (omega arith)
  indicator_here (suc n) h b even some = indicator_value n b b ∙ ap (λ (x : ℕ). plus x 1) (at_root F (suc n) h even b) ∙ zero_plus 1

  pub indicator_there : (n b y : ℕ) → 0 < n → b < F.size → y < F.size → (b ≡ y → ⊥) → plus (power F b n) b ≡ plus (power F y n) y
      → value F n (indicator F n b) y ≡ 0
  indicator_there zero b y pos bl yl d e = absurd (omega arith)
  indicator_there (suc n) b y pos bl yl d e = indicator_value n b y ∙ ap (λ (x : ℕ). plus x 1) (at_other F (suc n) b y bl yl d e) ∙ plus_self 1
