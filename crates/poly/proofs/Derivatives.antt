-- The derivative of a polynomial: its value, and the derivative of a product by x - a.
-- Assumes nothing.
use mathlib.Core.Path.{◌≡◌, refl, sym, ap, ap₂, ◌∙◌}
use Prim.Native.Nat.{ℕ, suc, ◌+◌, ◌-◌, ◌*◌, ◌/◌, ◌%◌}
use native.Mathlib.Nat.{mul-zero, zero-mul, one-mul}
use native.Mathlib.Decide.{ℕ_discrete}
use native.Mathlib.Omega.{arith}
use Rattle.field.specs.Plus.{plus}
use Rattle.field.specs.Field.{Field}
use Rattle.field.specs.Power.{power}
use Rattle.field.specs.Sum.{sum}
use Rattle.field.proofs.Plus.{plus_ac, low_bit, bit_plus, plus_zero, zero_plus}
use Rattle.field.proofs.FieldLaws.{zero_lt, times_zero, zero_times, plus_times}
use Rattle.field.proofs.Powers.{power_add, power_times}
use Rattle.field.proofs.Sums.{sum_none, sum_suc, sum_cong, sum_blocks}
use Rattle.poly.specs.Inner.Polynomials.{value, derivative, linear}
use Rattle.poly.proofs.Values.{value_cong, value_plus, value_scale, value_extend, value_first}

-- ---- the derivative of any polynomial

pub derivative_even : (f : ℕ → ℕ) (i : ℕ) → derivative f (2 * i) ≡ f (2 * i + 1)
unfolding derivative
derivative_even f i =
    let odd : suc (2 * i) % 2 ≡ 1 = omega arith in
    let next : suc (2 * i) ≡ 2 * i + 1 = omega arith in
    ap (λ (v : ℕ). v * f (suc (2 * i))) odd ∙ one-mul (f (suc (2 * i))) ∙ ap f next

pub derivative_odd : (f : ℕ → ℕ) (i : ℕ) → i % 2 ≡ 1 → derivative f i ≡ 0
unfolding derivative
derivative_odd f i h = let even : suc i % 2 ≡ 0 = omega arith in ap (λ (v : ℕ). v * f (suc i)) even ∙ zero-mul (f (suc i))

module _ (F : Field) where
  -- its value: the coefficients of odd degree as those of a polynomial in x^2
  pub derivative_value : (n : ℕ) (f : ℕ → ℕ) (x : ℕ) → value F (n - 1) (derivative f) x ≡ value F (n / 2) (λ i. f (2 * i + 1)) (F.times x x)
  unfolding value
  derivative_value n f x =
      sym (value_extend F (n - 1) (2 * (n / 2)) (derivative f) x (omega arith) (λ i a b. derivative_odd f i (omega arith)))
      ∙ sum_blocks 2 (n / 2) term
      ∙ sum_cong (n / 2) (λ i. sum 2 (λ j. term (2 * i + j))) (λ i. F.times (f (2 * i + 1)) (power F (F.times x x) i)) (λ i l. pair i)
    where
      term : ℕ → ℕ
      term i = F.times (derivative f i) (power F x i)

      pair : (i : ℕ) → sum 2 (λ j. term (2 * i + j)) ≡ F.times (f (2 * i + 1)) (power F (F.times x x) i)
      pair i =
          let even : 2 * i + 0 ≡ 2 * i = omega arith in
          let twice : 2 * i ≡ i + i = omega arith in
          sum_suc 1 (λ j. term (2 * i + j))
          ∙ ap₂ plus
          (sum_suc 0 (λ j. term (2 * i + j))
          ∙ ap (λ (v : ℕ). plus v (term (2 * i + 0))) (sum_none (λ j. term (2 * i + j)))
          ∙ zero_plus (term (2 * i + 0))
          ∙ ap term even)
          (ap (λ (v : ℕ). F.times v (power F x (2 * i + 1))) (derivative_odd f (2 * i + 1) (omega arith)) ∙ zero_times F (power F x (2 * i + 1)))
          ∙ plus_zero (term (2 * i))
          ∙ ap₂ F.times (derivative_even f i)
          (ap (power F x) twice ∙ power_add F x i i ∙ sym (power_times F x x i))

  -- ---- the product rule

  bit_times : (n a b : ℕ) → n % 2 * F.times a b ≡ F.times a (n % 2 * b)
  bit_times n a b =
      low_bit (λ (v : ℕ). v * F.times a b ≡ F.times a (v * b)) (rw (zero-mul (F.times a b), zero-mul b) (sym (times_zero F a)))
      (rw (one-mul (F.times a b), one-mul b) refl) n

  -- the terms of even degree, and those of odd degree
  evens : (ℕ → ℕ) → ℕ → ℕ
  evens f i = suc i % 2 * f i

  odds : (ℕ → ℕ) → ℕ → ℕ
  odds f i = i % 2 * f i

  by_parity : (f : ℕ → ℕ) (i : ℕ) → f i ≡ plus (evens f i) (odds f i)
  unfolding evens odds
  by_parity f i = elim (ℕ_discrete (i % 2) 0) [
    | yes e ↦ let o : suc i % 2 ≡ 1 = omega arith in rw (o, e, one-mul (f i), zero-mul (f i)) (sym (plus_zero (f i)))
    | no d ↦
        let o : suc i % 2 ≡ 0 = omega arith in
        let e : i % 2 ≡ 1 = omega arith in
        rw (o, e, one-mul (f i), zero-mul (f i)) (sym (zero_plus (f i)))
  ]

  derivative_linear : (a : ℕ) (f : ℕ → ℕ) (i : ℕ) → derivative (linear F a f) i ≡ plus (F.times a (derivative f i)) (evens f i)
  unfolding derivative linear evens
  derivative_linear a f i =
      bit_plus (suc i) (F.times a (f (suc i))) (f i) ∙ ap (λ (v : ℕ). plus v (suc i % 2 * f i)) (bit_times (suc i) a (f (suc i)))

  -- x times the derivative has the terms of odd degree
  times_derivative : (n : ℕ) (f : ℕ → ℕ) (x : ℕ) → f n ≡ 0 → F.times x (value F n (derivative f) x) ≡ value F n (odds f) x
  unfolding derivative odds
  times_derivative n f x z =
      sym (plus_zero (F.times x (value F n (derivative f) x)))
      ∙ ap (plus (F.times x (value F n (derivative f) x))) (sym (zero-mul (f 0)))
      ∙ sym (value_first F n (odds f) x (rw (zero-mul (f 0)) (zero_lt F)))
      ∙ value_extend F n (suc n) (odds f) x (omega arith)
      (λ i a b. let e : i ≡ n = omega arith in rw e (ap (λ (v : ℕ). n % 2 * v) z ∙ mul-zero (n % 2)))

  pub value_derivative_linear : (n a : ℕ) (f : ℕ → ℕ) (x : ℕ) → f n ≡ 0
      → value F n (derivative (linear F a f)) x ≡ plus (F.times (plus x a) (value F n (derivative f) x)) (value F n f x)
  value_derivative_linear n a f x z =
      value_cong F n (derivative (linear F a f)) (λ i. plus (F.times a (derivative f i)) (evens f i)) x (λ i l. derivative_linear a f i)
      ∙ value_plus F n (λ i. F.times a (derivative f i)) (evens f) x
      ∙ ap (λ (v : ℕ). plus v (value F n (evens f) x)) (value_scale F n a (derivative f) x)
      ∙ sort (F.times a (value F n (derivative f) x)) (value F n (evens f) x) (F.times x (value F n (derivative f) x))
      ∙ sym (
      ap₂ plus (plus_times F x a (value F n (derivative f) x))
      (value_cong F n f (λ i. plus (evens f i) (odds f i)) x (λ i l. by_parity f i) ∙ value_plus F n (evens f) (odds f) x
      ∙ ap (plus (value F n (evens f) x)) (sym (times_derivative n f x z))))
    where
      sort : (u e o : ℕ) → plus u e ≡ plus (plus o u) (plus e o)
      sort u e o = simp (plus_ac, zero_plus)
