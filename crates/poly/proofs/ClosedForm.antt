-- Interpolation in closed form, at n roots of y^n + y + a, for one a and an even n. So the sum of b^(n - 1 - j)·y^j over j < n, plus 1, is at
-- these roots y an indicator: 1 at y = b, and 0 where y is another root than b.
-- Assumes nothing.
use mathlib.Core.Path.{◌≡◌, sym, ap, ap₂, ◌∙◌}
use Prim.Native.Nat.{ℕ, zero, suc, ◌+◌, ◌-◌, ◌<◌}
use native.Mathlib.Omega.{arith}
use Rattle.field.specs.Plus.{plus}
use Rattle.field.specs.Field.{Field}
use Rattle.field.specs.Power.{power}
use Rattle.field.specs.Sum.{sum}
use Rattle.field.proofs.Plus.{plus_ac, plus_self, zero_plus, eq_of_plus_zero}
use Rattle.field.proofs.FieldLaws.{times_zero, plus_times, times_left_comm, times_one_right, inverse_times, times_cancel}
use Rattle.field.proofs.Powers.{power_zero, power_suc, power_add, power_lt}
use Rattle.field.proofs.Sums.{sum_cong, sum_plus, sum_single, sum_even}
use Rattle.poly.specs.Inner.Polynomials.{value}
use Rattle.poly.proofs.Values.{value_none, value_suc, value_cong, value_scale, value_sum, value_lt}

-- what stands twice in a sum goes
middle : (a c d : ℕ) → plus (plus a c) (plus c d) ≡ plus a d
middle a c d = simp plus_ac

crossed : (p u r v : ℕ) → plus p u ≡ plus r v → plus p r ≡ plus u v
crossed p u r v e = let f : plus (plus r v) (plus u r) ≡ plus u v = simp plus_ac in sym (middle p u r) ∙ ap (λ (x : ℕ). plus x (plus u r)) e ∙ f

module _ (F : Field) where
  -- the coefficients b^(n - 1), .., b, 1
  abbrev pub falling : ℕ → ℕ → ℕ → ℕ
  falling n b j = power F b (n - 1 - j)

  -- (b - y)·(b^(n - 1) + b^(n - 2)·y + .. + y^(n - 1)) = b^n - y^n
  geometric : (n b y : ℕ) → F.times (plus b y) (value F n (falling n b) y) ≡ plus (power F b n) (power F y n)
  geometric zero b y =
      ap (F.times (plus b y)) (value_none F (falling 0 b) y) ∙ times_zero F (plus b y)
      ∙ sym (ap₂ plus (power_zero F b) (power_zero F y) ∙ plus_self 1)
  geometric (suc n) b y =
      let S = value F n (falling n b) y in
      let B = power F b n in
      let Y = power F y n in
      let last : suc n - 1 - n ≡ 0 = omega arith in
      ap (F.times (plus b y))
      (value_suc F n (falling (suc n) b) y
      ∙ ap₂ plus
      (value_cong F n (falling (suc n) b) (λ j. F.times b (falling n b j)) y
      (λ j l. let e : suc n - 1 - j ≡ suc (n - 1 - j) = omega arith in ap (power F b) e ∙ power_suc F b (n - 1 - j))
      ∙ value_scale F n b (falling n b) y)
      (ap (λ (e : ℕ). F.times (power F b e) Y) last ∙ ap (λ (v : ℕ). F.times v Y) (power_zero F b) ∙ F.times_one Y (power_lt F y n)))
      ∙ F.times_plus (plus b y) (F.times b S) Y
      ∙ ap₂ plus
      (times_left_comm F (plus b y) b S ∙ ap (F.times b) (geometric n b y) ∙ F.times_plus b B Y)
      (plus_times F b y Y)
      ∙ middle (F.times b B) (F.times b Y) (F.times y Y)
      ∙ sym (ap₂ plus (power_suc F b n) (power_suc F y n))

  module _ (n h : ℕ) (even : n ≡ h + h) where
    pub at_root : (b : ℕ) → value F n (falling n b) b ≡ 0
    unfolding value
    at_root b =
        sum_cong n (λ j. F.times (falling n b j) (power F b j)) (λ j. power F b (n - 1))
        (λ j l. let e : n - 1 - j + j ≡ n - 1 = omega arith in sym (power_add F b (n - 1 - j) j) ∙ ap (power F b) e)
        ∙ ap (λ (k : ℕ). sum k (λ j. power F b (n - 1))) even ∙ sum_even h (power F b (n - 1))

  -- b and y are roots of y^n + y + a, for one a
  pub at_other : (n b y : ℕ) → b < F.size → y < F.size → (b ≡ y → ⊥) → plus (power F b n) b ≡ plus (power F y n) y → value F n (falling n b) y ≡ 1
  at_other n b y bl yl d e =
      let ne : plus b y ≡ 0 → ⊥ = λ z. d (eq_of_plus_zero b y z) in
      let l = F.plus_lt b y bl yl in
      let same : plus (power F b n) (power F y n) ≡ plus b y = crossed (power F b n) b (power F y n) y e in
      sym (times_cancel F (plus b y) (value F n (falling n b) y) l ne (value_lt F n (falling n b) y))
      ∙ ap (F.times (F.inverse (plus b y))) (geometric n b y ∙ same) ∙ inverse_times F (plus b y) l ne

  -- the sum over the first t roots
  abbrev pub summed : ℕ → (ℕ → ℕ) → (ℕ → ℕ) → ℕ → ℕ → ℕ
  summed n ys values t j = sum t (λ u. F.times (values u) (falling n (ys u) j))

  module _ (n h : ℕ) (even : n ≡ h + h) (ys values : ℕ → ℕ) where
    -- with the constant, THE INTERPOLATION
    pub summed_value : ((u : ℕ) → u < n → ys u < F.size) → ((u : ℕ) → u < n → values u < F.size)
        → ((s u : ℕ) → s < n → u < n → ys s ≡ ys u → s ≡ u)
        → ((s u : ℕ) → s < n → u < n → plus (power F (ys s) n) (ys s) ≡ plus (power F (ys u) n) (ys u))
        → (s : ℕ) → s < n → plus (value F n (summed n ys values n) (ys s)) (summed n ys values n (n - 1)) ≡ values s
    summed_value yl vl different roots s sl =
        ap₂ plus (value_sum F n n (λ u j. F.times (values u) (falling n (ys u) j)) (ys s)) constant
        ∙ sym (sum_plus n (λ u. value F n (λ j. F.times (values u) (falling n (ys u) j)) (ys s)) (λ u. F.times (values u) 1))
        ∙ sum_cong n _ term
        (λ u l.
        ap (λ (v : ℕ). plus v (F.times (values u) 1)) (value_scale F n (values u) (falling n (ys u)) (ys s)) ∙ sym (F.times_plus (values u) _ 1))
        ∙ sum_single n s term sl
        (λ u l d. ap (λ (v : ℕ). F.times (values u) (plus v 1))
        (at_other n (ys u) (ys s) (yl u l) (yl s sl) (λ e. d (different u s l sl e)) (roots u s l sl))
        ∙ ap (F.times (values u)) (plus_self 1) ∙ times_zero F (values u))
        ∙ ap (λ (v : ℕ). F.times (values s) (plus v 1)) (at_root n h even (ys s))
        ∙ ap (F.times (values s)) (zero_plus 1) ∙ times_one_right F (values s) (vl s sl)
      where
        term : ℕ → ℕ
        term u = F.times (values u) (plus (value F n (falling n (ys u)) (ys s)) 1)

        constant : summed n ys values n (n - 1) ≡ sum n (λ u. F.times (values u) 1)
        constant =
            sum_cong n (λ u. F.times (values u) (falling n (ys u) (n - 1))) (λ u. F.times (values u) 1)
            (λ u l. let e : n - 1 - (n - 1) ≡ 0 = omega arith in
            ap (λ (k : ℕ). F.times (values u) (power F (ys u) k)) e ∙ ap (F.times (values u)) (power_zero F (ys u)))
