-- The terms x^i y^j with j < q and weight q i + (q + 1) j form an order domain on points of the curve y^q + y = x^(q+1):
-- where a product has a y^q, it is replaced by x^(q+1), of the same weight, and y, of a lower one. Any field and any q > 1 do.
-- Assumes nothing.
use mathlib.Core.Path.{◌≡◌, sym, ap, ap₂, subst₂}
use mathlib.Core.Logic.{◌≢◌}
use Prim.Native.Nat.{ℕ, suc, ◌+◌, ◌-◌, ◌*◌, ◌<◌}
use native.Mathlib.Nat.{mul-add, mul-suc, mul_comm, mul-le-mul_left}
use native.Mathlib.Decide.{dec_lt, ℕ_discrete}
use native.Mathlib.Omega.{arith}
use lib.Dec.{T, eqb}
use Rattle.field.specs.Plus.{plus}
use Rattle.field.specs.Field.{Field}
use Rattle.field.specs.Power.{power}
use Rattle.field.proofs.Plus.{plus_ac, plus_self, zero_plus, eq_of_plus_zero}
use Rattle.field.proofs.FieldLaws.{plus_times, times_left_comm, times_one_right}
use Rattle.field.proofs.Powers.{power_zero, power_one, power_add, power_suc}
use Rattle.poly.proofs.Bools.{T_true}
use Rattle.poly.proofs.Below.{Among}
use Rattle.poly.proofs.Keep.{keep}
use Rattle.poly.proofs.Span.{Span, span_same, span_none, span_single}
use Rattle.poly.proofs.OrderDomain.{OrderDomain}
use Rattle.poly.proofs.OrderInterpolation.{Polynomial, polynomial_same, polynomial_plus, polynomial_scale, indicator}
use Rattle.code.specs.Terms.{is_term, x_power, y_power}
use Rattle.code.proofs.Weights.{weight_of_powers_lem, y_lt, y_of_weight, x_of_weight, term_of_weight}

-- the weight of x^i y^j
abbrev weight_of_powers : ℕ → ℕ → ℕ → ℕ
weight_of_powers q i j = q * i + suc q * j

-- the weight of a product, without and with a y^q in it
module _ (q i j a b : ℕ) where
  weight_low : weight_of_powers q i j + weight_of_powers q a b ≡ weight_of_powers q (i + a) (j + b)
  weight_low = omega (arith, mul-add q i a, mul-add (suc q) j b)

  weight_high : (r : ℕ) → j + b ≡ q + r → weight_of_powers q i j + weight_of_powers q a b ≡ weight_of_powers q (i + a + suc q) r
  weight_high r e =
      omega (
        arith,
        mul-add q i a,
        mul-add q (i + a) (suc q),
        mul-add (suc q) j b,
        ap (λ (x : ℕ). suc q * x) e,
        mul-add (suc q) q r,
        mul_comm q (suc q),
      )

weight_lower : (q i r : ℕ) → 1 < q → weight_of_powers q i (suc r) < weight_of_powers q (i + suc q) r
weight_lower q i r h = omega (arith, mul-add q i (suc q), mul-suc (suc q) r, mul-suc q q, mul-le-mul_left q h)

module _ (F : Field) (q : ℕ) (two_le_q : 1 < q) (n : ℕ) (px py : ℕ → ℕ)
    (curve : (t : ℕ) → t < n → plus (power F (py t) q) (py t) ≡ power F (px t) (suc q)) where
  open F use {size, two_le, times, times_lt, times_comm, times_assoc, times_plus, times_one}

  -- x^i y^j at the point t
  unfoldable pub powers : ℕ → ℕ → ℕ → ℕ
  powers i j t = times (power F (px t) i) (power F (py t) j)

  powers_times : (i j a b t : ℕ) → times (powers i j t) (powers a b t) ≡ powers (i + a) (j + b) t
  unfolding powers
  powers_times i j a b t = simp (powers, power_add F, times_assoc, times_left_comm F)

  -- y^(q + r) = x^(q+1) y^r + y^(r+1)
  powers_high : (i r t : ℕ) → t < n → powers i (q + r) t ≡ plus (powers (i + suc q) r t) (powers i (suc r) t)
  unfolding powers
  powers_high i r t l =
      rw (powers, power_add F (py t) q r, replaced, plus_times F, times_plus, power_suc F (py t) r, power_add F (px t) i (suc q), times_assoc)
    where
      replaced : power F (py t) q ≡ plus (power F (px t) (suc q)) (py t)
      replaced = rw (← curve t l) (simp plus_ac)

  unfoldable pub term : ℕ → ℕ → ℕ
  unfolding powers
  term w = powers (x_power q w) (y_power q w)

  pub term_lt : (w t : ℕ) → term w t < size
  unfolding term
  term_lt w t = times_lt _ _

  term_is : (i : ℕ) {j : ℕ} → j < q → (t : ℕ) → term (weight_of_powers q i j) t ≡ powers i j t
  unfolding term
  term_is i {j} l t = ap₂ (λ (a b : ℕ). powers a b t) (x_of_weight q (omega arith) i j l) (y_of_weight q (omega arith) i j l)

  -- w is a weight, and its term is the product of the terms of weights u and v, up to terms of lower weight
  abbrev pub Leads : ℕ → ℕ → ℕ → Type 0
  Leads u v w = T (is_term q w) × Span F term (λ t. t < n) (Among (is_term q) w) (λ t. plus (times (term u t) (term v t)) (term w t))

  is_weight_lem : (i : ℕ) {j : ℕ} → j < q → T (is_term q (weight_of_powers q i j))
  is_weight_lem i {j} l = rw (term_of_weight q (omega arith) i j l) tt

  module _ (i j a b : ℕ) (jl : j < q) (bl : b < q) where
    term_times : (t : ℕ) → times (term (weight_of_powers q i j) t) (term (weight_of_powers q a b) t) ≡ powers (i + a) (j + b) t
    term_times t = rw (term_is i jl t, term_is a bl t) (powers_times i j a b t)

    leads_low : j + b < q → Leads (weight_of_powers q i j) (weight_of_powers q a b) (weight_of_powers q (i + a) (j + b))
    leads_low l = (is_weight_lem (i + a) l, span_none λ t h. rw (term_times t, term_is (i + a) l t, plus_self))

    leads_high : (r : ℕ) → j + b ≡ q + r → Leads (weight_of_powers q i j) (weight_of_powers q a b) (weight_of_powers q (i + a + suc q) r)
    leads_high r e = (
      is_weight_lem (i + a + suc q) rl,
      span_same (span_single (weight_of_powers q (i + a) (suc r)) (weight_lower q (i + a) r two_le_q, is_weight_lem (i + a) rl') (term_lt _))
          λ t h. rw (term_times t, e, powers_high (i + a) r t h, term_is (i + a + suc q) rl t, term_is (i + a) rl' t) (simp (plus_ac, zero_plus)),
    )
      where
        rl : r < q
        rl = omega arith

        rl' : suc r < q
        rl' = omega arith

    leads_of : Leads (weight_of_powers q i j) (weight_of_powers q a b) (weight_of_powers q i j + weight_of_powers q a b)
    leads_of = go (dec_lt (j + b) q)
      where
        go : Dec (j + b < q) → Leads (weight_of_powers q i j) (weight_of_powers q a b) (weight_of_powers q i j + weight_of_powers q a b)
        go (yes l) = rw (weight_low q i j a b) (leads_low l)
        go (no l) = let e : j + b ≡ q + (j + b - q) = omega arith in rw (weight_high q i j a b (j + b - q) e) (leads_high (j + b - q) e)

  pub leads : (u v : ℕ) → T (is_term q u) → T (is_term q v) → Leads u v (u + v)
  leads u v hu hv =
      subst₂ (λ (x y : ℕ). Leads x y (x + y)) (of u hu) (of v hv)
      (leads_of (x_power q u) (y_power q u) (x_power q v) (y_power q v) (y_lt q (omega arith) u) (y_lt q (omega arith) v))
    where
      of : (w : ℕ) → T (is_term q w) → weight_of_powers q (x_power q w) (y_power q w) ≡ w
      of w h = weight_of_powers_lem q (omega arith) w (T_true (is_term q w) h)

  unfoldable pub hermitian : OrderDomain F n
  hermitian =
      record {
        is_weight = is_term q;
        term = term;
        term_lt = term_lt;
        weight_add = λ u v hu hv. (leads u v hu hv).0;
        leading =
            λ u v hu hv. (leads u v hu hv).1;
      }

  -- if the points are different and their coordinates are elements, x and y tell them apart
  module _ (xl : (t : ℕ) → px t < size) (yl : (t : ℕ) → py t < size)
      (different : (s t : ℕ) → s < n → t < n → px s ≡ px t → py s ≡ py t → s ≡ t) where
    powers_polynomial : (i j : ℕ) → j < q → Polynomial hermitian (powers i j)
    unfolding hermitian
    powers_polynomial i j l = (
      suc (weight_of_powers q i j),
      span_same (span_single (weight_of_powers q i j) (omega arith, is_weight_lem i l)
          (term_lt (weight_of_powers q i j))) λ t h. sym (term_is i l t),
    )

    one_polynomial : Polynomial hermitian (λ t. 1)
    unfolding powers
    one_polynomial =
        polynomial_same hermitian (powers_polynomial 0 0 (omega arith))
        λ t. sym (rw (powers, power_zero F (px t), power_zero F (py t)) (times_one 1 two_le))

    x_polynomial : Polynomial hermitian px
    unfolding powers
    x_polynomial =
        polynomial_same hermitian (powers_polynomial 1 0 (omega arith))
        λ t. sym (rw (powers, power_zero F, power_one F (px t) (xl t)) (times_one_right F (px t) (xl t)))

    y_polynomial : Polynomial hermitian py
    unfolding powers
    y_polynomial =
        polynomial_same hermitian (powers_polynomial 0 1 two_le_q)
        λ t. sym (rw (powers, power_zero F, power_one F (py t) (yl t)) (times_one (py t) (yl t)))

    -- f - a, for an element a
    minus : {f : ℕ → ℕ} → Polynomial hermitian f → (a : ℕ) → a < size → Polynomial hermitian (λ t. plus (f t) a)
    minus {f} p a l = polynomial_same hermitian (polynomial_plus hermitian p (polynomial_scale hermitian a one_polynomial)) λ t. rw
        (times_one_right F a l)

    pub indicators : (p : ℕ) → p < n → Polynomial hermitian (λ t. keep (eqb t p) 1)
    indicators p pl = indicator hermitian one_polynomial p pl λ t tl ne. go t tl ne (ℕ_discrete (px p) (px t))
      where
        go : (t : ℕ) → t < n → t ≢ p → Dec (px p ≡ px t) → (g : ℕ → ℕ) × Polynomial hermitian g × (g t ≡ 0) × (g p ≢ 0)
        go t tl ne (yes e) = (
          λ s. plus (py s) (py t),
          minus y_polynomial (py t) (yl t),
          plus_self (py t),
          λ z. ne (sym (different p t pl tl e (eq_of_plus_zero (py p) (py t) z))),
        )
        go t tl ne (no e) = (λ s. plus (px s) (px t), minus x_polynomial (px t) (xl t), plus_self (px t), λ z. e (eq_of_plus_zero (px p) (px t) z))
