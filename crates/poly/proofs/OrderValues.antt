-- Polynomials by their coefficients.
-- Assumes nothing.
use mathlib.Core.Path.{◌≡◌, refl, sym, ◌∙◌}
use Prim.Native.Nat.{ℕ, zero, suc, ◌<◌}
use native.Mathlib.Omega.{arith}
use lib.Dec.{T, eqb, eqb→eq, eqb_refl}
use Rattle.field.specs.Plus.{plus}
use Rattle.field.specs.Field.{Field}
use Rattle.field.specs.Sum.{sum}
use Rattle.field.proofs.Plus.{plus_comm, plus_zero}
use Rattle.field.proofs.Sums.{sum_cong, sum_zeros, sum_single, sum_plus}
use Rattle.field.proofs.FieldLaws.{zero_times, plus_times}
use Rattle.poly.proofs.Bools.{T-dec}
use Rattle.poly.proofs.Below.{Among}
use Rattle.poly.proofs.Keep.{keep, keep_pass, keep_zero, keep_le, keep_plus}
use Rattle.poly.proofs.Span.{none, more, span_same, span_none, span_more}
use Rattle.poly.proofs.OrderDomain.{OrderDomain, OrderBelow, order_wider}

module _ {F : Field} {n : ℕ} (X : OrderDomain F n) where
  open F use {size, two_le, plus_lt, times, times_lt, times_assoc, times_one}
  open X use {is_weight, term, term_lt}

  -- the value at the point t of the polynomial of order below m with the coefficients c
  unfoldable pub value : ℕ → (ℕ → ℕ) → ℕ → ℕ
  value m c t = sum m λ w. keep (is_weight w) (times (c w) (term w t))

  pub value_suc : (m : ℕ) (c : ℕ → ℕ) (t : ℕ) → value (suc m) c t ≡ plus (value m c t) (keep (is_weight m) (times (c m) (term m t)))
  unfolding value sum
  value_suc m c t = refl

  pub value_order : (m : ℕ) (c : ℕ → ℕ) → OrderBelow X m (value m c)
  unfolding value sum
  value_order zero c = span_none λ t h. refl
  value_order (suc m) c = go (order_wider X (omega arith) (value_order m c)) (T-dec (is_weight m))
    where
      go : OrderBelow X (suc m) (value m c) → Dec (T (is_weight m)) → OrderBelow X (suc m) (value (suc m) c)
      go p (yes h) =
          span_more (c m) m (omega arith, h) p
          λ t _. rw (keep_pass (is_weight m) (times (c m) (term m t)) h) (plus_comm (value m c t) (times (c m) (term m t)))
      go p (no h) = span_same p λ t _. rw (keep_zero (is_weight m) (times (c m) (term m t)) (λ h'. absurd (h h'))) (plus_zero (value m c t))

  value_none : (m : ℕ) (c : ℕ → ℕ) (t : ℕ) → ((w : ℕ) → w < m → c w ≡ 0) → value m c t ≡ 0
  unfolding value
  value_none m c t h =
      sum_zeros m (λ w. keep (is_weight w) (times (c w) (term w t)))
      λ w l. keep_zero (is_weight w) (times (c w) (term w t)) λ _. rw (h w l) (zero_times F (term w t))

  value_one : (m : ℕ) (a i t : ℕ) → Among is_weight m i → value m (λ w. keep (eqb w i) a) t ≡ times a (term i t)
  unfolding value
  value_one m a i t (l, wi) =
      sum_single m i (λ w. keep (is_weight w) (times (keep (eqb w i) a) (term w t))) l
      (λ w _ d. keep_zero (is_weight w) _ λ _. rw (keep_zero (eqb w i) a (λ h. absurd (d (eqb→eq w i h)))) (zero_times F (term w t)))
      ∙ rw (keep_pass (eqb i i) a (eqb_refl i)) (keep_pass (is_weight i) (times a (term i t)) wi)

  value_plus : (m : ℕ) (c d : ℕ → ℕ) (t : ℕ) → value m (λ w. plus (c w) (d w)) t ≡ plus (value m c t) (value m d t)
  unfolding value
  value_plus m c d t =
      sum_cong m (λ w. keep (is_weight w) (times (plus (c w) (d w)) (term w t)))
      (λ w. plus (keep (is_weight w) (times (c w) (term w t))) (keep (is_weight w) (times (d w) (term w t)))) (λ w l. rw (plus_times F, keep_plus))
      ∙ sum_plus m (λ w. keep (is_weight w) (times (c w) (term w t))) (λ w. keep (is_weight w) (times (d w) (term w t)))

  -- every polynomial has coefficients
  pub coefficients : (m : ℕ) {f : ℕ → ℕ} → OrderBelow X m f → (c : ℕ → ℕ) × ((w : ℕ) → c w < size) × ((t : ℕ) → t < n → value m c t ≡ f t)
  coefficients m (none z) = (λ w. 0, λ w. omega (arith, two_le), λ t h. value_none m (λ w. 0) t (λ w l. refl) ∙ sym (z t h))
  coefficients m (more a i e r z) =
      let (c, l, v) = coefficients m r in (
        λ w. plus (c w) (keep (eqb w i) (times a 1)),
        λ w. plus_lt _ _ (l w) (omega (arith, keep_le (eqb w i) (times a 1), times_lt a 1)),
        λ t h. rw (
          z t h,
          value_plus m c (λ w. keep (eqb w i) (times a 1)) t,
          v t h,
          value_one m (times a 1) i t e,
          times_assoc,
          times_one (term i t) (term_lt i t),
        )
            (simp plus_comm),
      )
