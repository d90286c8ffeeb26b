-- Functions with an order: each term has a weight, each number is the weight of at most one term, and the product of the terms
-- of weights u and v is the term of weight u + v and others of lower weight. A polynomial of order m then has at most m zeros.
-- Assumes nothing.
use mathlib.Core.Path.{◌≡◌, refl}
use mathlib.Core.Bool.{Bool, true}
use mathlib.Core.Logic.{◌⊎◌, inl, inr}
use Prim.Native.Nat.{ℕ, zero, suc, ◌+◌, ◌≤◌, ◌<◌}
use native.Mathlib.Omega.{arith}
use lib.Dec.{T}
use Rattle.field.specs.Plus.{plus}
use Rattle.field.specs.Field.{Field}
use Rattle.field.proofs.Plus.{plus_ac, zero_plus}
use Rattle.field.proofs.FieldLaws.{zero_times, plus_times}
use Rattle.poly.specs.Lists.{count, below}
use Rattle.poly.proofs.Below.{Among, among_suc, among_wider}
use Rattle.poly.proofs.Shifts.{unshifted, unshifted_or_sum, unshifted_le}
use Rattle.poly.proofs.Span.{Span, Linear, span_agree, span_same, span_sum, span_single, span_map, span_bind}
use Rattle.poly.proofs.SpanDimension.{Spanned, dimension}

-- The functions term w on the points below n, for the weights w.
pub record OrderDomain (F : Field) (n : ℕ) : Type 0 where
  pub is_weight : ℕ → Bool
  pub term : ℕ → ℕ → ℕ
  pub term_lt : (w t : ℕ) → term w t < F.size
  pub weight_add : (u v : ℕ) → T (is_weight u) → T (is_weight v) → T (is_weight (u + v))
  pub leading : (u v : ℕ) → T (is_weight u) → T (is_weight v)
      → Span F term (λ t. t < n) (Among is_weight (u + v)) (λ t. plus (F.times (term u t) (term v t)) (term (u + v) t))

module _ {F : Field} {n : ℕ} (X : OrderDomain F n) where
  open F use {size, times, times_comm, times_assoc}
  open X use {is_weight, term, term_lt, weight_add, leading}

  -- f is on the points a polynomial of order below u
  abbrev pub OrderBelow : ℕ → (ℕ → ℕ) → Type 0
  OrderBelow u f = Span F term (λ t. t < n) (Among is_weight u) f

  pub order_wider : {u v : ℕ} {f : ℕ → ℕ} → u ≤ v → OrderBelow u f → OrderBelow v f
  order_wider l p = span_agree p (λ t h. h) (λ i. among_wider is_weight l) λ t h. refl

  times_linear : (g : ℕ → ℕ) {D : ℕ → Type 0} → Linear F D (λ f t. times (f t) (g t))
  times_linear g = record { zeros = λ f z t h. rw (z t h, zero_times F); sums = λ f g' h a e t d. rw (e t d, plus_times F, times_assoc) }

  term_times : (u v : ℕ) → T (is_weight u) → T (is_weight v) → OrderBelow (suc (u + v)) (λ t. times (term u t) (term v t))
  term_times u v wu wv =
      span_same (span_sum (order_wider (omega arith) (leading u v wu wv)) (span_single (u + v) (omega arith, weight_add u v wu wv) (term_lt (u + v))))
      λ t h. simp plus_ac

  pub times_term : {u : ℕ} {f : ℕ → ℕ} (v : ℕ) → T (is_weight v) → OrderBelow u f → OrderBelow (u + v) (λ t. times (f t) (term v t))
  times_term v wv = span_map (times_linear (term v)) λ i e. order_wider (omega arith) (term_times i v e.1 wv)

  -- the product of polynomials of orders at most u and v has order at most u + v
  pub product : {u v : ℕ} {f g : ℕ → ℕ} → OrderBelow (suc u) f → OrderBelow (suc v) g → OrderBelow (suc (u + v)) (λ t. times (f t) (g t))
  product {g = g} p q =
      span_map (times_linear g) (λ i e. span_same (order_wider (omega arith) (times_term i e.1 q)) λ t h. times_comm (term i t) (g t)) p

  -- Let the term of weight w agree on the points of z with a polynomial f of lower order: the points are zeros of one of order w.
  module _ (w : ℕ) (ww : T (is_weight w)) {f : ℕ → ℕ} (pf : OrderBelow w f) (z : ℕ → Bool) (e : (t : ℕ) → Among z n t → term w t ≡ f t) where
    -- then so does each of its multiples
    multiple_lower : (v : ℕ) → T (is_weight v) → Span F term (Among z n) (Among is_weight (w + v)) (term (w + v))
    multiple_lower v wv =
        span_agree (span_sum (leading w v ww wv) (times_term v wv pf)) (λ t h. h.0) (λ i h. h)
        λ t h. rw (← e t h) (simp (plus_ac, zero_plus))

    -- so the terms that are no multiples are enough
    reduced : (k u : ℕ) → u ≤ k → (v : ℕ) → Among is_weight u v → Span F term (Among z n) (Among (unshifted is_weight w) k) (term v)
    reduced k zero l v h = absurd (omega arith)
    reduced k (suc u) l v h =
        let ih = reduced k u (omega arith) in
        among_suc is_weight u _ ih (λ wu. go ih (unshifted_or_sum is_weight w u wu)) v h
      where
        go : ((v : ℕ) → Among is_weight u v → Span F term (Among z n) (Among (unshifted is_weight w) k) (term v))
            → T (unshifted is_weight w u) ⊎ ((v : ℕ) × (u ≡ w + v) × T (is_weight v))
            → Span F term (Among z n) (Among (unshifted is_weight w) k) (term u)
        go ih (inl r) = span_single u (l, r) (term_lt u)
        go ih (inr (v, e, wv)) = span_bind ih (rw e (multiple_lower v wv))

    pub zeros_le : (k : ℕ) → Spanned F n term (λ t. true) is_weight k → count z (below n) ≤ w
    zeros_le k h =
        omega (
          arith,
          unshifted_le is_weight w (λ v wv. weight_add w v ww wv) k,
          dimension F n (w + k) term term_lt (unshifted is_weight w) z λ d m.
              span_bind (reduced (w + k) (w + k) (omega arith))
              (span_agree (h d m) (λ t i. (i.0, tt)) (λ i. among_wider is_weight (omega arith)) λ t i. refl),
        )
