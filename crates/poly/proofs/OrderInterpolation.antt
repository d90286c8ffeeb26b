-- If polynomials tell any two points apart, every function on the points is a polynomial.
-- Assumes nothing.
use mathlib.Core.Path.{◌≡◌, refl}
use mathlib.Core.Logic.{◌≢◌}
use Prim.Native.Nat.{ℕ, zero, suc, ◌+◌, ◌≤◌, ◌<◌}
use mathlib.Core.Bool.{true}
use native.Mathlib.Decide.{ℕ_discrete}
use native.Mathlib.Omega.{arith}
use lib.Dec.{eqb, eqb→eq, eqb_refl}
use Rattle.field.specs.Plus.{plus}
use Rattle.field.specs.Field.{Field}
use Rattle.field.proofs.Plus.{plus_zero, zero_plus}
use Rattle.field.proofs.FieldLaws.{zero_times, times_zero, times_one_right, inverse_times, times_ne_zero}
use Rattle.poly.proofs.Below.{other, other_is, other_ne}
use Rattle.poly.proofs.Keep.{keep, keep_pass, keep_zero, keep_le}
use Rattle.poly.proofs.Span.{span_sum, span_scale, span_same, span_agree, span_none, span_lt}
use Rattle.poly.proofs.SpanDimension.{Spanned}
use Rattle.poly.proofs.OrderDomain.{OrderDomain, OrderBelow, order_wider, product}

module _ {F : Field} {n : ℕ} (X : OrderDomain F n) where
  open F use {size, times, inverse}
  open X use {is_weight, term}

  -- f is a polynomial of some order
  abbrev pub Polynomial : (ℕ → ℕ) → Type 0
  Polynomial f = (m : ℕ) × OrderBelow X m f

  pub polynomial_same : {f g : ℕ → ℕ} → Polynomial f → ((t : ℕ) → g t ≡ f t) → Polynomial g
  polynomial_same (m, p) e = (m, span_same p λ t h. e t)

  pub polynomial_plus : {f g : ℕ → ℕ} → Polynomial f → Polynomial g → Polynomial (λ t. plus (f t) (g t))
  polynomial_plus (m, p) (m', p') = (m + m', span_sum (order_wider X (omega arith) p) (order_wider X (omega arith) p'))

  pub polynomial_scale : {f : ℕ → ℕ} (a : ℕ) → Polynomial f → Polynomial (λ t. times a (f t))
  polynomial_scale a (m, p) = (m, span_scale a p)

  pub polynomial_times : {f g : ℕ → ℕ} → Polynomial f → Polynomial g → Polynomial (λ t. times (f t) (g t))
  polynomial_times (m, p) (m', p') = (suc (m + m'), product X (order_wider X (omega arith) p) (order_wider X (omega arith) p'))

  -- a polynomial that is 0 at the points below k other than p, and not at p
  module _ (one : Polynomial (λ t. 1)) (p : ℕ) (pl : p < n)
      (apart : (t : ℕ) → t < n → t ≢ p → (g : ℕ → ℕ) × Polynomial g × (g t ≡ 0) × (g p ≢ 0)) where
    separating : (k : ℕ) → k ≤ n → (f : ℕ → ℕ) × Polynomial f × (f p ≢ 0) × ((t : ℕ) → t < k → t ≢ p → f t ≡ 0)
    separating zero l = (λ t. 1, one, λ e. omega arith, λ t tl. absurd (omega arith))
    separating (suc k) l = go (separating k (omega arith)) (ℕ_discrete k p)
      where
        go : (f : ℕ → ℕ) × Polynomial f × (f p ≢ 0) × ((t : ℕ) → t < k → t ≢ p → f t ≡ 0) → Dec (k ≡ p)
            → (f : ℕ → ℕ) × Polynomial f × (f p ≢ 0) × ((t : ℕ) → t < suc k → t ≢ p → f t ≡ 0)
        go (f, pf, fp, v) (yes e) = (f, pf, fp, λ t tl tp. v t (omega arith) tp)
        go (f, pf, fp, v) (no e) =
            let (g, pg, gk, gp) = apart k l e in
            let zero_at : (t : ℕ) → t < suc k → t ≢ p → Dec (t ≡ k) → times (f t) (g t) ≡ 0 =
            λ t tl tp. elim [ yes e' ↦ rw (e', gk) (times_zero F (f k)) | no e' ↦ rw (v t (omega arith) tp) (zero_times F (g t)) ] in (
              λ t. times (f t) (g t),
              polynomial_times pf pg,
              times_ne_zero F (f p) (g p) (span_lt pf.1 p pl) (span_lt pg.1 p pl) fp gp,
              λ t tl tp. zero_at t tl tp (ℕ_discrete t k),
            )

    pub indicator : Polynomial (λ t. keep (eqb t p) 1)
    indicator =
        let (f, pf, fp, v) = separating n (omega arith) in
        let (m, p') = polynomial_scale (inverse (f p)) pf in
        (m, span_same p' λ t tl. at f pf fp v t tl (ℕ_discrete t p))
      where
        at : (f : ℕ → ℕ) → Polynomial f → f p ≢ 0 → ((t : ℕ) → t < n → t ≢ p → f t ≡ 0) → (t : ℕ) → t < n → Dec (t ≡ p)
            → keep (eqb t p) 1 ≡ times (inverse (f p)) (f t)
        at f pf fp v t tl (yes e) = rw (e, keep_pass (eqb p p) 1 (eqb_refl p), inverse_times F (f p) (span_lt pf.1 p pl) fp)
        at f pf fp v t tl (no e) = rw (keep_zero (eqb t p) 1 (λ h. absurd (e (eqb→eq t p h))), v t tl e, times_zero F)

  -- d is its value at k times the function that is 1 at k and else 0, plus what d is elsewhere
  split_off : (d : ℕ → ℕ) (k t : ℕ) → d k < size → d t ≡ plus (times (d k) (keep (eqb t k) 1)) (keep (other k t) (d t))
  split_off d k t l = go (ℕ_discrete t k)
    where
      go : Dec (t ≡ k) → d t ≡ plus (times (d k) (keep (eqb t k) 1)) (keep (other k t) (d t))
      go (yes e) =
          rw (
            e,
            keep_pass (eqb k k) 1 (eqb_refl k),
            keep_zero (other k k) (d k) (λ o. absurd (other_ne k k o refl)),
            plus_zero,
            times_one_right F (d k) l,
          )
      go (no e) = rw (keep_zero (eqb t k) 1 (λ h. absurd (e (eqb→eq t k h))), keep_pass (other k t) (d t) (other_is k t e), times_zero F, zero_plus)

  -- one order is enough for all functions; first for those that are 0 from k on
  module _ (h : (p : ℕ) → p < n → Polynomial (λ t. keep (eqb t p) 1)) where
    bounded : (k : ℕ) → k ≤ n
        → (m : ℕ) × ((d : ℕ → ℕ) → ((t : ℕ) → d t < size) → ((t : ℕ) → t < n → k ≤ t → d t ≡ 0) → OrderBelow X m d)
    bounded zero l = (0, λ d e v. span_none λ t tl. v t tl (omega arith))
    bounded (suc k) l =
        let (m, r) = bounded k (omega arith) in
        let (m', p) = h k l in (
          m + m',
          λ d e v. span_same
              (span_sum (span_scale (d k) (order_wider X (omega arith) p))
              (order_wider X (omega arith) (r (λ t. keep (other k t) (d t)) (λ t. omega (arith, keep_le (other k t) (d t), e t))
              λ t tl kt. keep_zero (other k t) (d t) λ o. v t tl (omega (arith, other_ne k t o)))))
              λ t tl. split_off d k t (e k),
        )

    pub spanned : (m : ℕ) × Spanned F n term (λ t. true) is_weight m
    spanned =
        let (m, r) = bounded n (omega arith) in
        (m, λ d e. span_agree (r d e λ t a b. absurd (omega arith)) (λ t i. i.0) (λ i s. s) λ t i. refl)
