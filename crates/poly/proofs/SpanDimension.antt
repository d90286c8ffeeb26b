-- Fewer functions than points do not span all functions on those points.
-- Assumes nothing.
use mathlib.Core.Path.{◌≡◌, refl}
use mathlib.Core.Bool.{Bool, true, false, ◌&&◌}
use mathlib.Core.Logic.{◌⊎◌, inl, inr, ◌≢◌}
use Prim.Native.Nat.{ℕ, zero, suc, ◌+◌, ◌≤◌, ◌<◌}
use native.Mathlib.Decide.{ℕ_discrete}
use native.Mathlib.Omega.{arith}
use lib.Dec.{T}
use Rattle.field.specs.Plus.{plus}
use Rattle.field.specs.Field.{Field}
use Rattle.field.proofs.Plus.{plus_assoc, plus_left_comm, plus_zero, plus_self}
use Rattle.field.proofs.FieldLaws.{zero_times, plus_times}
use Rattle.poly.specs.Lists.{one_if, count, below}
use Rattle.field.proofs.Search.{both}
use Rattle.poly.proofs.Bools.{parts}
use Rattle.poly.proofs.Below.{Among, among_suc, among_wider, none_below, count_except, other, other_is, other_ne}
use Rattle.poly.proofs.Keep.{keep, keep_pass, keep_zero, keep_le}
use Rattle.poly.proofs.Span.{Span, Linear, span_agree, span_none, span_empty, span_single, span_map, span_bind}

-- a number below n that passes the test and where g is not 0, or else g is 0 at all of them
abbrev Pivot : (ℕ → ℕ) → (ℕ → Bool) → ℕ → Type 0
Pivot g s n = ((p : ℕ) × Among s n p × (g p ≢ 0)) ⊎ ((t : ℕ) → Among s n t → g t ≡ 0)

pivot : (g : ℕ → ℕ) (s : ℕ → Bool) (n : ℕ) → Pivot g s n
pivot g s zero = inr λ t h. absurd (omega arith)
pivot g s (suc n) = go (pivot g s n) (s n) refl (ℕ_discrete (g n) 0)
  where
    go : Pivot g s n → (b : Bool) → s n ≡ b → Dec (g n ≡ 0) → Pivot g s (suc n)
    go (inl (p, a, h)) b e d = inl (p, among_wider s (omega arith) a, h)
    go (inr z) false e d = inr (among_suc s n (λ t. g t ≡ 0) z λ h. absurd (rw e at h))
    go (inr z) true e (yes d) = inr (among_suc s n (λ t. g t ≡ 0) z λ h. d)
    go (inr z) true e (no d) = inl (n, (omega arith, rw e tt), d)

module _ (F : Field) (n : ℕ) where
  open F use {size, two_le, plus_lt, times, times_lt, times_assoc, times_plus, times_one, inverse, times_inverse}

  -- subtract from f the multiple of g that makes it vanish at p
  clear : (ℕ → ℕ) → ℕ → (ℕ → ℕ) → ℕ → ℕ
  clear g p f t = plus (f t) (times (times (f p) (inverse (g p))) (g t))

  clear_lt : (g : ℕ → ℕ) (p : ℕ) {f : ℕ → ℕ} → ((t : ℕ) → f t < size) → (t : ℕ) → clear g p f t < size
  unfolding clear
  clear_lt g p l t = plus_lt _ _ (l t) (times_lt _ _)

  clear_linear : (g : ℕ → ℕ) (p : ℕ) (D : ℕ → Type 0) → D p → Linear F D (clear g p)
  unfolding clear
  clear_linear g p D dp = record {
    zeros = λ f z t h. rw (z t h, z p dp, zero_times F, zero_times F, plus_self);
    sums = λ f g' k a e t h. rw (e t h, e p dp) (simp (plus_times F, times_plus, times_assoc, plus_assoc, plus_left_comm));
  }

  -- all functions on the points of z are combinations of the b i with i below k in s
  abbrev pub Spanned : (ℕ → ℕ → ℕ) → (ℕ → Bool) → (ℕ → Bool) → ℕ → Type 0
  Spanned b z s k = (d : ℕ → ℕ) → ((t : ℕ) → d t < size) → Span F b (Among z n) (Among s k) d

  -- Gauss elimination: if b k is not 0 at p, the functions before it, cleared by it, are enough for the points other than p
  module _ (k : ℕ) (b : ℕ → ℕ → ℕ) (l : (i t : ℕ) → b i t < size) (s z : ℕ → Bool) (h : Spanned b z s (suc k)) where
    cleared : (p : ℕ) → Among z n p → b k p ≢ 0 → Spanned (λ i. clear (b k) p (b i)) (λ t. z t && other p t) s k
    unfolding clear
    cleared p a nz d m =
        span_agree (span_map (clear_linear (b k) p (Among z n) a) (among_suc s k _ (λ i e. span_single i e (clear_lt (b k) p (l i))) last)
        (h (λ t. keep (other p t) (d t)) λ t. omega (arith, keep_le (other p t) (d t), m t)))
        (λ t e. (e.0, (parts (z t) (other p t) e.1).0)) (λ i e. e)
        λ t e. rw (keep_zero (other p p) (d p) (λ o. absurd (other_ne p p o refl)), keep_pass (other p t) (d t) (parts (z t) (other p t) e.1).1)
        (simp (zero_times F, plus_zero))
      where
        last : T (s k) → Span F (λ i. clear (b k) p (b i)) (Among z n) (Among s k) (clear (b k) p (b k))
        last e = span_none λ t _. rw (times_inverse (b k p) (l k p) nz, times_one (b k t) (l k t), plus_self)

    -- if b k is 0 on the points, or not used, the functions before it are enough
    dropped : (T (s k) → (t : ℕ) → Among z n t → b k t ≡ 0) → Spanned b z s k
    dropped v d m = span_bind (among_suc s k _ (λ i e. span_single i e (l i)) λ e. span_none (v e)) (h d m)

  -- then there are no more points than functions: by elimination, one function and one point at a time
  pub dimension : (k : ℕ) (b : ℕ → ℕ → ℕ) → ((i t : ℕ) → b i t < size) → (s z : ℕ → Bool) → Spanned b z s k
      → count z (below n) ≤ count s (below k)
  unfolding count below
  dimension zero b l s z h = none_below z n λ t a. omega (arith, span_empty (h (λ t. 1) λ t. two_le) (λ i e. omega arith) t a)
  dimension (suc k) b l s z h = go (dimension k) (s k) refl (pivot (b k) z n)
    where
      go : ((b : ℕ → ℕ → ℕ) → ((i t : ℕ) → b i t < size) → (s z : ℕ → Bool) → Spanned b z s k → count z (below n) ≤ count s (below k))
          → (a : Bool) → s k ≡ a → Pivot (b k) z n → count z (below n) ≤ one_if a + count s (below k)
      go ih false e p = omega (arith, ih b l s z (dropped k b l s z h λ x. absurd (rw e at x)))
      go ih true e (inr v) = omega (arith, ih b l s z (dropped k b l s z h λ x. v))
      go ih true e (inl (p, a, nz)) =
          omega (
            arith,
            count_except z (λ t. z t && other p t) p (λ t e' x. both (z t) (other p t) x (other_is p t e')) n,
            ih (λ i. clear (b k) p (b i)) (λ i. clear_lt (b k) p (l i)) s (λ t. z t && other p t) (cleared k b l s z h p a nz),
          )
