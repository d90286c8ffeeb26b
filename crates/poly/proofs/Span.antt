-- Linear combinations of functions b 0, b 1, .. on points, where it counts only what a function does on a domain of points.
-- Assumes nothing.
use mathlib.Core.Path.{◌≡◌, refl, ◌∙◌}
use Prim.Native.Nat.{ℕ, ◌<◌}
use native.Mathlib.Omega.{arith}
use Rattle.field.specs.Plus.{plus}
use Rattle.field.specs.Field.{Field}
use Rattle.field.proofs.Plus.{plus_assoc, plus_zero, zero_plus}
use Rattle.field.proofs.FieldLaws.{times_zero}

-- f agrees on the domain D with a linear combination of the b i whose i is in S
pub data Span (F : Field) (b : ℕ → ℕ → ℕ) (D S : ℕ → Type 0) : (ℕ → ℕ) → Type 0 where
  none : {f : ℕ → ℕ} → ((t : ℕ) → D t → f t ≡ 0) → Span F b D S f
  more : {f g : ℕ → ℕ} (a i : ℕ) → S i → Span F b D S g
      → ((t : ℕ) → D t → f t ≡ plus (F.times a (b i t)) (g t)) → Span F b D S f

-- an operator on functions that is linear, as far as their values on the domain D go
pub record Linear (F : Field) (D : ℕ → Type 0) (m : (ℕ → ℕ) → ℕ → ℕ) : Type 0 where
  pub zeros : (f : ℕ → ℕ) → ((t : ℕ) → D t → f t ≡ 0) → (t : ℕ) → D t → m f t ≡ 0
  pub sums : (f g h : ℕ → ℕ) (a : ℕ) → ((t : ℕ) → D t → f t ≡ plus (F.times a (g t)) (h t))
      → (t : ℕ) → D t → m f t ≡ plus (F.times a (m g t)) (m h t)

module _ {F : Field} where
  open F use {size, two_le, plus_lt, times, times_lt, times_assoc, times_plus, times_one}

  -- only the values on the domain count, and a smaller domain or a larger set of functions keeps a combination
  pub span_agree : {b : ℕ → ℕ → ℕ} {D D' S S' : ℕ → Type 0} {f g : ℕ → ℕ} → Span F b D S f → ((t : ℕ) → D' t → D t)
      → ((i : ℕ) → S i → S' i) → ((t : ℕ) → D' t → g t ≡ f t) → Span F b D' S' g
  span_agree (none z) d s e = none λ t h. e t h ∙ z t (d t h)
  span_agree (more a i si r z) d s e = more a i (s i si) (span_agree r d s λ t h. refl) λ t h. e t h ∙ z t (d t h)

  module _ {b : ℕ → ℕ → ℕ} {D S : ℕ → Type 0} where
    pub span_same : {f g : ℕ → ℕ} → Span F b D S f → ((t : ℕ) → D t → g t ≡ f t) → Span F b D S g
    span_same s = span_agree s (λ t h. h) (λ i h. h)

    -- the constructors as functions: a call of one reads f off the goal, and a constructor does not
    pub span_none : {f : ℕ → ℕ} → ((t : ℕ) → D t → f t ≡ 0) → Span F b D S f
    span_none = none

    pub span_more : {f g : ℕ → ℕ} (a i : ℕ) → S i → Span F b D S g → ((t : ℕ) → D t → f t ≡ plus (times a (b i t)) (g t)) → Span F b D S f
    span_more = more

    pub span_sum : {f g : ℕ → ℕ} → Span F b D S f → Span F b D S g → Span F b D S (λ t. plus (f t) (g t))
    span_sum (none z) s = span_same s λ t h. rw (z t h, zero_plus)
    span_sum (more a i si r z) s = span_more a i si (span_sum r s) λ t h. rw (z t h, plus_assoc)

    pub span_scale : {f : ℕ → ℕ} (c : ℕ) → Span F b D S f → Span F b D S (λ t. times c (f t))
    span_scale c (none z) = span_none λ t h. rw (z t h, times_zero F)
    span_scale c (more a i si r z) = span_more (times c a) i si (span_scale c r) λ t h. rw (z t h, times_plus, times_assoc)

    pub span_single : (i : ℕ) → S i → ((t : ℕ) → b i t < size) → Span F b D S (b i)
    span_single i s l = span_more 1 i s (span_none {f = λ t. 0} λ t h. refl) λ t h. rw (plus_zero, times_one (b i t) (l t))

    pub span_empty : {f : ℕ → ℕ} → Span F b D S f → ((i : ℕ) → S i → ⊥) → (t : ℕ) → D t → f t ≡ 0
    span_empty (none z) e = z
    span_empty (more a i si r z) e = absurd (e i si)

    pub span_lt : {f : ℕ → ℕ} → Span F b D S f → (t : ℕ) → D t → f t < size
    span_lt (none z) t h = omega (arith, z t h, two_le)
    span_lt (more a i si r z) t h = rw (z t h) (plus_lt _ _ (times_lt _ _) (span_lt r t h))

  -- A linear operator that takes each function of S into a span takes the span of S there.
  pub span_map : {b b' : ℕ → ℕ → ℕ} {D S S' : ℕ → Type 0} {f : ℕ → ℕ} {m : (ℕ → ℕ) → ℕ → ℕ} → Linear F D m
      → ((i : ℕ) → S i → Span F b' D S' (m (b i))) → Span F b D S f → Span F b' D S' (m f)
  span_map l k (none {f = f} z) = span_none (l.zeros f z)
  span_map {b = b} l k (more {f = f} {g = g} a i si r z) =
      span_same (span_sum (span_scale a (k i si)) (span_map l k r)) (l.sums f (b i) g a z)

  -- and so does the identity
  pub span_bind : {b b' : ℕ → ℕ → ℕ} {D S S' : ℕ → Type 0} {f : ℕ → ℕ}
      → ((i : ℕ) → S i → Span F b' D S' (b i)) → Span F b D S f → Span F b' D S' f
  span_bind = span_map (record { zeros = λ f z. z; sums = λ f g h a z. z })
