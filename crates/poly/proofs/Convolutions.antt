-- The products of interleaved polynomials with one polynomial, number by number: that they are the products, that they end where they should,
-- and that they are what is read from windows.
-- Assumes nothing.
use mathlib.Core.Path.{◌≡◌, sym, ap, ap₂, ◌∙◌}
use mathlib.Core.List.{List}
use Prim.Native.Nat.{ℕ, ◌+◌, ◌-◌, ◌*◌, ◌≤◌, ◌<◌}
use native.Mathlib.Nat.{mul-add, mul-le-mul_left}
use native.Mathlib.Decide.{dec_lt}
use native.Mathlib.Omega.{arith}
use borrow.Author.Tests.{le-leb, lt-leb}
use lib.ListN.{get_or, take, length-take, get_or-eq_default}
use Rattle.field.specs.Plus.{plus}
use Rattle.field.specs.Field.{Field}
use Rattle.field.specs.Power.{power}
use Rattle.field.proofs.Plus.{zero_plus}
use Rattle.field.proofs.FieldLaws.{zero_times, times_zero}
use Rattle.field.proofs.Sums.{sum_cong, sum_plus, sum_zeros, sum_scale_right}
use Rattle.poly.specs.Inner.Polynomials.{value}
use Rattle.poly.specs.Inner.Interpolation.{interleaved, moved_on, convolved, crossed, Placed}
use Rattle.poly.proofs.Values.{value_cong, value_zeros, value_add, value_scale, value_sum, value_extend}
use Rattle.poly.proofs.Interleaving.{place_lt, place_add}

-- past the first n elements
beyond : (n : ℕ) (s : List ℕ) (p : ℕ) → n ≤ p → get_or (take n s) p 0 ≡ 0
beyond n s p h = get_or-eq_default (take n s) 0 {n = p} (omega (arith, length-take n s))

-- ---- elements moved on by i rows of w

module _ (w n : ℕ) (src : List ℕ) (i p : ℕ) where
  pub moved_before : p < w * i → moved_on w n src i p ≡ 0
  moved_before h = rw (lt-leb (w * i) p h)

  pub moved_from : w * i ≤ p → moved_on w n src i p ≡ get_or (take n src) (p - w * i) 0
  moved_from h = rw (le-leb (w * i) p h)

  -- past their end
  pub moved_past : w * i + n ≤ p → moved_on w n src i p ≡ 0
  moved_past h = moved_from (omega arith) ∙ beyond n src (p - w * i) (omega arith)

-- ---- the values of a product

module _ (F : Field) (w : ℕ) where
  module _ (j : ℕ) (jw : j < w) (n : ℕ) (src : List ℕ) where
    -- the numbers of polynomial j, moved on
    abbrev moved : ℕ → ℕ → ℕ
    moved i r = moved_on w n src i (w * r + j)

    from : (i r : ℕ) → moved i (i + r) ≡ interleaved w (take n src) j r
    from i r =
        let e : w * (i + r) + j - w * i ≡ w * r + j = omega (arith, place_add w i r j) in
        moved_from w n src i (w * (i + r) + j) (omega (arith, place_add w i r j)) ∙ ap (λ (k : ℕ). get_or (take n src) k 0) e

    moved_value : (i m x : ℕ) → i ≤ m
        → value F m (moved i) x ≡ F.times (power F x i) (value F (m - i) (interleaved w (take n src) j) x)
    moved_value i m x l =
        let split : m ≡ i + (m - i) = omega arith in
        ap (λ (k : ℕ). value F k (moved i) x) split
        ∙ value_add F i (m - i) (moved i) x
        ∙ ap₂ (λ (u v : ℕ). plus u (F.times (power F x i) v))
        (value_zeros F i (moved i) x (λ r b. moved_before w n src i (w * r + j) (place_lt w r j i jw b)))
        (value_cong F (m - i) (λ r. moved i (i + r)) (interleaved w (take n src) j) x (λ r b. from i r))
        ∙ zero_plus (F.times (power F x i) (value F (m - i) (interleaved w (take n src) j) x))

  -- n rows of src times k coefficients of f have c rows at most
  module _ (n c k : ℕ) (f src : List ℕ) (within : n ≤ c) (degree : (i : ℕ) → i < k → c < n + i → get_or f i 0 ≡ 0) where
    module _ (j x : ℕ) (jw : j < w) where
      abbrev U : ℕ
      U = value F n (interleaved w (take (w * n) src) j) x

      -- the rows past the end are 0
      past : (m : ℕ) → n ≤ m → value F m (interleaved w (take (w * n) src) j) x ≡ U
      past m b =
          value_extend F n m (interleaved w (take (w * n) src) j) x b
          (λ i d e. beyond (w * n) src (w * i + j) (omega (arith, mul-le-mul_left w d)))

      times_moved : (i : ℕ) → i < k
          → F.times (get_or f i 0) (value F c (moved j jw (w * n) src i) x) ≡ F.times (get_or f i 0) (F.times (power F x i) U)
      times_moved i b = elim (dec_lt c (n + i)) [
        | yes d ↦ rw (degree i b d) (zero_times F (value F c (moved j jw (w * n) src i) x) ∙ sym (zero_times F (F.times (power F x i) U)))
        | no d ↦ ap (F.times (get_or f i 0))
            (moved_value j jw (w * n) src i c x (omega arith) ∙ ap (F.times (power F x i)) (past (c - i) (omega arith)))
      ]

      term : (i : ℕ) → i < k
          → value F c (λ r. F.times (moved j jw (w * n) src i r) (get_or f i 0)) x ≡ F.times (F.times (get_or f i 0) (power F x i)) U
      term i b =
          value_cong F c _ (λ r. F.times (get_or f i 0) (moved j jw (w * n) src i r)) x
          (λ r e. F.times_comm (moved j jw (w * n) src i r) (get_or f i 0))
          ∙ value_scale F c (get_or f i 0) (moved j jw (w * n) src i) x ∙ times_moved i b ∙ sym (F.times_assoc (get_or f i 0) (power F x i) U)

      pub convolved_value : value F c (λ r. convolved F w (w * n) f src k (w * r + j)) x ≡ F.times (value F k (λ i. get_or f i 0) x) U
      unfolding convolved value
      convolved_value =
          value_sum F c k (λ i r. F.times (moved j jw (w * n) src i r) (get_or f i 0)) x
          ∙ sum_cong k _ (λ i. F.times (F.times (get_or f i 0) (power F x i)) U) (λ i b. term i b)
          ∙ sum_scale_right F k U (λ i. F.times (get_or f i 0) (power F x i))

    -- past the last row nothing is left
    pub convolved_past : (p : ℕ) → w * c ≤ p → convolved F w (w * n) f src k p ≡ 0
    unfolding convolved
    convolved_past p b = sum_zeros k _ (λ i e. elim (dec_lt c (n + i)) [
      | yes d ↦ ap (F.times (moved_on w (w * n) src i p)) (degree i e d) ∙ times_zero F (moved_on w (w * n) src i p)
      | no d ↦ let l : n + i ≤ c = omega arith in
          ap (λ (v : ℕ). F.times v (get_or f i 0))
          (moved_past w (w * n) src i p (omega (arith, mul-add w n i, mul-le-mul_left w l))) ∙ zero_times F (get_or f i 0)
    ])

-- ---- products that are read from windows: lists that have 32 zeros before the elements

window : (w n : ℕ) (src out : List ℕ) → Placed n src out → (i p : ℕ) → get_or out (32 + p - w * i) 0 ≡ moved_on w n src i p
window w n src out q i p = elim (dec_lt p (w * i)) [
  | yes l ↦ q.low (32 + p - w * i) (omega arith) ∙ sym (moved_before w n src i p l)
  | no l ↦ let s : 32 + p - w * i ≡ 32 + (p - w * i) = omega arith in
      ap (λ (k : ℕ). get_or out k 0) s ∙ q.is (p - w * i) ∙ sym (moved_from w n src i p (omega arith))
]

pub crossed_convolved : (F : Field) (w k m n : ℕ) (f g left right l r : List ℕ) → Placed m left l → Placed n right r → (p : ℕ)
    → crossed F w k f g l r (32 + p) ≡ plus (convolved F w m g left k p) (convolved F w n f right k p)
unfolding crossed convolved
crossed_convolved F w k m n f g left right l r pl pr p =
    sum_cong k _ (λ i. plus (F.times (moved_on w m left i p) (get_or g i 0)) (F.times (moved_on w n right i p) (get_or f i 0)))
    (λ i b. ap₂ (λ (u v : ℕ). plus (F.times u (get_or g i 0)) (F.times v (get_or f i 0))) (window w m left l pl i p) (window w n right r pr i p))
    ∙ sum_plus k (λ i. F.times (moved_on w m left i p) (get_or g i 0)) (λ i. F.times (moved_on w n right i p) (get_or f i 0))
