-- THE ROOT BOUND: a polynomial with no more coefficients than different roots is 0. So two that agree at as many places are the same.
-- Assumes nothing.
use mathlib.Core.Path.{◌≡◌, refl, sym, ap, ap₂, ◌∙◌}
use mathlib.Core.List.Memᴰ
use mathlib.Core.List.Memᴰ.{head}
use mathlib.Core.List.Memᴰ.{tail}
use mathlib.Core.List.{List, [], ◌∷◌, Memᴰ as Mem}
use Prim.Native.Nat.{ℕ, zero, suc, ◌≤◌, ◌<◌}
use native.Mathlib.Nat.{not-suc-le-zero}
use native.Mathlib.Omega.{arith}
use lib.ListN.{length}
use Rattle.field.specs.Plus.{plus}
use Rattle.field.specs.Field.{Field}
use Rattle.field.proofs.Plus.{plus_assoc, plus_self, plus_zero, zero_plus, plus_cancel, plus_exchange, eq_of_plus_zero}
use Rattle.field.proofs.FieldLaws.{zero_lt, times_zero, plus_times, times_left_comm, zero_of_times}
use Rattle.poly.specs.Lists.{Nodup, below}
use Rattle.poly.specs.Inner.Ranges.{Below}
use Rattle.poly.specs.Inner.Polynomials.{value}
use Rattle.poly.proofs.Below.{length_below, of_mem_below, nodup_below}
use Rattle.poly.proofs.Parts.{mem_lt, below_below}
use Rattle.poly.proofs.Values.{value_none, value_first, value_lt, value_plus, value_zeros}

module _ (F : Field) where
  -- the n coefficients of the quotient of f, of n + 1 coefficients, by x - r
  quotient : ℕ → ℕ → (ℕ → ℕ) → ℕ → ℕ
  quotient r zero f i = 0
  quotient r (suc n) f zero = value F (suc n) (λ k. f (suc k)) r
  quotient r (suc n) f (suc i) = quotient r n (λ k. f (suc k)) i

  quotient_lt : (r n : ℕ) (f : ℕ → ℕ) (i : ℕ) → quotient r n f i < F.size
  unfolding quotient
  quotient_lt r zero f i = zero_lt F
  quotient_lt r (suc n) f zero = value_lt F (suc n) (λ k. f (suc k)) r
  quotient_lt r (suc n) f (suc i) = quotient_lt r n (λ k. f (suc k)) i

  -- the value of a constant
  pub constant : (f : ℕ → ℕ) (n x : ℕ) → f 0 < F.size → ((i : ℕ) → i < n → f (suc i) ≡ 0) → value F (suc n) f x ≡ f 0
  constant f n x h z =
      value_first F n f x h
      ∙ ap (λ (v : ℕ). plus (F.times x v) (f 0)) (value_zeros F n (λ i. f (suc i)) x z)
      ∙ ap (λ (v : ℕ). plus v (f 0)) (times_zero F x)
      ∙ zero_plus (f 0)

  -- f x - f r is the product of x - r and the quotient
  quotient_value : (n : ℕ) (f : ℕ → ℕ) (r x : ℕ) → ((i : ℕ) → i ≤ n → f i < F.size)
      → plus (value F (suc n) f x) (value F (suc n) f r) ≡ F.times (plus x r) (value F n (quotient r n f) x)
  unfolding quotient
  quotient_value zero f r x h =
      ap₂ plus (constant f 0 x (h 0 (omega arith)) (λ i k. absurd (not-suc-le-zero k)))
      (constant f 0 r (h 0 (omega arith)) (λ i k. absurd (not-suc-le-zero k)))
      ∙ plus_self (f 0) ∙ sym (ap (F.times (plus x r)) (value_none F (quotient r 0 f) x) ∙ times_zero F (plus x r))
  quotient_value (suc n) f r x h =
      let u = value F (suc n) (λ k. f (suc k)) x in
      let v = value F (suc n) (λ k. f (suc k)) r in
      let w = value F n (quotient r n (λ k. f (suc k))) x in
      ap₂ plus (value_first F (suc n) f x (h 0 (omega arith))) (value_first F (suc n) f r (h 0 (omega arith)))
      ∙ plus_exchange (F.times x u) (f 0) (F.times r v) (f 0)
      ∙ ap (plus (plus (F.times x u) (F.times r v))) (plus_self (f 0)) ∙ plus_zero (plus (F.times x u) (F.times r v))
      ∙ sym (
      ap (F.times (plus x r)) (value_first F n (quotient r (suc n) f) x (value_lt F (suc n) (λ k. f (suc k)) r))
      ∙ F.times_plus (plus x r) (F.times x w) v
      ∙ ap₂ plus
      (times_left_comm F (plus x r) x w
      ∙ ap (F.times x) (sym (quotient_value n (λ k. f (suc k)) r x (λ i b. h (suc i) (omega arith))))
      ∙ F.times_plus x u v)
      (plus_times F x r v)
      ∙ plus_assoc (F.times x u) (F.times x v) (plus (F.times x v) (F.times r v))
      ∙ ap (plus (F.times x u)) (plus_cancel (F.times x v) (F.times r v)))

  -- where the quotient is 0, so are the coefficients past the first
  unquotient : (r n : ℕ) (f : ℕ → ℕ) → ((i : ℕ) → i ≤ n → f i < F.size) → ((i : ℕ) → i < n → quotient r n f i ≡ 0) → (i : ℕ) → i < n → f (suc i) ≡ 0
  unfolding quotient
  unquotient r zero f h z i l = absurd (omega arith)
  unquotient r (suc n) f h z zero l =
      sym (constant (λ k. f (suc k)) n r (h 1 (omega arith))
      (unquotient r n (λ k. f (suc k)) (λ i b. h (suc i) (omega arith)) (λ i b. z (suc i) (omega arith))))
      ∙ z 0 l
  unquotient r (suc n) f h z (suc i) l =
      unquotient r n (λ k. f (suc k)) (λ i b. h (suc i) (omega arith)) (λ i b. z (suc i) (omega arith)) i (omega arith)

  -- the other roots of f are roots of the quotient
  quotient_root : (r n : ℕ) (f : ℕ → ℕ) (x : ℕ) → ((i : ℕ) → i ≤ n → f i < F.size) → r < F.size → x < F.size → (x ≡ r → ⊥)
      → value F (suc n) f x ≡ 0 → value F (suc n) f r ≡ 0 → value F n (quotient r n f) x ≡ 0
  quotient_root r n f x h hr hx d ex er =
      zero_of_times F (plus x r) (value F n (quotient r n f) x) (F.plus_lt x r hx hr) (λ e. d (eq_of_plus_zero x r e))
      (value_lt F n (quotient r n f) x)
      (sym (quotient_value n f r x h) ∙ ap₂ plus ex er ∙ plus_self 0)

  pub root_bound : (roots : List ℕ) (n : ℕ) (f : ℕ → ℕ) → Below F.size roots → Nodup roots → ((i : ℕ) → i < n → f i < F.size) → n ≤ length roots
      → ((x : ℕ) → Mem x roots → value F n f x ≡ 0) → (i : ℕ) → i < n → f i ≡ 0
  root_bound roots zero f b d h l z = λ i k. absurd (omega arith)
  root_bound [] (suc n) f b d h l z = λ i k. absurd (omega arith)
  root_bound (r ∷ roots) (suc n) f b d h l z = each
      (unquotient r n f small
      (root_bound roots n (quotient r n f) (λ i. b (suc i)) d.1 (λ i k. quotient_lt r n f i) (omega arith)
      (λ x m. quotient_root r n f x small (b 0) (mem_lt F.size roots x (λ i. b (suc i)) m)
      (λ e. d.0 (Memᴰ.cast (sym e) m)) (z x (tail m)) (z r (head refl)))))
    where
      small : (i : ℕ) → i ≤ n → f i < F.size
      small i k = h i (omega arith)

      each : ((i : ℕ) → i < n → f (suc i) ≡ 0) → (i : ℕ) → i < suc n → f i ≡ 0
      each past zero k = sym (constant f n r (small 0 (omega arith)) past) ∙ z r (head refl)
      each past (suc i) k = past i (omega arith)

  -- two polynomials of n coefficients that agree at n places
  pub value_unique : (places : List ℕ) (n : ℕ) (f g : ℕ → ℕ) → Below F.size places → Nodup places
      → ((i : ℕ) → i < n → f i < F.size) → ((i : ℕ) → i < n → g i < F.size) → n ≤ length places
      → ((x : ℕ) → Mem x places → value F n f x ≡ value F n g x) → (i : ℕ) → i < n → f i ≡ g i
  value_unique places n f g b d hf hg l e i k =
      eq_of_plus_zero (f i) (g i)
      (root_bound places n (λ i. plus (f i) (g i)) b d (λ i m. F.plus_lt (f i) (g i) (hf i m) (hg i m)) l
      (λ x m. value_plus F n f g x ∙ ap (λ (v : ℕ). plus v (value F n g x)) (e x m) ∙ plus_self (value F n g x)) i k)

  -- and two of at most as many coefficients as the field has elements that agree everywhere
  pub value_everywhere : (n : ℕ) (f g : ℕ → ℕ) → n ≤ F.size → ((i : ℕ) → i < n → f i < F.size) → ((i : ℕ) → i < n → g i < F.size)
      → ((x : ℕ) → x < F.size → value F n f x ≡ value F n g x) → (i : ℕ) → i < n → f i ≡ g i
  value_everywhere n f g l hf hg e =
      value_unique (below F.size) n f g (below_below F.size (zero_lt F)) (nodup_below F.size) hf hg (omega (arith, length_below F.size))
      (λ x m. e x (of_mem_below F.size x m))
