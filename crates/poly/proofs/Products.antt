-- The product of (x - a) over a list: two lists, where it is 0 and where not, and the product without one factor.
-- Assumes nothing.
use mathlib.Core.Path.{◌≡◌, sym, ap, ◌∙◌}
use mathlib.Core.Logic.{inl, inr}
use mathlib.Core.List.Memᴰ.{head}
use mathlib.Core.List.Memᴰ.{tail}
use mathlib.Core.List.{List, [], ◌∷◌, ◌++◌, Memᴰ as Mem}
use mathlib.Core.List.Memᴰ.{cases_cons}
use mathlib.Core.List.Memᴰ.{not-nil}
use Prim.Native.Nat.{ℕ, suc, ◌+◌, ◌<◌}
use native.Mathlib.Omega.{arith}
use lib.ListN.{length, get_or}
use Rattle.field.specs.Plus.{plus}
use Rattle.field.specs.Field.{Field}
use Rattle.field.proofs.Plus.{plus_self, eq_of_plus_zero}
use Rattle.field.proofs.FieldLaws.{times_zero, zero_times, times_ne_zero}
use Rattle.poly.specs.Lists.{Nodup, without}
use Rattle.poly.specs.Inner.Ranges.{Below}
use Rattle.poly.specs.Inner.Polynomials.{product, others}
use Rattle.poly.proofs.Lists.{mem_without, nodup_without, without_left, without_right}
use Rattle.poly.proofs.Parts.{below_without}

module _ (F : Field) where
  pub product_lt : (l : List ℕ) (x : ℕ) → product F l x < F.size
  unfolding product
  product_lt [] x = F.two_le
  product_lt (a ∷ l) x = F.times_lt (plus x a) (product F l x)

  pub product_append : (l m : List ℕ) (x : ℕ) → product F (l ++ m) x ≡ F.times (product F l x) (product F m x)
  unfolding product
  product_append [] m x = sym (F.times_one (product F m x) (product_lt m x))
  product_append (a ∷ l) m x = ap (F.times (plus x a)) (product_append l m x) ∙ sym (F.times_assoc (plus x a) (product F l x) (product F m x))

  -- it is 0 at the numbers of l, and nowhere else
  pub product_root : (l : List ℕ) (x : ℕ) → Mem x l → product F l x ≡ 0
  unfolding product
  product_root [] x m = absurd (not-nil m)
  product_root (a ∷ l) x m = elim (cases_cons m) [
    | inl e ↦ ap (λ (v : ℕ). F.times v (product F l x)) (ap (plus x) (sym e) ∙ plus_self x) ∙ zero_times F (product F l x)
    | inr k ↦ ap (F.times (plus x a)) (product_root l x k) ∙ times_zero F (plus x a)
  ]

  pub product_ne_zero : (l : List ℕ) (x : ℕ) → x < F.size → Below F.size l → (Mem x l → ⊥) → product F l x ≡ 0 → ⊥
  unfolding product
  product_ne_zero [] x h b n = λ e. omega arith
  product_ne_zero (a ∷ l) x h b n =
      times_ne_zero F (plus x a) (product F l x) (F.plus_lt x a h (b 0)) (product_lt l x) (λ e. n (head (eq_of_plus_zero x a e)))
      (product_ne_zero l x h (λ i. b (suc i)) (λ m. n (tail m)))

  -- ---- the product without one factor

  pub others_lt : (l : List ℕ) (t x : ℕ) → others F l t x < F.size
  unfolding others
  others_lt l t x = product_lt (without l t) x

  pub others_left : (a b : List ℕ) (t x : ℕ) → t < length a → others F (a ++ b) t x ≡ F.times (product F b x) (others F a t x)
  unfolding others
  others_left a b t x h =
      ap (λ (l : List ℕ). product F l x) (without_left a b t h)
      ∙ product_append (without a t) b x
      ∙ F.times_comm (product F (without a t) x) (product F b x)

  pub others_right : (a b : List ℕ) (t x : ℕ) → others F (a ++ b) (length a + t) x ≡ F.times (product F a x) (others F b t x)
  unfolding others
  others_right a b t x = ap (λ (l : List ℕ). product F l x) (without_right a b t) ∙ product_append a (without b t) x

  -- at the number i of l it is 0, for i other than t, and for i = t not, where no number stands twice
  pub others_root : (l : List ℕ) (i t : ℕ) → i < length l → (i ≡ t → ⊥) → others F l t (get_or l i 0) ≡ 0
  unfolding others
  others_root l i t h n = product_root (without l t) (get_or l i 0) (mem_without 0 l i t h n)

  pub others_ne_zero : (l : List ℕ) (t : ℕ) → Below F.size l → Nodup l → t < length l → others F l t (get_or l t 0) ≡ 0 → ⊥
  unfolding others
  others_ne_zero l t b d h = product_ne_zero (without l t) (get_or l t 0) (b t) (below_without F.size l t b) (nodup_without 0 l t d h)
