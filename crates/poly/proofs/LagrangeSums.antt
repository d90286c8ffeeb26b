-- Lagrange's sum over the columns: by halves, at a column, and as a polynomial.
-- Assumes nothing.
use mathlib.Core.Path.{◌≡◌, sym, ap, ap₂, ◌∙◌}
use mathlib.Core.List.{List, [], ◌∷◌, ◌++◌}
use Prim.Native.Nat.{ℕ, ◌+◌, ◌≤◌, ◌<◌}
use native.Mathlib.Omega.{arith}
use lib.ListN.{length, get_or, take, drop, length-append, take-append-drop}
use lib.Seq.{length-take-le}
use Rattle.field.specs.Plus.{plus}
use Rattle.field.specs.Field.{Field}
use Rattle.field.specs.Power.{power}
use Rattle.field.specs.Sum.{sum}
use Rattle.field.proofs.FieldLaws.{times_zero, times_left_comm}
use Rattle.field.proofs.Powers.{power_zero}
use Rattle.field.proofs.Sums.{sum_cong, sum_add, sum_swap, sum_scale, sum_scale_right, sum_single, sum_lt}
use Rattle.poly.specs.Lists.{Nodup, without}
use Rattle.poly.specs.Inner.Ranges.{Below}
use Rattle.poly.specs.Inner.Polynomials.{value, product, others, vanishing}
use Rattle.poly.specs.Inner.Interpolation.{lagrange_sum, divided}
use Rattle.poly.proofs.Lists.{length_without}
use Rattle.poly.proofs.Products.{others_lt, others_left, others_right, others_root, others_ne_zero}
use Rattle.poly.proofs.Vanishings.{vanishing_value}

module _ (F : Field) where
  pub lagrange_sum_cong : (l : List ℕ) (f g : ℕ → ℕ) (x : ℕ) → ((t : ℕ) → t < length l → f t ≡ g t) → lagrange_sum F l f x ≡ lagrange_sum F l g x
  unfolding lagrange_sum
  lagrange_sum_cong l f g x h = sum_cong (length l) _ _ (λ t b. ap (λ (v : ℕ). F.times v (others F l t x)) (h t b))

  lagrange_sum_append : (a b : List ℕ) (f : ℕ → ℕ) (x : ℕ) → lagrange_sum F (a ++ b) f x
      ≡ plus (F.times (product F b x) (lagrange_sum F a f x)) (F.times (product F a x) (lagrange_sum F b (λ t. f (length a + t)) x))
  unfolding lagrange_sum
  lagrange_sum_append a b f x =
      ap (λ (n : ℕ). sum n (λ t. F.times (f t) (others F (a ++ b) t x))) (length-append a b)
      ∙ sum_add (length a) (length b) (λ t. F.times (f t) (others F (a ++ b) t x))
      ∙ ap₂ plus
      (sum_cong (length a) _ (λ t. F.times (product F b x) (F.times (f t) (others F a t x)))
      (λ t h. ap (F.times (f t)) (others_left F a b t x h) ∙ times_left_comm F (f t) (product F b x) (others F a t x))
      ∙ sum_scale F (length a) (product F b x) (λ t. F.times (f t) (others F a t x)))
      (sum_cong (length b) _ (λ t. F.times (product F a x) (F.times (f (length a + t)) (others F b t x)))
      (λ t h. ap (F.times (f (length a + t))) (others_right F a b t x) ∙ times_left_comm F (f (length a + t)) (product F a x) (others F b t x))
      ∙ sum_scale F (length b) (product F a x) (λ t. F.times (f (length a + t)) (others F b t x)))

  -- THE HALVES: each times the vanishing polynomial of the other's columns
  pub lagrange_sum_halves : (h : ℕ) (l : List ℕ) (f : ℕ → ℕ) (x : ℕ) → h ≤ length l → lagrange_sum F l f x
      ≡ plus (F.times (product F (drop h l) x) (lagrange_sum F (take h l) f x))
      (F.times (product F (take h l) x) (lagrange_sum F (drop h l) (λ t. f (h + t)) x))
  lagrange_sum_halves h l f x k =
      ap (λ (m : List ℕ). lagrange_sum F m f x) (sym (take-append-drop h l))
      ∙ lagrange_sum_append (take h l) (drop h l) f x
      ∙ ap (λ (n : ℕ). plus (F.times (product F (drop h l) x) (lagrange_sum F (take h l) f x))
      (F.times (product F (take h l) x) (lagrange_sum F (drop h l) (λ t. f (n + t)) x)))
      (length-take-le h l k)

  -- a single column
  pub lagrange_sum_one : (l : List ℕ) (f : ℕ → ℕ) (x : ℕ) → length l ≡ 1 → value F (length l) f x ≡ lagrange_sum F l f x
  unfolding lagrange_sum value others product
  lagrange_sum_one [] f x e = absurd (omega arith)
  lagrange_sum_one (a ∷ []) f x e = sum_cong 1 _ _ (λ t b. let z : t ≡ 0 = omega arith in rw z (ap (F.times (f 0)) (power_zero F x)))
  lagrange_sum_one (a ∷ b ∷ l) f x e = absurd (omega arith)

  -- at a column
  pub lagrange_sum_at : (l : List ℕ) (f : ℕ → ℕ) (t : ℕ) → t < length l → lagrange_sum F l f (get_or l t 0) ≡ F.times (f t) (others F l t (get_or l t 0))
  unfolding lagrange_sum
  lagrange_sum_at l f t h =
      sum_single (length l) t (λ i. F.times (f i) (others F l i (get_or l t 0))) h
      (λ i k n. ap (F.times (f i)) (others_root F l t i h (λ e. n (sym e))) ∙ times_zero F (f i))

  -- with the numbers divided by the others' products, at a column: the number there
  pub lagrange_at : (l : List ℕ) (g : ℕ → ℕ) (t : ℕ) → Below F.size l → Nodup l → t < length l → g t < F.size
      → lagrange_sum F l (divided F l g) (get_or l t 0) ≡ g t
  lagrange_at l g t b d h k =
      let o = others F l t (get_or l t 0) in
      lagrange_sum_at l (divided F l g) t h
      ∙ F.times_comm (F.times (F.inverse o) (g t)) o ∙ sym (F.times_assoc o (F.inverse o) (g t))
      ∙ ap (λ (v : ℕ). F.times v (g t)) (F.times_inverse o (others_lt F l t (get_or l t 0)) (others_ne_zero F l t b d h))
      ∙ F.times_one (g t) k

  -- its coefficients
  unfoldable pub coefficients : List ℕ → (ℕ → ℕ) → ℕ → ℕ
  coefficients l f i = sum (length l) (λ t. F.times (f t) (vanishing F (without l t) i))

  pub coefficients_lt : (l : List ℕ) (f : ℕ → ℕ) (i : ℕ) → coefficients l f i < F.size
  unfolding coefficients
  coefficients_lt l f i =
      sum_lt F (length l) (λ t. F.times (f t) (vanishing F (without l t) i)) (λ t h. F.times_lt (f t) (vanishing F (without l t) i))

  pub coefficients_value : (l : List ℕ) (f : ℕ → ℕ) (x : ℕ) → value F (length l) (coefficients l f) x ≡ lagrange_sum F l f x
  unfolding coefficients value lagrange_sum others
  coefficients_value l f x =
      sum_cong (length l) _ (λ i. sum (length l) (λ t. F.times (F.times (f t) (vanishing F (without l t) i)) (power F x i)))
      (λ i b. sym (sum_scale_right F (length l) (power F x i) (λ t. F.times (f t) (vanishing F (without l t) i))))
      ∙ sum_swap (length l) (length l) (λ i t. F.times (F.times (f t) (vanishing F (without l t) i)) (power F x i))
      ∙ sum_cong (length l) _ _
      (λ t b.
      sum_cong (length l) _ (λ i. F.times (f t) (F.times (vanishing F (without l t) i) (power F x i)))
      (λ i k. F.times_assoc (f t) (vanishing F (without l t) i) (power F x i))
      ∙ sum_scale F (length l) (f t) (λ i. F.times (vanishing F (without l t) i) (power F x i))
      ∙ ap (F.times (f t)) (vanishing_value F (without l t) (length l) x (omega (arith, length_without l t b))))
