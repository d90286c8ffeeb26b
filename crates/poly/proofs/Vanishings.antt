-- The vanishing polynomial of a list: its degree, its value, and its derivative, which at a number of the list is the product of the others;
-- and how it is multiplied out.
-- Assumes nothing.
use mathlib.Core.Path.{◌≡◌, refl, sym, ap, ap₂, ◌∙◌, subst}
use mathlib.Core.List.{List, [], ◌∷◌}
use Prim.Native.Nat.{ℕ, zero, suc, ◌+◌, ◌-◌, ◌%◌, ◌≤◌, ◌<◌}
use native.Mathlib.Nat.{mul-zero, le_refl}
use native.Mathlib.Decide.{dec_lt}
use native.Mathlib.Omega.{arith}
use lib.ListN.{length, get_or, set, drop, length-set, length-drop, length-replicate}
use lib.Seq.{drop-length, drop-cons, get_or-set_same, get_or-set_other}
use Rattle.field.specs.Plus.{plus}
use Rattle.field.specs.Field.{Field}
use Rattle.field.specs.Sum.{sum}
use Rattle.field.proofs.Plus.{plus_comm, plus_zero, zero_plus}
use Rattle.field.proofs.FieldLaws.{zero_lt, times_zero}
use Rattle.field.proofs.Sums.{sum_none, sum_first, sum_single, sum_scale}
use Rattle.poly.specs.Inner.Ranges.{Below, writes}
use Rattle.poly.specs.Inner.Linear.{entry}
use Rattle.poly.specs.Inner.Polynomials.{value, derivative, linear, vanishing, product, others, Vanishing}
use Rattle.poly.proofs.Writes.{length_writes, writes_in, writes_out}
use Rattle.poly.proofs.Entries.{zeros, get_or_zeros}
use Rattle.poly.proofs.Values.{value_zeros, value_first, value_linear}
use Rattle.poly.proofs.Derivatives.{value_derivative_linear}
use Rattle.poly.proofs.Products.{others_root}

module _ (F : Field) where
  pub vanishing_degree : (l : List ℕ) (i : ℕ) → length l < i → vanishing F l i ≡ 0
  unfolding vanishing
  vanishing_degree l zero h = absurd (omega arith)
  vanishing_degree [] (suc i) h = refl
  vanishing_degree (a ∷ l) (suc i) h =
      ap₂ (λ (u v : ℕ). plus (F.times a u) v) (vanishing_degree l (suc i) (omega arith)) (vanishing_degree l i (omega arith))
      ∙ plus_zero (F.times a 0) ∙ times_zero F a

  pub vanishing_lt : (l : List ℕ) (i : ℕ) → vanishing F l i < F.size
  unfolding vanishing
  vanishing_lt [] zero = F.two_le
  vanishing_lt [] (suc i) = zero_lt F
  vanishing_lt (a ∷ l) zero = F.times_lt a (vanishing F l 0)
  vanishing_lt (a ∷ l) (suc i) =
      F.plus_lt (F.times a (vanishing F l (suc i))) (vanishing F l i) (F.times_lt a (vanishing F l (suc i))) (vanishing_lt l i)

  pub vanishing_value : (l : List ℕ) (n x : ℕ) → length l < n → value F n (vanishing F l) x ≡ product F l x
  unfolding vanishing product
  vanishing_value l zero x h = absurd (omega arith)
  vanishing_value [] (suc n) x h =
      value_first F n (vanishing F []) x F.two_le
      ∙ ap (λ (v : ℕ). plus (F.times x v) 1) (value_zeros F n (λ i. 0) x (λ i l. refl)) ∙ ap (λ (v : ℕ). plus v 1) (times_zero F x) ∙ zero_plus 1
  vanishing_value (a ∷ l) (suc n) x h =
      value_linear F n a (vanishing F l) x (vanishing_degree l n (omega arith)) ∙ ap (F.times (plus x a)) (vanishing_value l n x (omega arith))

  pub vanishing_derivative : (l : List ℕ) (n x : ℕ) → length l ≤ n → value F n (derivative (vanishing F l)) x ≡ sum (length l) (λ t. others F l t x)
  unfolding vanishing product others derivative
  vanishing_derivative [] n x h =
      value_zeros F n (derivative (vanishing F [])) x (λ i l. mul-zero (suc i % 2)) ∙ sym (sum_none (λ t. others F [] t x))
  vanishing_derivative (a ∷ l) n x h =
      value_derivative_linear F n a (vanishing F l) x (vanishing_degree l n h)
      ∙ ap₂ (λ (u v : ℕ). plus (F.times (plus x a) u) v) (vanishing_derivative l n x (omega arith)) (vanishing_value l n x h)
      ∙ plus_comm (F.times (plus x a) (sum (length l) (λ t. others F l t x))) (product F l x)
      ∙ ap (plus (product F l x)) (sym (sum_scale F (length l) (plus x a) (λ t. others F l t x)))
      ∙ sym (sum_first (length l) (λ t. others F (a ∷ l) t x))

  -- at the number t of l
  pub derivative_at : (l : List ℕ) (t : ℕ) → t < length l → value F (length l) (derivative (vanishing F l)) (get_or l t 0) ≡ others F l t (get_or l t 0)
  derivative_at l t h =
      vanishing_derivative l (length l) (get_or l t 0) (le_refl (length l))
      ∙ sum_single (length l) t (λ i. others F l i (get_or l t 0)) h (λ i k n. others_root F l t i h (λ e. n (sym e)))

  -- ---- the turns of the loop that multiplies the polynomial out, from the last column to the first

  -- the polynomial 1
  pub vanishing_none : (columns : List ℕ) (n : ℕ) → 0 < n → Vanishing F (drop (length columns) columns) (set (zeros n) 0 1)
  unfolding vanishing
  vanishing_none columns n some =
      subst (λ (l : List ℕ). Vanishing F l (set (zeros n) 0 1)) (sym (drop-length columns))
      (record { long = omega (arith, length-set (zeros n) 0 1, length-replicate {A = ℕ} n 0); is = at })
    where
      at : (i : ℕ) → get_or (set (zeros n) 0 1) i 0 ≡ vanishing F [] i
      at zero = get_or-set_same (zeros n) 0 1 0 (omega (arith, length-replicate {A = ℕ} n 0))
      at (suc i) = get_or-set_other (zeros n) 0 (suc i) 1 0 (omega arith) ∙ get_or_zeros n (suc i)

  linear_cong : (a : ℕ) (f g : ℕ → ℕ) → ((i : ℕ) → f i ≡ g i) → (i : ℕ) → linear F a f i ≡ linear F a g i
  unfolding linear
  linear_cong a f g h zero = ap (F.times a) (h 0)
  linear_cong a f g h (suc i) = ap₂ (λ (u v : ℕ). plus (F.times a u) v) (h (suc i)) (h i)

  vanishing_cons : (a n : ℕ) (l s : List ℕ) → n ≡ length l + 2 → n ≤ length s → Vanishing F l s
      → Vanishing F (a ∷ l) (writes s n (linear F a (entry s)))
  unfolding vanishing
  vanishing_cons a n l s e k v = record { long = omega (arith, length_writes s (linear F a (entry s)) n); is = at }
    where
      at : (i : ℕ) → get_or (writes s n (linear F a (entry s))) i 0 ≡ vanishing F (a ∷ l) i
      at i = elim (dec_lt i n) [
        | yes h ↦ writes_in s (linear F a (entry s)) n i h k ∙ linear_cong a (entry s) (vanishing F l) v.is i
        | no h ↦ writes_out s (linear F a (entry s)) n i (omega arith) ∙ v.is i ∙ vanishing_degree l i (omega arith)
            ∙ sym (vanishing_degree (a ∷ l) i (omega arith))
      ]

  pub vanishing_more : (columns s : List ℕ) (t : ℕ) → 0 < t → t ≤ length columns → length columns < length s → Vanishing F (drop t columns) s
      → Vanishing F (drop (t - 1) columns) (writes s (length columns - (t - 1) + 1) (linear F (get_or columns (t - 1) 0) (entry s)))
  vanishing_more columns s t h k few v =
      let next : t ≡ suc (t - 1) = omega arith in
      subst (λ (l : List ℕ). Vanishing F l (writes s (length columns - (t - 1) + 1) (linear F (get_or columns (t - 1) 0) (entry s))))
      (sym (drop-cons columns (t - 1) 0 (omega arith) ∙ ap (λ (n : ℕ). get_or columns (t - 1) 0 ∷ drop n columns) (sym next)))
      (vanishing_cons (get_or columns (t - 1) 0) (length columns - (t - 1) + 1) (drop t columns) s (omega (arith, length-drop t columns)) (omega arith) v)

  pub vanishing_below : (columns out : List ℕ) → Vanishing F columns out → Below F.size out
  vanishing_below columns out v i = rw (v.is i) (vanishing_lt columns i)
