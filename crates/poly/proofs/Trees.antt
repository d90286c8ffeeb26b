-- Trees of vanishing polynomials: one computed test of a list says that it is one.
-- Assumes nothing.
use mathlib.Core.Bool.{Bool, ◌&&◌, ◌||◌}
use mathlib.Core.List.{List, [], ◌∷◌}
use mathlib.Core.Path.{◌≡◌, refl, sym, ap, ap₂, ◌∙◌}
use Prim.Native.Nat.{ℕ, zero, suc, ◌+◌, ◌*◌, ◌≤◌, ◌<◌}
use native.Mathlib.Decide.{dec_lt}
use native.Mathlib.Omega.{arith}
use mathlib.Core.Logic.{inl, inr}
use lib.Dec.{T, leb, leb→le}
use lib.ListN.{length, get_or, take, drop, get_or-eq_default}
use lib.Seq.{length-take-le, get_or-take, get_or-drop}
use Rattle.field.specs.Plus.{plus}
use Rattle.field.specs.Field.{Field}
use Rattle.field.proofs.Plus.{plus_zero, zero_plus}
use Rattle.field.proofs.FieldLaws.{zero_lt, times_zero}
use Rattle.field.proofs.Table.{all_below, below_entry, begins, same_entry}
use Rattle.poly.specs.Inner.Polynomials.{linear, vanishing}
use Rattle.poly.specs.Inner.Interpolation.{half, coefficient_count, Node, Levels, VanishingTree}
use Rattle.poly.proofs.Bools.{parts, of_or}
use Rattle.poly.proofs.Vanishings.{vanishing_degree}

module _ (F : Field) where
  -- the coefficients of the product by x - a: those of the polynomial are s, and before them carry
  unfoldable pub times_linear : ℕ → ℕ → List ℕ → List ℕ
  times_linear a carry [] = carry ∷ []
  times_linear a carry (x ∷ s) = plus (F.times a x) carry ∷ times_linear a x s

  unfoldable pub coefficients : List ℕ → List ℕ
  unfolding times_linear
  coefficients [] = 1 ∷ []
  coefficients (a ∷ l) = times_linear a 0 (coefficients l)

  -- the coefficient i + 1 of the product
  next : (a carry : ℕ) (s : List ℕ) (i : ℕ) → get_or (times_linear a carry s) (suc i) 0 ≡ plus (F.times a (get_or s (suc i) 0)) (get_or s i 0)
  unfolding times_linear
  next a carry [] i = sym (ap (λ (u : ℕ). plus u 0) (times_zero F a) ∙ zero_plus 0)
  next a carry (x ∷ []) zero = sym (ap (λ (u : ℕ). plus u x) (times_zero F a) ∙ zero_plus x)
  next a carry (x ∷ y ∷ s) zero = refl
  next a carry (x ∷ s) (suc i) = next a x s i

  first : (a : ℕ) (s : List ℕ) → get_or (times_linear a 0 s) 0 0 ≡ F.times a (get_or s 0 0)
  unfolding times_linear
  first a [] = sym (times_zero F a)
  first a (x ∷ s) = plus_zero (F.times a x)

  pub coefficients_are : (l : List ℕ) (i : ℕ) → get_or (coefficients l) i 0 ≡ vanishing F l i
  unfolding vanishing linear coefficients
  coefficients_are [] zero = refl
  coefficients_are [] (suc i) = refl
  coefficients_are (a ∷ l) zero = first a (coefficients l) ∙ ap (F.times a) (coefficients_are l 0)
  coefficients_are (a ∷ l) (suc i) =
      next a 0 (coefficients l) i ∙ ap₂ (λ (u v : ℕ). plus (F.times a u) v) (coefficients_are l (suc i)) (coefficients_are l i)

  -- n numbers of the list, from at on, are the first coefficients
  unfoldable pub holds : List ℕ → ℕ → List ℕ → ℕ → Bool
  unfolding coefficients
  holds tree at l n = begins n (drop at tree) (coefficients l)

  unfoldable pub is_node : List ℕ → ℕ → List ℕ → Bool
  unfolding holds
  is_node tree at columns =
      leb (at + (coefficient_count columns + coefficient_count columns)) (length tree)
      && (holds tree at (take (half columns) columns) (coefficient_count columns)
      && holds tree (at + coefficient_count columns) (drop (half columns) columns) (coefficient_count columns))

  unfoldable pub is_tree : ℕ → ℕ → List ℕ → ℕ → List ℕ → Bool
  unfolding is_node
  is_tree zero stride tree at columns = leb (length columns) 1
  is_tree (suc n) stride tree at columns =
      leb (length columns) 1
      || (is_node tree at columns
      && (is_tree n stride tree (at + stride) (take (half columns) columns)
      && is_tree n stride tree (at + stride + 2 * half columns) (drop (half columns) columns)))

  held : (tree : List ℕ) (at : ℕ) (l : List ℕ) (n : ℕ) → T (holds tree at l n) → (i : ℕ) → i < n → get_or tree (at + i) 0 ≡ vanishing F l i
  unfolding holds
  held tree at l n test i h =
      sym (get_or-drop at tree i 0) ∙ same_entry n (drop at tree) (coefficients l) test i h ∙ coefficients_are l i

  -- what the test of a node says
  node : (stride : ℕ) (tree : List ℕ) (at : ℕ) (columns : List ℕ) → T (is_node tree at columns) → Node F tree at columns
  unfolding is_node
  node stride tree at columns test =
      let k = coefficient_count columns in
      let room = leb (at + (k + k)) (length tree) in
      let first = holds tree at (take (half columns) columns) k in
      let others = holds tree (at + k) (drop (half columns) columns) k in
      let a = parts room (first && others) test in
      let b = parts first others a.1 in
      record {
        room = leb→le (at + (k + k)) (length tree) a.0;
        first = held tree at (take (half columns) columns) k b.0;
        others = λ i h.
            let e : at + (k + i) ≡ at + k + i = omega arith in
            ap (λ (x : ℕ). get_or tree x 0) e ∙ held tree (at + k) (drop (half columns) columns) k b.1 i h;
      }

  levels : (n stride : ℕ) (tree : List ℕ) (at : ℕ) (columns : List ℕ) → T (is_tree n stride tree at columns) → (m : ℕ)
      → Levels m F stride tree at columns
  unfolding is_tree
  levels n stride tree at columns test zero = tt
  levels zero stride tree at columns test (suc m) = λ two. absurd (omega (arith, leb→le (length columns) 1 test))
  levels (suc n) stride tree at columns test (suc m) = λ two.
      let h = half columns in
      let this = is_node tree at columns in
      let left = is_tree n stride tree (at + stride) (take h columns) in
      let right = is_tree n stride tree (at + stride + 2 * h) (drop h columns) in
      elim (of_or (leb (length columns) 1) (this && (left && right)) test) [
        | inl one ↦ absurd (omega (arith, leb→le (length columns) 1 one))
        | inr t ↦
            let a = parts this (left && right) t in
            let b = parts left right a.1 in (
              node stride tree at columns a.0,
              levels n stride tree (at + stride) (take h columns) b.0 m,
              levels n stride tree (at + stride + 2 * h) (drop h columns) b.1 m,
            )
      ]

  -- THE TEST: the root, the levels of the halves, and that all are symbols
  pub vanishing_tree : (n : ℕ) (columns tree : List ℕ) → length columns + 1 ≤ length tree → length tree ≤ 1024
      → T (holds tree 0 columns (length columns + 1)) → T (is_tree n (2 * length columns) tree (length columns + 1) columns)
      → T (all_below F.size tree) → VanishingTree F columns tree
  vanishing_tree n columns tree long short root halves small = record {
    root = record { long = omega (arith, length-take-le (length columns + 1) tree long); is = is };
    halves = levels n (2 * length columns) tree (length columns + 1) columns halves;
    below = below_entry F.size tree (zero_lt F) small;
    short = short;
  }
    where
      is : (i : ℕ) → get_or (take (length columns + 1) tree) i 0 ≡ vanishing F columns i
      is i = elim (dec_lt i (length columns + 1)) [
        | yes l ↦ get_or-take (length columns + 1) tree i 0 l
            ∙ (let z : i ≡ 0 + i = omega arith in ap (λ (x : ℕ). get_or tree x 0) z)
            ∙ held tree 0 columns (length columns + 1) root i l
        | no l ↦ get_or-eq_default (take (length columns + 1) tree) 0 {n = i} (omega (arith, length-take-le (length columns + 1) tree long))
            ∙ sym (vanishing_degree F columns i (omega arith))
      ]
