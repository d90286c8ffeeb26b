-- Lists of places: what the tests say of them, and the broken word that has symbols at just these.
-- Assumes nothing.
use mathlib.Core.Bool.{true, false}
use mathlib.Core.List.{List}
use mathlib.Core.Path.{◌≡◌, refl, sym, ◌∙◌}
use Prim.Native.Nat.{ℕ, zero, suc, ◌≤◌, ◌<◌}
use native.Mathlib.Decide.{ℕ_discrete}
use native.Mathlib.Omega.{arith}
use borrow.Author.Tests.{eq-eqb}
use lib.Dec.{T, eqb, eqb→eq}
use lib.ListN.{length, get_or, length-set}
use lib.Seq.{get_or-set_same, get_or-set_other}
use Rattle.field.proofs.Search.{both}
use Rattle.poly.specs.Ascending.{is_ascending_below}
use Rattle.poly.proofs.Ascending.{of_ascending, to_ascending}
use Rattle.poly.proofs.Bools.{T_true, parts, same_test}
use Rattle.code.proofs.GridEntries.{laid}
use Rattle.systematic.specs.Places.{good_places}

-- k different places below n, ascending
pub record Places (k n : ℕ) (places : List ℕ) : Type 0 where
  pub many : length places ≡ k
  pub ascending : (i j : ℕ) → i < j → j < length places → get_or places i 0 < get_or places j 0
  pub below : (i : ℕ) → i < length places → get_or places i 0 < n

module _ (k n : ℕ) (places : List ℕ) where
  pub of_good : T (good_places k n places) → Places k n places
  unfolding good_places
  of_good t =
      let (many, ascend) = parts (eqb (length places) k) (is_ascending_below n places) t in
      let h = of_ascending n places ascend in
      record { many = eqb→eq (length places) k many; ascending = h.ascending; below = h.below }

  by_parts : length places ≡ k → T (is_ascending_below n places) → T (good_places k n places)
  unfolding good_places
  by_parts e t = both (eqb (length places) k) (is_ascending_below n places) (rw (eq-eqb (length places) k e) tt) t

  pub to_good : Places k n places → T (good_places k n places)
  to_good h = by_parts h.many (to_ascending n places (record { ascending = h.ascending; below = h.below }))

  -- ---- how the tests of the code decide it

  pub are_good : length places ≡ k → T (is_ascending_below n places) → true ≡ good_places k n places
  are_good e t = sym (T_true (good_places k n places) (by_parts e t))

  pub not_many : (length places ≡ k → ⊥) → false ≡ good_places k n places
  not_many d = same_test false (good_places k n places) (λ t. absurd t) (λ t. absurd (d (of_good t).many))

  pub not_good : (T (is_ascending_below n places) → ⊥) → false ≡ good_places k n places
  not_good d =
      same_test false (good_places k n places) (λ t. absurd t)
      (λ t. let h = of_good t in absurd (d (to_ascending n places (record { ascending = h.ascending; below = h.below }))))

-- ---- symbols laid out at places

module _ (places symbols word : List ℕ) where
  pub length_laid : (i : ℕ) → length (laid places symbols word i) ≡ length word
  unfolding laid
  length_laid zero = refl
  length_laid (suc i) = length-set (laid places symbols word i) (get_or places i 0) (get_or symbols i 0) ∙ length_laid i

  -- what was there stands where no symbol was laid
  pub laid_out : (p i : ℕ) → ((j : ℕ) → j < i → get_or places j 0 ≡ p → ⊥) → get_or (laid places symbols word i) p 0 ≡ get_or word p 0
  unfolding laid
  laid_out p zero d = refl
  laid_out p (suc i) d =
      get_or-set_other (laid places symbols word i) (get_or places i 0) p (get_or symbols i 0) 0 (λ e. d i (omega arith) (sym e))
      ∙ laid_out p i (λ j l. d j (omega arith))

  module _ (k : ℕ) (h : Places k (length word) places) where
    pub laid_at : (j i : ℕ) → j < i → i ≤ length places → get_or (laid places symbols word i) (get_or places j 0) 0 ≡ get_or symbols j 0
    unfolding laid
    laid_at j zero l m = absurd (omega arith)
    laid_at j (suc i) l m = elim (ℕ_discrete j i) [
      | yes e ↦ rw e (get_or-set_same (laid places symbols word i) (get_or places i 0) (get_or symbols i 0) 0 (rw (length_laid i) (h.below i (omega arith))))
      | no d ↦
          let before = h.ascending j i (omega arith) (omega arith) in
          get_or-set_other (laid places symbols word i) (get_or places i 0) (get_or places j 0) (get_or symbols i 0) 0 (λ e. absurd (omega arith))
          ∙ laid_at j i (omega arith) (omega arith)
    ]
