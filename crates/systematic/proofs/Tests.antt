-- The tests of lists, as statements.
-- Assumes nothing.
use mathlib.Core.Bool.{Bool}
use mathlib.Core.List.Memᴰ.{head}
use mathlib.Core.List.Memᴰ.{tail}
use mathlib.Core.List.{List, [], ◌∷◌, Memᴰ as Mem}
use mathlib.Core.List.Memᴰ.{cases_cons}
use mathlib.Core.List.Memᴰ.{not-nil}
use mathlib.Core.Logic.{inl, inr}
use mathlib.Core.Path.{◌≡◌, refl, ap₂, subst}
use Prim.Native.Nat.{ℕ}
use borrow.Author.Tests.{eq-eqb}
use lib.Dec.{T, eqb, eqb→eq}
use Rattle.field.proofs.Search.{both}
use Rattle.poly.proofs.Bools.{parts}
use Rattle.systematic.specs.InformationSets.{same_list, all_of}

module _ {A : Type 0} (test : A → Bool) where
  pub of_all_of : (xs : List A) → T (all_of test xs) → (x : A) → Mem x xs → T (test x)
  unfolding all_of
  of_all_of [] t x k = absurd (not-nil k)
  of_all_of (y ∷ xs) t x k =
      let w = parts (test y) (all_of test xs) t in
      elim (cases_cons k) [ inl e ↦ rw e w.0 | inr i ↦ of_all_of xs w.1 x i ]

  pub to_all_of : (xs : List A) → ((x : A) → Mem x xs → T (test x)) → T (all_of test xs)
  unfolding all_of
  to_all_of [] h = tt
  to_all_of (y ∷ xs) h = both (test y) (all_of test xs) (h y (head refl)) (to_all_of xs (λ x k. h x (tail k)))

pub of_same_list : (a b : List ℕ) → T (same_list a b) → a ≡ b
unfolding same_list
of_same_list [] [] t = refl
of_same_list [] (y ∷ b) t = absurd t
of_same_list (x ∷ a) [] t = absurd t
of_same_list (x ∷ a) (y ∷ b) t =
    let w = parts (eqb x y) (same_list a b) t in
    ap₂ (λ (s : ℕ) (l : List ℕ). s ∷ l) (eqb→eq x y w.0) (of_same_list a b w.1)

same_list_self : (a : List ℕ) → T (same_list a a)
unfolding same_list
same_list_self [] = tt
same_list_self (x ∷ a) = both (eqb x x) (same_list a a) (rw (eq-eqb x x refl) tt) (same_list_self a)

pub to_same_list : (a b : List ℕ) → a ≡ b → T (same_list a b)
to_same_list a b e = subst (λ (u : List ℕ). T (same_list a u)) e (same_list_self a)
