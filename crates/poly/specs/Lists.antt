-- Lists as finite sets: lists with no element twice, and the number of elements that pass a test.
use Rattle.std.specs.Prelude.{Bool, true, false, cond, ℕ, zero, suc, ◌+◌}
use mathlib.Core.List.{List, [], ◌∷◌, Memᴰ as Mem}

abbrev pub one_if : Bool → ℕ
one_if true = 1
one_if false = 0

module _ {A : Type 0} where
  -- no element stands twice
  abbrev pub Nodup : List A → Type 0
  Nodup [] = Unit {0}
  Nodup (x ∷ xs) = (Mem x xs → ⊥) × Nodup xs

  -- the number of elements that pass the test p
  unfoldable pub count : (A → Bool) → List A → ℕ
  count p [] = 0
  count p (x ∷ xs) = one_if (p x) + count p xs

  -- the list without its element t
  abbrev pub without : List A → ℕ → List A
  without [] t = []
  without (x ∷ xs) zero = xs
  without (x ∷ xs) (suc t) = x ∷ without xs t

-- n - 1, .., 1, 0
unfoldable pub below : ℕ → List ℕ
below zero = []
below (suc n) = n ∷ below n

-- the elements that pass the test p, in their order
unfoldable pub filter : {A : Type 0} → (A → Bool) → List A → List A
filter p [] = []
filter p (x ∷ xs) = cond (p x) (x ∷ filter p xs) (filter p xs)
