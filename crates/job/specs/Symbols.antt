-- The symbols of a broken word: "A broken word has 255 at each missing place; 0 is a symbol like any other."
use Rattle.std.specs.Prelude.{cond, List, [], ◌∷◌, ℕ, zero, suc, eqb}

-- T-05: "the arrived symbols": how many there are
unfoldable pub arrived_in : List ℕ → ℕ
arrived_in [] = 0
arrived_in (x ∷ word) = cond (eqb x 255) (arrived_in word) (suc (arrived_in word))

-- T-05: "a call brings in arrived symbols by ascending place": the word with its n lowest ones only, 255 elsewhere
unfoldable pub brought_in : List ℕ → ℕ → List ℕ
brought_in [] n = []
brought_in (x ∷ word) zero = 255 ∷ brought_in word zero
brought_in (x ∷ word) (suc n) = x ∷ brought_in word (cond (eqb x 255) (suc n) n)
