-- Vectors: the lists of k numbers below Q, and the list of all of them.
use Rattle.std.specs.Prelude.{◌≡◌, ℕ, zero, suc, ◌<◌, length, get_or}
use mathlib.Core.List.{List, [], ◌∷◌, ◌++◌, map, flat_map}
use Rattle.poly.specs.Lists.{below}

pub record Vector (Q k : ℕ) (v : List ℕ) : Type 0 where
  pub len : length v ≡ k
  pub small : (i : ℕ) → i < k → get_or v i 0 < Q

-- v with one more number at its end
abbrev pub snoc : List ℕ → ℕ → List ℕ
snoc v x = v ++ (x ∷ [])

-- all vectors, each once. They grow at the end: row p of a triangular system names the coordinates up to p only
unfoldable pub all : ℕ → ℕ → List (List ℕ)
unfolding below
all Q zero = [] ∷ []
all Q (suc k) = flat_map (λ v. map (snoc v) (below Q)) (all Q k)
