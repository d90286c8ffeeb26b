-- Linear forms and equations over a field. Rows and vectors are functions; a list comes in as `entry l`.
use Rattle.std.specs.Prelude.{◌≡◌, List, ℕ, get_or}
use Rattle.field.specs.Field.{Field}
use Rattle.field.specs.Sum.{sum}

-- what stands at j, and 0 past the end
abbrev pub entry : List ℕ → ℕ → ℕ
entry l j = get_or l j 0

-- r 0 · v 0 + .. + r (n - 1) · v (n - 1)
unfoldable pub dot : Field → ℕ → (ℕ → ℕ) → (ℕ → ℕ) → ℕ
dot F n r v = sum n (λ j. F.times (r j) (v j))

-- v meets the equation with the coefficients r 0, .., r (k - 1) and the right-hand side r k
abbrev pub Holds : Field → ℕ → (ℕ → ℕ) → (ℕ → ℕ) → Type 0
Holds F k r v = dot F k r v ≡ r k
