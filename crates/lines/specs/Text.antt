-- Text as a list of ASCII codes, and text written over a part of a list.
use Rattle.std.specs.Prelude.{cond, ◌≡◌, List, [], ◌∷◌, ◌++◌, ℕ, zero, suc, ◌+◌, ◌/◌, ◌%◌, ltb, length}
use Rattle.std.proofs.lemmas.List.Edits.{sets}

-- the last hexadecimal digit of n, in lower case
abbrev pub hex_digit : ℕ → ℕ
hex_digit n = cond (ltb (n % 16) 10) (48 + n % 16) (87 + n % 16)

-- the last k digits of n in decimal, without zeros before the first
unfoldable pub decimal_in : ℕ → ℕ → List ℕ
decimal_in zero n = []
decimal_in (suc k) n = cond (ltb n 10) [] (decimal_in k (n / 10)) ++ ((48 + n % 10) ∷ [])

-- n in decimal: no number has more digits than its value and one
unfoldable pub decimal : ℕ → List ℕ
decimal n = decimal_in (suc n) n

-- the texts of the numbers below k, one after another
unfoldable pub joined : (ℕ → List ℕ) → ℕ → List ℕ
joined text zero = []
joined text (suc k) = joined text k ++ text k

-- what a function leaves that writes a text from `at` on and answers the place after it; all else in the slice is as before
pub record Written (before : List ℕ) (at : ℕ) (text : List ℕ) (end : ℕ) (after : List ℕ) : Type 0 where
  pub ends : end ≡ at + length text
  pub holds : after ≡ sets before at text
