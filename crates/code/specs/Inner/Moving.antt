-- Columns that are moved from one word to another, whole or broken.
use Rattle.std.specs.Prelude.{List, ◌≡◌, ℕ, ◌+◌, ◌*◌, ◌≤◌, ◌<◌, length, get_or}

-- the word has each of the columns with these numbers
abbrev pub Within : ℕ → List ℕ → List ℕ → Type 0
Within q numbers word = (t : ℕ) → t < length numbers → q * get_or numbers t 0 + q ≤ length word

-- the first n columns have been moved: number from[t] of the word is number to[t] of out; the others of out are as they were in out₀
pub record Moved (q : ℕ) (from to word out₀ out : List ℕ) (n : ℕ) : Type 0 where
  pub long : length out ≡ q * q * q
  pub at : (t s : ℕ) → t < n → s < q → get_or out (q * get_or to t 0 + s) 0 ≡ get_or word (q * get_or from t 0 + s) 0
  pub kept : (x s : ℕ) → s < q → ((t : ℕ) → t < n → get_or to t 0 ≡ x → ⊥) → get_or out (q * x + s) 0 ≡ get_or out₀ (q * x + s) 0
