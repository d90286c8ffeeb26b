-- "a word is a codeword of order m exactly when, against every codeword of order n + 2g − 2 − m, the place_by_place products add up to 0 in the
-- field" (T-13): what the two sides say, over a list of columns.
use Rattle.std.specs.Prelude.{List, ◌≡◌, ℕ, get_or}
use Rattle.field.specs.Curve.{curve_of}
use Rattle.field.specs.Sum.{sum}
use Rattle.field.proofs.Fields.{field_of}
use Rattle.poly.specs.Messages.{Vector}
use Rattle.code.specs.Terms.{size}
use Rattle.code.specs.Word.{word_of}

-- the place_by_place products of two words, added up
abbrev pub product_sum : ℕ → List ℕ → List ℕ → ℕ
product_sum q word other = sum (curve_of q).points (λ p. (field_of q).times (get_or word p 0) (get_or other p 0))

-- the word of a message of order m
abbrev pub Codeword : ℕ → List ℕ → ℕ → List ℕ → Type 0
Codeword q columns m word = (message : List ℕ) × Vector (curve_of q).symbols (size q m) message × (word_of q columns m message ≡ word)

-- against every codeword of order m the products add up to 0
abbrev pub Orthogonal : ℕ → List ℕ → ℕ → List ℕ → Type 0
Orthogonal q columns m word = (other : List ℕ) → Codeword q columns m other → product_sum q word other ≡ 0
