-- "A message is k symbols, the coefficients by ascending weight. Its word is the n values at the places in order."
use Rattle.std.specs.Prelude.{List, map, ℕ, get_or}
use Rattle.field.specs.Power.{power}
use Rattle.field.specs.Sum.{sum}
use Rattle.field.proofs.Fields.{field_of}
use Rattle.points.specs.Points.{points_on}
use Rattle.code.specs.Terms.{x_power, y_power, weights, size}

-- the term of weight w at (x, y)
abbrev pub monomial : ℕ → ℕ → ℕ → ℕ → ℕ
monomial q w x y = (field_of q).times (power (field_of q) x (x_power q w)) (power (field_of q) y (y_power q w))

-- the sum of the terms, each times its coefficient
unfoldable pub value_at : ℕ → ℕ → List ℕ → ℕ → ℕ → ℕ
value_at q m message x y = sum (size q m) (λ n. (field_of q).times (monomial q (get_or (weights q m) n 0) x y) (get_or message n 0))

-- the values at the points of a list of columns
unfoldable pub word_of : ℕ → List ℕ → ℕ → List ℕ → List ℕ
word_of q columns m message = map (λ p. value_at q m message p.0 p.1) (points_on q columns)
