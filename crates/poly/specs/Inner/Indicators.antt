-- The polynomial that is 1 at b and 0 at every other root of y^n + y + a, where b is one of the n roots and n is even.
use Rattle.std.specs.Prelude.{ℕ, ◌-◌, eqb}
use Rattle.field.specs.Plus.{plus}
use Rattle.field.specs.Field.{Field}
use Rattle.field.specs.Power.{power}
use Rattle.poly.specs.Lists.{one_if}

-- its coefficients: b^(n - 1), .., b, 1, with 1 added to the first
unfoldable pub indicator : Field → ℕ → ℕ → ℕ → ℕ
indicator F n b j = plus (power F b (n - 1 - j)) (one_if (eqb j 0))
