-- Powers in a field.
use Rattle.std.specs.Prelude.{ℕ, zero, suc}
use Rattle.field.specs.Field.{Field}

-- a^n
unfoldable pub power : Field → ℕ → ℕ → ℕ
power F a zero = 1
power F a (suc n) = F.times a (power F a n)
