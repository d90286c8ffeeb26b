-- What the product by the four lowest bits of a factor is.
use Rattle.std.specs.Prelude.{ℕ, ◌*◌, ◌/◌, ◌%◌}
use Rattle.field.specs.Plus.{plus}
use Rattle.field.specs.Product.{times_z}

-- the four lowest bits of b, each times a, z·a, z²·a or z³·a
abbrev pub four_bits : ℕ → ℕ → ℕ → ℕ
four_bits e a b =
    plus (plus (b % 2 * a) (b / 2 % 2 * times_z e a))
    (plus (b / 2 / 2 % 2 * times_z e (times_z e a)) (b / 2 / 2 / 2 % 2 * times_z e (times_z e (times_z e a))))
