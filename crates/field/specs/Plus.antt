-- "The sum of two symbols is their bitwise exclusive or."
use Rattle.std.specs.Prelude.{ℕ}
use Rattle.std.specs.Int.Bits.{bit_xor}

unfoldable pub plus : ℕ → ℕ → ℕ
plus a b = bit_xor a b
