-- The two halves of a symbol's bits.
use Rattle.std.specs.Prelude.{ℕ, ◌/◌, ◌^◌}
use Rattle.field.specs.Curve.{bits_of}

-- how many numbers half of the bits have: the square root of Q
abbrev pub half_of : ℕ → ℕ
half_of q = 2 ^ (bits_of q / 2)
