-- Finite sums in a field of characteristic 2.
use Rattle.std.specs.Prelude.{ℕ, zero, suc}
use Rattle.field.specs.Plus.{plus}

-- f 0 + f 1 + .. + f (n - 1)
unfoldable pub sum : ℕ → (ℕ → ℕ) → ℕ
sum zero f = 0
sum (suc n) f = plus (sum n f) (f n)
