-- The field of 2^e symbols in which z^e = z + 1: "For Q = 4, z² = z + 1. For Q = 16, z⁴ = z + 1." "Q = 64, z⁶ = z + 1" (T-09)
-- A symbol is a number below 2^e, "its bits the coefficients of powers of z, lowest first".
-- The product is total on ℕ: it reads the e lowest bits of each factor.
use Rattle.std.specs.Prelude.{Bool, true, false, ℕ, zero, suc, ◌*◌, ◌/◌, ◌%◌, ◌^◌, eqb}
use Rattle.field.specs.Plus.{plus}

-- z times a: a shift, and z + 1, whose number is 3, where the bit of z^e comes out
unfoldable pub times_z : ℕ → ℕ → ℕ
unfolding plus
times_z e a = plus (a * 2 % 2 ^ e) (a * 2 / 2 ^ e % 2 * 3)

-- the sum over the n lowest bits b0, b1, .. of b of b0 * a, b1 * z * a, b2 * z^2 * a, ..
unfoldable pub combine : ℕ → ℕ → ℕ → ℕ → ℕ
unfolding plus times_z
combine e zero a b = 0
combine e (suc n) a b = plus (b % 2 * a) (combine e n (times_z e a) (b / 2))

unfoldable pub times : ℕ → ℕ → ℕ → ℕ
unfolding combine
times e a b = combine e e (a % 2 ^ e) b

-- the greatest number below n that passes the test p; 0 where none does
unfoldable pub last_below : ℕ → (ℕ → Bool) → ℕ
last_below zero p = 0
last_below (suc n) p = elim (p n) [ true ↦ n | false ↦ last_below n p ]

-- the symbol by which a has the product 1; 0 where there is none, which is so of 0 alone
unfoldable pub inverse : ℕ → ℕ → ℕ
unfolding last_below times
inverse e a = last_below (2 ^ e) (λ b. eqb (times e a b) 1)
