-- Places counted column by column: of place q·a + b the column is number a, and b its place there.
-- Assumes nothing.
use mathlib.Core.Path.{◌≡◌, ◌∙◌}
use Prim.Native.Nat.{ℕ, ◌+◌, ◌*◌, ◌/◌, ◌%◌, ◌<◌}
use native.Mathlib.Nat.{add-zero, mul_comm, mul-add-div, div-eq_of_lt, div-lt_iff_lt-mul, mul-add-mod_self_left, mod-eq_of_lt}

module _ (q : ℕ) (pos : 0 < q) where
  -- place p of c columns is in column number p / q
  pub column_of : (c p : ℕ) → p < q * c → p / q < c
  column_of c p l = (div-lt_iff_lt-mul {x = p} {y = c} pos).1 (rw (mul_comm c q) l)

  -- the quotient and the remainder of q a + b
  pub quotient : (a b : ℕ) → b < q → (q * a + b) / q ≡ a
  quotient a b l = rw (mul-add-div pos a b, div-eq_of_lt l) (add-zero a)

  pub remainder : (a b : ℕ) → b < q → (q * a + b) % q ≡ b
  remainder a b l = mul-add-mod_self_left q a b ∙ mod-eq_of_lt l
