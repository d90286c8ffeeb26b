-- "A term is x^i·y^j with j ≤ q − 1 and weight q·i + (q+1)·j ≤ m. Weights of different terms differ."
-- So a weight w has j = w % q and i = w / q - w % q, and w is a weight where that i is no less than 0.
use Rattle.std.specs.Prelude.{Bool, List, ℕ, suc, ◌-◌, ◌/◌, ◌%◌, leb, length}
use Rattle.points.specs.Passing.{passing}

-- w is the weight of a term
abbrev pub is_term : ℕ → ℕ → Bool
is_term q w = leb (w % q) (w / q)

-- the exponents of x and of y
abbrev pub x_power : ℕ → ℕ → ℕ
x_power q w = w / q - w % q

abbrev pub y_power : ℕ → ℕ → ℕ
y_power q w = w % q

-- the weights of the terms of the order m, ascending
abbrev pub weights : ℕ → ℕ → List ℕ
weights q m = passing (is_term q) (suc m)

-- "k is the number of terms"
abbrev pub size : ℕ → ℕ → ℕ
size q m = length (weights q m)
