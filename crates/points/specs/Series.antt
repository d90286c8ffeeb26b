-- The strap series, which decide the order of the columns, and with it that of the points (T-11): series 1 lists them "by x ascending as a number",
-- series 2 "as x = 0, then z to the power 0, 1, 2 and so on; y within a column stays ascending".
use Rattle.std.specs.Prelude.{Bool, ◌||◌, cond, List, ◌∷◌, map, ℕ, ◌-◌, ◌*◌, eqb}
use Rattle.field.specs.Power.{power}
use Rattle.field.proofs.Fields.{field_of}
use Rattle.points.specs.Passing.{up_to}

-- "each call over points, each session and each job names 1 or 2"
abbrev pub is_series : ℕ → Bool
is_series series = eqb series 1 || eqb series 2

-- "from the series it names to the other"
abbrev pub other_series : ℕ → ℕ
other_series series = cond (eqb series 2) 1 2

-- 0, z^0, z^1, ..: z is the symbol 2, and there are Q − 1 powers
unfoldable pub columns_by_powers : ℕ → List ℕ
columns_by_powers q = 0 ∷ map (power (field_of q) 2) (up_to (q * q - 1))

-- all columns in the order of the series. Numbers other than 1 and 2, which no call accepts, are read as 1
unfoldable pub columns_of : ℕ → ℕ → List ℕ
columns_of q series = cond (eqb series 2) (columns_by_powers q) (up_to (q * q))
