-- "A curve is named by q, which is 2 or 4." "Add q = 8" (T-09). "Its field has Q = q × q elements."
use Rattle.std.specs.Prelude.{Bool, Option, Some, None, cond, ◌||◌, ◌⊎◌, ◌≡◌, ℕ, ◌+◌, ◌-◌, ◌*◌, ◌/◌, eqb}
use Rattle.field.specs.declared.curve.Curve.{Curve}

abbrev pub is_curve : ℕ → Bool
is_curve q = eqb q 2 || (eqb q 4 || eqb q 8)

abbrev pub IsCurve : ℕ → Type 0
IsCurve q = (q ≡ 2) ⊎ ((q ≡ 4) ⊎ (q ≡ 8))

-- the curves of short blocks: "Sessions, jobs, the mender and the plain recover meet 8 with refusal 1" (T-09)
abbrev pub is_short : ℕ → Bool
is_short q = eqb q 2 || eqb q 4

abbrev pub IsShort : ℕ → Type 0
IsShort q = (q ≡ 2) ⊎ (q ≡ 4)

-- how many bits a symbol has: Q = 2^(bits_of q). A number of no curve counts as 4
abbrev pub bits_of : ℕ → ℕ
bits_of q = cond (eqb q 2) 2 (cond (eqb q 8) 6 4)

-- "Each curve carries its own fixed numbers": Q, n, the genus g, the weights of x and of y
abbrev pub curve_of : ℕ → Curve
curve_of q = record { q = q; symbols = q * q; points = q * q * q; genus = q * (q - 1) / 2; weight_x = q; weight_y = q + 1 }

abbrev pub named_of : ℕ → Option Curve
named_of q = cond (is_curve q) (Some (curve_of q)) None
