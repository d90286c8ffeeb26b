-- The dimensions: at most g numbers are no weights, so k(s) ≥ s + 1 - g; so t equations are fewer than the k(s) unknowns. And s and k(s) are small.
-- Assumes nothing.
use mathlib.Core.Bool.{Bool}
use mathlib.Core.Logic.{inl, inr}
use mathlib.Core.Path.{◌≡◌}
use Prim.Native.Nat.{ℕ, suc, ◌+◌, ◌-◌, ◌*◌, ◌/◌, ◌≤◌, ◌<◌}
use native.Mathlib.Decide.{le_ind, dec_le}
use native.Mathlib.Omega.{arith}
use Rattle.field.specs.Curve.{IsCurve, IsShort}
use Rattle.field.proofs.Curves.{each_curve, each_short, short_curve}
use Rattle.poly.proofs.Bools.{true_or_false}
use Rattle.points.proofs.Passing.{place, place_true, place_false}
use Rattle.code.specs.Terms.{is_term, size}
use Rattle.code.proofs.Weights.{curve_pos, twice_genus, size_from_genus, size_le}
use Rattle.mend.specs.Mended.{radius}
use Rattle.mend.specs.Inner.Locating.{genus, reach}

-- a longer stretch has at most its length more that pass
place_step_le : (p : ℕ → Bool) (n : ℕ) → place p (suc n) ≤ suc (place p n)
place_step_le p n = elim (true_or_false (p n)) [ inl e ↦ omega (arith, place_true p n e) | inr e ↦ omega (arith, place_false p n e) ]

place_grows : (p : ℕ → Bool) (a b : ℕ) → a ≤ b → place p b + a ≤ place p a + b
place_grows p a b l =
    le_ind (λ (k : ℕ). place p k + a ≤ place p a + k) (omega arith) (λ k h ih. omega (arith, place_step_le p k)) b l

-- the last number that is no weight is below this
all_weights : (q : ℕ) → IsCurve q → (w : ℕ) × (suc w ≡ q * (q - 1))
all_weights = each_curve (λ q. (w : ℕ) × (suc w ≡ q * (q - 1))) (1, omega arith) (11, omega arith) (55, omega arith)

-- k(s) ≥ s + 1 - g
pub size_genus : (q : ℕ) → IsCurve q → (s : ℕ) → s + 1 ≤ size q s + genus q
size_genus q curve s =
    let (w, e) = all_weights q curve in
    elim (dec_le (q * (q - 1)) (s + 1)) [
      | yes l ↦ omega (arith, size_from_genus q (curve_pos q curve) s l)
      | no d ↦ omega (arith, e, size_from_genus q (curve_pos q curve) w (omega arith), place_grows (is_term q) (suc s) (suc w) (omega arith))
    ]

-- t < k(s)
pub radius_lt : (q : ℕ) → IsCurve q → (m : ℕ) → radius q m < size q (reach q m)
radius_lt q curve m = omega (arith, size_genus q curve (reach q m))

-- s < n
pub reach_lt : (q m : ℕ) → m + 1 + genus q ≤ q * q * q → reach q m < q * q * q
reach_lt q m low = omega arith

-- of short blocks: g ≤ 8, t ≤ 28
genus_short : (q : ℕ) → IsShort q → genus q ≤ 8
genus_short = each_short (λ q. genus q ≤ 8) (omega arith) (omega arith)

radius_short : (q : ℕ) → IsShort q → (m : ℕ) → radius q m ≤ 28
radius_short = each_short (λ q. (m : ℕ) → radius q m ≤ 28) (λ m. omega arith) (λ m. omega arith)

-- k(s) < 32: an array of that length has room for f, and for one number more
pub reach_size : (q : ℕ) → IsShort q → (m : ℕ) → size q (reach q m) < 32
reach_size q curve m =
    elim (dec_le (q * (q - 1)) (reach q m + 1)) [
      | yes l ↦ omega (arith, size_from_genus q (curve_pos q (short_curve q curve)) (reach q m) l, radius_short q curve m)
      | no d ↦ omega (arith, size_le q (reach q m), twice_genus q (curve_pos q (short_curve q curve)), genus_short q curve)
    ]

-- s < 64, so that s / q + 1 is at most 16, and at most 9 for q = 4: as many powers of x are needed for each of the q powers of y
pub reach_short : (q : ℕ) → IsShort q → (m : ℕ) → reach q m < 64
reach_short q curve m = omega (arith, radius_short q curve m, genus_short q curve)

pub reach_count : (q : ℕ) → IsShort q → (m : ℕ) → reach q m / q + 1 ≤ 16
reach_count = each_short (λ q. (m : ℕ) → reach q m / q + 1 ≤ 16) (λ m. omega arith) (λ m. omega arith)

pub reach_grids : (q : ℕ) → IsShort q → (m : ℕ) → 64 * (reach q m / q + 1) * q ≤ 2304
reach_grids = each_short (λ q. (m : ℕ) → 64 * (reach q m / q + 1) * q ≤ 2304) (λ m. omega arith) (λ m. omega arith)
