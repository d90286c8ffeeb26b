-- Interpolation in closed form at u different roots of x^u + x + a, whose derivative is 1. The roots are the first u of the places, and the
-- coefficients become the first u numbers of a row; u is the number of values.
use Rattle.std.specs.Prelude.{◌≡◌, List, ℕ, ◌+◌, ◌-◌, ◌≤◌, ◌<◌, length}
use Rattle.field.specs.Plus.{plus}
use Rattle.field.specs.Field.{Field}
use Rattle.field.specs.Power.{power}
use Rattle.field.specs.Sum.{sum}
use Rattle.poly.specs.Inner.Ranges.{Below}
use Rattle.poly.specs.Inner.Linear.{entry}
use Rattle.poly.specs.Inner.Polynomials.{value}

-- an even number of values, sixteen at most, with their places, and room for as many coefficients
pub record Summable (F : Field) (places values row : List ℕ) : Type 0 where
  pub even : (h : ℕ) × (length values ≡ h + h) × (1 ≤ h) × (h ≤ 8)
  pub room : length values ≤ length row
  pub places_below : Below F.size places
  pub values_below : Below F.size values

-- the sum of each value times its place to the power e
abbrev pub power_sum_of : Field → List ℕ → List ℕ → ℕ → ℕ
power_sum_of F places values e = sum (length values) (λ s. F.times (entry values s) (power F (entry places s) e))

-- the sums for the powers u - 1, .., 0 stand in the row, in this order; those from i on
pub record PowersSummed (F : Field) (places values row₀ row : List ℕ) (i : ℕ) : Type 0 where
  pub at : (k : ℕ) → i ≤ k → k < length values → entry row k ≡ power_sum_of F places values (length values - 1 - k)
  pub rest : (k : ℕ) → length values ≤ k → entry row k ≡ entry row₀ k

-- the first u places are different roots of x^u + x + a, for one a
pub record TrinomialRoots (F : Field) (u : ℕ) (places : List ℕ) : Type 0 where
  pub different : (s t : ℕ) → s < u → t < u → entry places s ≡ entry places t → s ≡ t
  pub roots : (s t : ℕ) → s < u → t < u
      → plus (power F (entry places s) u) (entry places s) ≡ plus (power F (entry places t) u) (entry places t)

-- the polynomial of the row takes the values at the places; the rest of the row is as it was
pub record RootInterpolated (F : Field) (places values row₀ row : List ℕ) : Type 0 where
  pub is : (s : ℕ) → s < length values → value F (length values) (entry row) (entry places s) ≡ entry values s
  pub rest : (k : ℕ) → length values ≤ k → entry row k ≡ entry row₀ k
  pub below : Below F.size row₀ → Below F.size row
