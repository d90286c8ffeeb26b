-- A table of the curve's points: "Its 512 points stand in a table, and it is shown once over the table that each is on the curve, in order, and
-- that no curve point is absent" (T-09). The table has the y of the points; point number p is in column p / q, since each x has q values y.
use Rattle.std.specs.Prelude.{true, List, ◌⊎◌, ◌≡◌, ℕ, ◌*◌, ◌/◌, ◌<◌, get_or}
use Rattle.points.specs.Points.{on_curve}

abbrev pub x_of : ℕ → ℕ → ℕ
x_of q p = p / q

abbrev pub y_of : List ℕ → ℕ → ℕ
y_of table p = get_or table p 0

pub record PointTable (q : ℕ) (table : List ℕ) : Type 0 where
  -- each is a point of the curve
  pub on : (p : ℕ) → p < q * q * q → (x_of q p < q * q) × (y_of table p < q * q) × (on_curve q (x_of q p) (y_of table p) ≡ true)
  -- they stand in order: by x ascending, then y ascending
  pub ordered : (p r : ℕ) → p < r → r < q * q * q → (x_of q p < x_of q r) ⊎ ((x_of q p ≡ x_of q r) × (y_of table p < y_of table r))
  -- no point of the curve is absent
  pub complete : (x y : ℕ) → x < q * q → y < q * q → on_curve q x y ≡ true → (p : ℕ) × (p < q * q * q) × (x_of q p ≡ x) × (y_of table p ≡ y)
