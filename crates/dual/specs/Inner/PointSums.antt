-- Sums over all points, and a word's sums against the terms of an order.
use Rattle.std.specs.Prelude.{List, ◌≡◌, ℕ, suc, ◌+◌, ◌-◌, ◌*◌, ◌/◌, ◌%◌, ◌≤◌, ◌<◌, length, get_or}
use Rattle.field.specs.Curve.{curve_of}
use Rattle.field.specs.Sum.{sum}
use Rattle.field.proofs.Fields.{field_of}
use Rattle.poly.specs.Inner.Linear.{entry, dot}
use Rattle.points.specs.Inner.Columns.{Columns, column_y}
use Rattle.code.specs.Inner.Rows.{term_at}

-- each of the q·q columns once, in any order: q·q different ones
pub record AllColumns (q : ℕ) (columns : List ℕ) : Type 0 where
  pub over : Columns q columns
  pub full : length columns ≡ q * q

-- the x and the y of the point at place p
abbrev pub x_at : ℕ → List ℕ → ℕ → ℕ
x_at q columns p = get_or columns (p / q) 0

abbrev pub y_at : ℕ → List ℕ → ℕ → ℕ
y_at q columns p = column_y q columns (p / q) (p % q)

-- x^i·y^j at place p
unfoldable pub powers_at : ℕ → List ℕ → ℕ → ℕ → ℕ → ℕ
powers_at q columns i j p = term_at q (x_at q columns p) (y_at q columns p) i j

-- its sum over all points
abbrev pub point_sum : ℕ → List ℕ → ℕ → ℕ → ℕ
point_sum q columns i j = sum (q * q * q) (powers_at q columns i j)

-- the weight n + 2g − 1 of x^(q·q−1)·y^(q−1)
abbrev pub heaviest : ℕ → ℕ
heaviest q = (curve_of q).points + 2 * (curve_of q).genus - 1

-- the sum of a word's products by x^i·y^j
abbrev pub term_sum : ℕ → List ℕ → List ℕ → ℕ → ℕ → ℕ
term_sum q columns word i j = dot (field_of q) (q * q * q) (entry word) (powers_at q columns i j)

-- those of the terms of the order m are 0
abbrev pub TermsZero : ℕ → List ℕ → ℕ → List ℕ → Type 0
TermsZero q columns m word = (i j : ℕ) → j < q → q * i + suc q * j ≤ m → term_sum q columns word i j ≡ 0
