-- What the inner functions of encoding ask and give. A word is over a list of different columns.
use Rattle.std.specs.Prelude.{List, ◌≡◌, ℕ, ◌+◌, ◌*◌, ◌≤◌, ◌<◌, length, get_or}
use Rattle.field.specs.Curve.{IsCurve}
use Rattle.field.proofs.Fields.{field_of}
use Rattle.poly.specs.Inner.Polynomials.{value}
use Rattle.poly.specs.Inner.Ranges.{Below, Blocks}
use Rattle.points.specs.Inner.Columns.{Columns, column_y}
use Rattle.code.specs.Terms.{size}

-- a message of order m, and room for its word over the columns
pub record Encodable (q : ℕ) (columns : List ℕ) (m : ℕ) (message word : List ℕ) : Type 0 where
  pub over : Columns q columns
  pub few : length columns ≤ q * q
  pub order : m < q * length columns
  pub long : length message ≡ size q m
  pub symbols : Below (field_of q).size message
  pub room : length word ≡ q * length columns

-- the first stage: the polynomial in x that stands before y^j, with its first n coefficients, at column t
abbrev pub row_value : ℕ → List ℕ → ℕ → List ℕ → ℕ → ℕ → ℕ
row_value q columns n grid j t = value (field_of q) n (λ i. get_or grid (q * i + j) 0) (get_or columns t 0)

-- the second stage: the polynomial in y of column t, at y; its coefficient of y^j stands at 16 * j + t
abbrev pub in_y : ℕ → List ℕ → ℕ → ℕ → ℕ
in_y q rows t y = value (field_of q) q (λ j. get_or rows (16 * j + t) 0) y

-- the same at the column's y number s
abbrev pub column_value : ℕ → List ℕ → List ℕ → ℕ → ℕ → ℕ
column_value q columns rows t s = in_y q rows t (column_y q columns t s)

-- both stages: the polynomial of a grid, with n coefficients before each y^j, at the y number s of column t
abbrev pub grid_column : ℕ → List ℕ → ℕ → List ℕ → ℕ → ℕ → ℕ
grid_column q columns n grid t s = value (field_of q) q (λ j. row_value q columns n grid j t) (column_y q columns t s)

-- at most sixteen columns, and symbols
pub record Staged (q : ℕ) (columns list : List ℕ) : Type 0 where
  pub curve : IsCurve q
  pub columns_below : Below (field_of q).size columns
  pub few : length columns ≤ 16
  pub symbols : Below (field_of q).size list

-- what the first stage leaves after j powers of y: sixteen lanes for each, those of the columns first
pub record Rowed (q : ℕ) (columns : List ℕ) (n : ℕ) (grid rows : List ℕ) (j : ℕ) : Type 0 where
  pub values : Blocks 16 (row_value q columns n grid) rows j
  pub symbols : Below (field_of q).size rows
