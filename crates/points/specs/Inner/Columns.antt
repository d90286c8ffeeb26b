-- What the code keeps of the columns: their y in one list, and lists of columns that a word may be over.
use Rattle.std.specs.Prelude.{List, ◌≡◌, ℕ, ◌+◌, ◌*◌, ◌≤◌, ◌<◌, length, get_or}
use Rattle.field.specs.Curve.{IsCurve}
use Rattle.field.proofs.Fields.{field_of}
use Rattle.poly.specs.Lists.{Nodup}
use Rattle.poly.specs.Inner.Ranges.{Below, part}
use Rattle.points.specs.Points.{ys_of}

-- the y of each column x stand from q·x on
pub record Ys (q : ℕ) (list : List ℕ) : Type 0 where
  pub long : q * q * q ≤ length list
  pub column : (x : ℕ) → x < q * q → part list (q * x) (q * x + q) ≡ ys_of q x
  pub symbols : Below (field_of q).size list

-- the same in a list that has sixteen symbols from each q·x on
pub record PaddedYs (q : ℕ) (list : List ℕ) : Type 0 where
  pub long : q * q * q + 16 ≤ length list
  pub at : (x s : ℕ) → x < q * q → s < q → get_or list (q * x + s) 0 ≡ get_or (ys_of q x) s 0
  pub symbols : Below (field_of q).size list

-- different columns of the curve q
pub record Columns (q : ℕ) (columns : List ℕ) : Type 0 where
  pub curve : IsCurve q
  pub small : (t : ℕ) → t < length columns → get_or columns t 0 < q * q
  pub distinct : Nodup columns

-- the y number s of column t
abbrev pub column_y : ℕ → List ℕ → ℕ → ℕ → ℕ
column_y q columns t s = get_or (ys_of q (get_or columns t 0)) s 0
