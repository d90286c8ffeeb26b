-- "The curve is y^q + y = x^(q+1). Each x has exactly q values y. Points are listed by x ascending as a number, then y ascending;
-- a point's index in that list, from 0, is its place."
use Rattle.std.specs.Prelude.{Bool, ℕ, suc, ◌*◌, eqb}
use mathlib.Core.List.{List, map, flat_map}
use Rattle.field.specs.Plus.{plus}
use Rattle.field.specs.Power.{power}
use Rattle.field.proofs.Fields.{field_of}
use Rattle.points.specs.Passing.{passing}

abbrev pub on_curve : ℕ → ℕ → ℕ → Bool
on_curve q x y = eqb (plus (power (field_of q) y q) y) (power (field_of q) x (suc q))

-- the y of column x, ascending
unfoldable pub ys_of : ℕ → ℕ → List ℕ
ys_of q x = passing (on_curve q x) (q * q)

-- the points (x, y) of a list of columns x: column by column, y ascending
unfoldable pub points_on : ℕ → List ℕ → List (ℕ × ℕ)
points_on q columns = flat_map (λ x. map (λ y. (x, y)) (ys_of q x)) columns
