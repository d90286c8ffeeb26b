-- A table of the y of all columns is a table of the curve's points: each is on the curve, they stand in order, and none is absent.
-- Assumes nothing.
use mathlib.Core.List.{List}
use mathlib.Core.Logic.{◌⊎◌, inl, inr}
use mathlib.Core.Path.{◌≡◌, sym, ap, ◌∙◌}
use mathlib.Core.Bool.{true}
use Prim.Native.Nat.{ℕ, ◌+◌, ◌*◌, ◌/◌, ◌%◌, ◌≤◌, ◌<◌}
use native.Mathlib.Nat.{div-add-mod, mod-lt}
use native.Mathlib.Decide.{ℕ_discrete, dec_lt}
use native.Mathlib.Omega.{arith}
use lib.Dec.{T}
use lib.ListN.{length, get_or}
use Rattle.field.specs.Curve.{IsCurve}
use Rattle.field.proofs.Curves.{sizes}
use Rattle.field.proofs.Fields.{field_of}
use Rattle.field.proofs.Table.{agrees, all_below}
use Rattle.poly.proofs.Blocks.{block_of, block_fits}
use Rattle.points.specs.Points.{on_curve, ys_of}
use Rattle.points.specs.PointTable.{x_of, y_of, PointTable}
use Rattle.points.specs.Inner.Columns.{Ys}
use Rattle.points.proofs.ColumnPoints.{length_ys}
use Rattle.points.proofs.Passing.{place, place_lt, passing_at, at_place, ascending}
use Rattle.points.proofs.Places.{quotient}
use Rattle.points.proofs.YsTables.{y_at, ys_table, table_at}

module _ (q : ℕ) (curve : IsCurve q) (table : List ℕ) (h : Ys q table) where
  pos : 0 < q
  pos = omega (arith, (sizes q curve).low)

  -- column and number of point p
  within : (p : ℕ) → p < q * q * q → (p / q < q * q) × (p % q < q)
  within p l = block_of q pos (q * q) p (omega (arith, (sizes q curve).grid))

  y_is : (p : ℕ) → p < q * q * q → y_of table p ≡ get_or (ys_of q (p / q)) (p % q) 0
  y_is p l =
      let w = within p l in
      ap (λ (i : ℕ). get_or table i 0) (sym (div-add-mod p q)) ∙ table_at q table h (p / q) (p % q) w.0 w.1

  long : (x : ℕ) → x < q * q → place (on_curve q x) (q * q) ≡ q
  unfolding ys_of
  long x l = length_ys q curve x l

  on_curve_lem : (p : ℕ) → p < q * q * q → (x_of q p < q * q) × (y_of table p < q * q) × (on_curve q (x_of q p) (y_of table p) ≡ true)
  unfolding ys_of
  on_curve_lem p l =
      let w = within p l in
      let a = at_place (on_curve q (p / q)) (q * q) (p % q) (omega (arith, long (p / q) w.0, w.1)) in
      (w.0, rw (y_is p l) a.0, rw (y_is p l) a.1)

  -- of two points of one column the first has the lower y
  in_column_lem : (p r : ℕ) → p < r → (l : r < q * q * q) → p / q ≡ r / q → y_of table p < y_of table r
  unfolding ys_of
  in_column_lem p r k l e =
      let pl : p < q * q * q = omega arith in
      let w = within r l in
      let less : p % q < r % q = omega (arith, div-add-mod p q, div-add-mod r q, ap (λ (x : ℕ). q * x) e) in
      rw (y_is p pl, y_is r l, e) (ascending (on_curve q (r / q)) (q * q) (p % q) (r % q) less (omega (arith, long (r / q) w.0, w.1)))

  in_order : (p r : ℕ) → p < r → r < q * q * q → (x_of q p < x_of q r) ⊎ ((x_of q p ≡ x_of q r) × (y_of table p < y_of table r))
  in_order p r k l = elim (ℕ_discrete (p / q) (r / q)) [
    | yes e ↦ inr (e, in_column_lem p r k l e)
    | no d ↦ elim (dec_lt (p / q) (r / q)) [
      | yes a ↦ inl a
      | no b ↦
          let c : r / q < p / q = omega arith in
          absurd (omega (arith, div-add-mod p q, div-add-mod r q, mod-lt r pos, block_fits q (r / q) (p / q) c))
    ]
  ]

  none_absent : (x y : ℕ) → x < q * q → y < q * q → on_curve q x y ≡ true → (p : ℕ) × (p < q * q * q) × (x_of q p ≡ x) × (y_of table p ≡ y)
  unfolding ys_of
  none_absent x y a b e =
      let s : ℕ = place (on_curve q x) y in
      let k : s < q = omega (arith, place_lt (on_curve q x) y (q * q) e b, long x a) in (
        q * x + s,
        omega (arith, block_fits q x (q * q) a, (sizes q curve).grid),
        quotient q pos x s k,
        table_at q table h x s a k ∙ passing_at (on_curve q x) (q * q) y e b,
      )

  pub point_table : PointTable q table
  point_table = record { on = on_curve_lem; ordered = in_order; complete = none_absent }

-- by two computed tests
pub points_table : (q : ℕ) → IsCurve q → (n : ℕ) (f : ℕ → ℕ) → ((p : ℕ) → p < q * q * q → f p ≡ y_at q p) → q * q * q ≤ n → (list : List ℕ)
    → length list ≡ n → T (agrees f 0 (q * q * q) list) → T (all_below (field_of q).size list) → Ys q list × PointTable q list
points_table q curve n f same points list long test small =
    let h = ys_table q curve n f same points list long test small in
    (h, point_table q curve list h)
