-- The points of a list of columns: they are on the curve, different where the columns are, and q to a column.
-- Assumes nothing.
use mathlib.Core.Path.{◌≡◌, sym, ap, ◌∙◌, subst}
use mathlib.Core.Bool.{true}
use mathlib.Core.List.Memᴰ
use mathlib.Core.List.{List, [], ◌∷◌, ◌++◌, map, flat_map, Memᴰ as Mem}
use Prim.Native.Nat.{ℕ, zero, suc, ◌+◌, ◌*◌, ◌<◌}
use native.Mathlib.Nat.{mul-zero, mul-suc}
use native.Mathlib.Omega.{arith}
use borrow.Author.Tests.{eqb-true}
use lib.ListN.{length, get_or, length-append, length-map, get_or-append}
use lib.Seq.{get_or-append-add}
use Rattle.field.specs.Curve.{IsCurve}
use Rattle.field.specs.Plus.{plus}
use Rattle.field.specs.Power.{power}
use Rattle.field.proofs.Fields.{field_of}
use Rattle.field.proofs.Curves.{sizes}
use Rattle.poly.specs.Lists.{Nodup}
use Rattle.poly.proofs.Lists.{mem_get_or, get_or_map, nodup_map, nodup_flat_map, mem_flat_map, of_mem_flat_map}
use Rattle.points.specs.Points.{on_curve, ys_of, points_on}
use Rattle.points.specs.Inner.Columns.{Columns, column_y}
use Rattle.points.proofs.Passing.{of_mem_passing, nodup_passing}
use Rattle.points.proofs.ColumnPoints.{length_ys}

-- two symbols, a point of the curve
pub record IsPoint (q : ℕ) (p : ℕ × ℕ) : Type 0 where
  pub x_symbol : p.0 < (field_of q).size
  pub y_symbol : p.1 < (field_of q).size
  pub on : on_curve q p.0 p.1 ≡ true

module _ (q : ℕ) where
  pub of_mem_ys : (x y : ℕ) → Mem y (ys_of q x) → (y < q * q) × (on_curve q x y ≡ true)
  unfolding ys_of
  of_mem_ys x y = of_mem_passing (on_curve q x) (q * q) y

  pub nodup_ys : (x : ℕ) → Nodup (ys_of q x)
  unfolding ys_of
  nodup_ys x = nodup_passing (on_curve q x) (q * q)

  column : ℕ → List (ℕ × ℕ)
  column x = map (λ y. (x, y)) (ys_of q x)

  of_mem_column : (x : ℕ) (p : ℕ × ℕ) → Mem p (column x) → (p.0 ≡ x) × Mem p.1 (ys_of q x)
  unfolding column
  of_mem_column x p m =
      let w = Memᴰ.of_map (λ y. (x, y)) (ys_of q x) m in
      (ap (λ (a : ℕ × ℕ). a.0) (sym w.2), Memᴰ.cast (ap (λ (a : ℕ × ℕ). a.1) (sym w.2)) w.1)

  pub mem_points : (columns : List ℕ) (x y : ℕ) → Mem x columns → Mem y (ys_of q x) → Mem (x, y) (points_on q columns)
  unfolding points_on column
  mem_points columns x y k l = mem_flat_map column columns k (Memᴰ.map (λ y. (x, y)) l)

  pub of_mem_points : (columns : List ℕ) (p : ℕ × ℕ) → Mem p (points_on q columns) → Mem p.0 columns × Mem p.1 (ys_of q p.0)
  unfolding points_on column
  of_mem_points columns p m =
      let w = of_mem_flat_map column columns m in
      let c = of_mem_column w.0 p w.2 in
      (Memᴰ.cast c.0 w.1, subst (λ (x : ℕ). Mem p.1 (ys_of q x)) (sym c.0) c.1)

  pub nodup_points : (columns : List ℕ) → Nodup columns → Nodup (points_on q columns)
  unfolding points_on column
  nodup_points columns d =
      nodup_flat_map column columns d (λ x m. nodup_map (λ y. (x, y)) (ys_of q x) (λ a b k l e. ap (λ (p : ℕ × ℕ). p.1) e) (nodup_ys x))
      (λ a b p k l. sym (of_mem_column a p k).0 ∙ (of_mem_column b p l).0)

  pub is_point : IsCurve q → (columns : List ℕ) → ((x : ℕ) → Mem x columns → x < q * q) → (p : ℕ × ℕ) → Mem p (points_on q columns) → IsPoint q p
  is_point curve columns h p m =
      let w = of_mem_points columns p m in
      let y = of_mem_ys p.0 p.1 w.1 in
      record { x_symbol = omega (arith, h p.0 w.0, (sizes q curve).size); y_symbol = omega (arith, y.0, (sizes q curve).size); on = y.1 }

  -- q to a column: the point at place q·t + s is the one with the y number s of column number t
  module _ (curve : IsCurve q) where
    length_column : (x : ℕ) → x < q * q → length (column x) ≡ q
    unfolding column
    length_column x l = length-map (ys_of q x) (λ y. (x, y)) ∙ length_ys q curve x l

    pub length_points : (columns : List ℕ) → ((t : ℕ) → t < length columns → get_or columns t 0 < q * q)
        → length (points_on q columns) ≡ q * length columns
    unfolding points_on flat_map column
    length_points [] small = sym (mul-zero q)
    length_points (x ∷ rest) small =
        length-append (column x) (points_on q rest)
        ∙ omega (arith, length_column x (small 0 (omega arith)), length_points rest (λ t l. small (suc t) (omega arith)), mul-suc q (length rest))

    pub points_at : (columns : List ℕ) → ((t : ℕ) → t < length columns → get_or columns t 0 < q * q) → (t s : ℕ) → t < length columns → s < q
        → get_or (points_on q columns) (q * t + s) (0, 0) ≡ (get_or columns t 0, get_or (ys_of q (get_or columns t 0)) s 0)
    unfolding points_on flat_map column
    points_at [] small t s k l = absurd (omega arith)
    points_at (x ∷ rest) small zero s k l =
        let long = length_column x (small 0 (omega arith)) in
        let e : q * 0 + s ≡ s = omega (arith, mul-zero q) in
        ap (λ (p : ℕ). get_or (column x ++ points_on q rest) p (0, 0)) e
        ∙ get_or-append (column x) (points_on q rest) (0, 0) s (omega arith)
        ∙ get_or_map (λ y. (x, y)) (ys_of q x) 0 (0, 0) s (omega (arith, length_ys q curve x (small 0 (omega arith))))
    points_at (x ∷ rest) small (suc t) s k l =
        let e : q * suc t + s ≡ length (column x) + (q * t + s) = omega (arith, length_column x (small 0 (omega arith)), mul-suc q t) in
        ap (λ (p : ℕ). get_or (column x ++ points_on q rest) p (0, 0)) e
        ∙ get_or-append-add (column x) (points_on q rest) (q * t + s) (0, 0)
        ∙ points_at rest (λ t l. small (suc t) (omega arith)) t s (omega arith) l

-- the y of columns are on the curve
pub column_on_curve : (q : ℕ) (columns : List ℕ) → Columns q columns → (t s : ℕ) → t < length columns → s < q
    → plus (power (field_of q) (column_y q columns t s) q) (column_y q columns t s) ≡ power (field_of q) (get_or columns t 0) (suc q)
column_on_curve q columns h t s l b =
    let x = get_or columns t 0 in
    eqb-true _ _ (of_mem_ys q x (column_y q columns t s) (mem_get_or (ys_of q x) 0 s (omega (arith, length_ys q h.curve x (h.small t l))))).1
