-- `mend::product::write_products` meets its contract: power of y by power of y. Assumes nothing.
use Prim.Native.Nat.{◌-◌, ◌≤◌}
use Rattle.field.specs.Curve.{IsCurve}
use Rattle.points.specs.Series.{columns_of}
use Rattle.points.proofs.Series.{full_columns, length_columns}
use Rattle.mend.proofs.ProductBlocks.{Producing}
use Rattle.mend.proofs.product.write_products.Given as goal

abbrev pub invariant-loop-j : goal.invariant-loop-j
invariant-loop-j l =
    (l.j ≤ l.q)
    × ((curve : IsCurve l.q)
    → Producing l.q (columns_of l.q l.series) (full_columns l.q l.series curve) (length_columns l.q l.series curve) l.word l.count l.initial.grids l.grids l.grid l.j l.at)
