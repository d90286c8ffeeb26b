-- `mend::product::write_multiples` meets its contract: block by block. Assumes nothing.
use Prim.Native.Nat.{ℕ, ◌-◌, ◌≤◌}
use Rattle.field.specs.Curve.{IsCurve}
use Rattle.points.specs.Series.{columns_of}
use Rattle.points.proofs.Series.{full_columns, length_columns}
use Rattle.mend.proofs.ProductBlocks.{Multiplying}
use Rattle.mend.proofs.product.write_multiples.Given as goal

abbrev pub invariant-loop-i : goal.invariant-loop-i
invariant-loop-i l =
    (l.i ≤ l.count)
    × ((series : ℕ) (curve : IsCurve l.q)
    → Multiplying l.q (columns_of l.q series) (full_columns l.q series curve) (length_columns l.q series curve) l.first l.initial.out l.out l.grid l.i l.at)
