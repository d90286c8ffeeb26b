-- `code::unencoding::interpolate_columns` meets its contract: each turn interpolates one column.
use mathlib.Core.Path.{◌≡◌}
use Prim.Native.Nat.{◌-◌, ◌*◌}
use lib.ListN.{length}
use Rattle.code.proofs.ColumnInterpolation.{InterpolatedSoFar}
use Rattle.code.proofs.unencoding.interpolate_columns.Given as goal

abbrev pub invariant-loop-t : goal.invariant-loop-t
invariant-loop-t l =
    (length l.work ≡ length l.initial.work) × (l.at ≡ l.q * l.t) × (l.row ≡ 16 * l.t) × InterpolatedSoFar l.q l.columns l.word l.work l.t
