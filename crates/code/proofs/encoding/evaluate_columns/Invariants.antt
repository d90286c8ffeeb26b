-- `code::encoding::evaluate_columns` meets its contract: each turn writes the part of one column.
use mathlib.Core.Path.{◌≡◌}
use Prim.Native.Nat.{◌-◌, ◌*◌, ◌≤◌}
use lib.ListN.{length}
use Rattle.poly.specs.Inner.Ranges.{Blocks}
use Rattle.code.specs.Inner.Encodable.{column_value}
use Rattle.code.proofs.encoding.evaluate_columns.Given as goal

abbrev pub invariant-loop-t : goal.invariant-loop-t
invariant-loop-t l =
    (l.t ≤ length l.columns) × (l.at ≡ l.q * l.t) × (length l.word ≡ length l.initial.word) × Blocks l.q (column_value l.q l.columns l.rows) l.word l.t
