-- `code::encoding::write_long_columns` meets its contract: each turn writes the parts of sixteen columns.
use mathlib.Core.Path.{◌≡◌}
use Prim.Native.Nat.{◌*◌, ◌≤◌}
use lib.ListN.{length}
use Rattle.poly.specs.Inner.Ranges.{Blocks}
use Rattle.code.specs.Inner.Encodable.{grid_column}
use Rattle.code.proofs.encoding.write_long_columns.Given as goal

abbrev pub invariant-loop-part : goal.invariant-loop-part
invariant-loop-part l =
    (l.part ≤ 4) × (length l.word ≡ length l.initial.word) × Blocks 8 (grid_column 8 l.columns l.n l.grid) l.word (16 * l.part)
