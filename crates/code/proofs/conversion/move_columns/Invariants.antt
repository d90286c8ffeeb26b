-- `code::conversion::move_columns` meets its contract: each turn moves one column.
use Prim.Native.Nat.{◌-◌, ◌≤◌}
use lib.ListN.{length}
use Rattle.code.specs.Inner.Moving.{Moved}
use Rattle.code.proofs.conversion.move_columns.Given as goal

abbrev pub invariant-loop-t : goal.invariant-loop-t
invariant-loop-t l = (l.t ≤ length l.from) × Moved l.q l.from l.to l.word l.initial.out l.out l.t
