-- `linear::vectors::double` meets its contract: block by block.
use Prim.Native.Nat.{◌*◌}
use Rattle.field.proofs.Fields.{field_of}
use Rattle.linear.proofs.PivotTables.{Doubling}
use Rattle.linear.proofs.vectors.double.Given as goal

abbrev pub invariant-loop-i : goal.invariant-loop-i
invariant-loop-i l = Doubling (field_of l.q) l.n l.a l.initial.table l.table (16 * l.i)
