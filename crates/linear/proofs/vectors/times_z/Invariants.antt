-- `linear::vectors::times_z` meets its contract: block by block.
use Prim.Native.Nat.{◌*◌}
use Rattle.field.proofs.Fields.{field_of}
use Rattle.poly.specs.Inner.Linear.{entry}
use Rattle.poly.proofs.Fillings.{Filled}
use Rattle.linear.proofs.vectors.times_z.Given as goal

abbrev pub invariant-loop-i : goal.invariant-loop-i
invariant-loop-i l = Filled 0 (λ e. (field_of l.q).times 2 (entry l.src e)) l.initial.dst l.dst (16 * l.i)
