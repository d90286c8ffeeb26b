-- `linear::vectors::clear_all` meets its contract. The invariant of its loop: the first k vectors are cleared.
use Prim.Native.Nat.{◌+◌}
use Rattle.field.proofs.Fields.{field_of}
use Rattle.poly.specs.Inner.Linear.{entry}
use Rattle.linear.specs.Inner.Eliminating.{AllCleared}
use Rattle.linear.proofs.vectors.clear_all.Given as goal

abbrev pub invariant-loop-k : goal.invariant-loop-k
invariant-loop-k l = AllCleared (field_of l.q) l.n l.i (entry l.factors 1) (λ j. entry l.low (l.n + j)) l.initial.vectors l.vectors l.k
