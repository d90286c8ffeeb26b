-- `linear::vectors::eliminate` meets its contract. The invariant of its loop: the first t vectors were taken.
use lib.ListN.{length}
use Rattle.field.specs.Inner.Halves.{half_of}
use Rattle.field.proofs.Fields.{field_of}
use Rattle.linear.specs.Inner.Eliminating.{Table}
use Rattle.linear.proofs.Eliminating.{Eliminating}
use Rattle.linear.proofs.vectors.eliminate.Given as goal

abbrev pub invariant-loop-t : goal.invariant-loop-t
invariant-loop-t l =
    (Table (field_of l.q) (length l.high) (half_of l.q) l.low × Table (field_of l.q) (length l.high) (half_of l.q) l.top)
    × Eliminating (field_of l.q) l.count l.high l.initial.vectors l.vectors l.initial.grid l.grid l.rank l.t
