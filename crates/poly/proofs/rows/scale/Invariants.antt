-- `poly::rows::scale` meets its contract. The invariant of its loop: the first elements, up to the index, are written.
use mathlib.Core.Path.{◌≡◌}
use mathlib.Core.List.{◌++◌}
use lib.ListN.{drop}
use Rattle.field.proofs.Fields.{field_of}
use Rattle.poly.specs.Inner.Ranges.{writes}
use Rattle.poly.specs.Inner.Linear.{entry}
use Rattle.poly.proofs.rows.scale.Given as goal

abbrev pub invariant-loop-x : goal.invariant-loop-x
invariant-loop-x l = l.x-items ++ drop l.n l.fn.row ≡ writes l.fn.row l.x-index (λ i. (field_of l.q).times l.c (entry l.fn.row i))
