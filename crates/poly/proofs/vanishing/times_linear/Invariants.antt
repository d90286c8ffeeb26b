-- `vanishing::times_linear` meets its contract. The loop's invariant: the first elements, up to the index, are written, and before is
-- what stood before that.
use mathlib.Core.Path.{◌≡◌}
use mathlib.Core.List.{◌++◌}
use lib.ListN.{drop}
use Rattle.field.proofs.Fields.{field_of}
use Rattle.poly.specs.Inner.Ranges.{writes}
use Rattle.poly.specs.Inner.Linear.{entry}
use Rattle.poly.specs.Inner.Polynomials.{linear}
use Rattle.poly.proofs.Values.{shift}
use Rattle.poly.proofs.vanishing.times_linear.Given as goal

abbrev pub invariant-loop-x : goal.invariant-loop-x
invariant-loop-x l =
    (l.before ≡ shift (entry l.fn.out) l.x-index) × (l.x-items ++ drop l.n l.fn.out ≡ writes l.fn.out l.x-index (linear (field_of l.q) l.a (entry l.fn.out)))
