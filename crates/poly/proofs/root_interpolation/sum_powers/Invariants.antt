-- `poly::root_interpolation::sum_powers` meets its contract: each turn multiplies the values by their places, and sums them.
use Rattle.field.proofs.Fields.{field_of}
use Rattle.poly.proofs.RootInterpolation.{Summing}
use Rattle.poly.proofs.root_interpolation.sum_powers.Given as goal

abbrev pub invariant-loop-i : goal.invariant-loop-i
invariant-loop-i l = Summing (field_of l.q) l.places l.values l.initial.row l.row l.v l.i
