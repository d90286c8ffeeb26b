-- `vanishing::write_polynomial` meets its contract. The loop's invariant: out vanishes at the columns from t on. Assumes nothing.
use lib.ListN.{drop}
use Rattle.field.proofs.Fields.{field_of}
use Rattle.poly.specs.Inner.Polynomials.{Vanishing}
use Rattle.poly.proofs.vanishing.write_polynomial.Given as goal

abbrev pub invariant-loop-t : goal.invariant-loop-t
invariant-loop-t l = Vanishing (field_of l.q) (drop l.t l.columns) l.out
