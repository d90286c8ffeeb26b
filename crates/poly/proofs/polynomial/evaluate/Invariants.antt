-- `poly::polynomial::evaluate` meets its contract: Horner's rule in all lanes at once, from the last coefficient on.
use mathlib.Core.Path.{◌≡◌}
use Prim.Native.Nat.{◌<◌}
use Rattle.field.proofs.Fields.{field_of}
use Rattle.poly.proofs.Horner.{coefficient, ahead}
use Rattle.poly.proofs.polynomial.evaluate.Given as goal

abbrev pub invariant-loop-i : goal.invariant-loop-i
invariant-loop-i g l =
    (l.i < l.count) × (l.values ≡ ahead (field_of l.q) l.count (coefficient l.list l.start l.stride) l.i l.places)
