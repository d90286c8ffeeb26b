-- `poly::lanes::sum` meets its contract: r is the sum of the first t lanes.
use mathlib.Core.Path.{◌≡◌}
use Prim.Native.Nat.{◌≤◌}
use Rattle.field.specs.Sum.{sum}
use Rattle.poly.specs.Inner.Linear.{entry}
use Rattle.poly.proofs.lanes.sum.Given as goal

abbrev pub invariant-loop-t : goal.invariant-loop-t
invariant-loop-t l = (l.t ≤ 16) × (l.r ≡ sum l.t (entry l.a))
