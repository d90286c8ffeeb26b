-- `systematic::places::are_good` meets its contract: the first i places ascend below n.
use Prim.Native.Nat.{◌-◌}
use lib.ListN.{length}
use Rattle.poly.proofs.Ascending.{FirstAscend}
use Rattle.systematic.proofs.places.are_good.Given as goal

abbrev pub invariant-loop-i : goal.invariant-loop-i
invariant-loop-i l = FirstAscend l.n l.places l.least l.i
