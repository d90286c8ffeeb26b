-- `code::check::highest` meets its contract: the highest of the values below i.
use Prim.Native.Nat.{◌-◌, ◌≤◌}
use lib.ListN.{length}
use Rattle.code.specs.Inner.Highest.{Highest}
use Rattle.code.proofs.check.highest.Given as goal

abbrev pub invariant-loop-v : goal.invariant-loop-v
invariant-loop-v l = Highest l.values l.v-index l.high
