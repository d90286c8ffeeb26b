-- `linear::system::free_unknown` meets its contract: the rows before p are present, turn by turn.
use Prim.Native.Nat.{ℕ, ◌<◌}
use lib.Dec.{T}
use Rattle.linear.specs.Inner.Systems.{flat}
use Rattle.linear.proofs.system.free_unknown.Given as goal

abbrev pub invariant-loop-p : goal.invariant-loop-p
invariant-loop-p l = (i : ℕ) → i < l.p → T ((flat l.stride l.k l.work).present i)
