-- `interpolation::place` meets its contract: block by block. Assumes nothing.
use Prim.Native.Nat.{◌+◌, ◌-◌, ◌<◌}
use lib.ListN.{get_or}
use Rattle.poly.proofs.Fillings.{Filled}
use Rattle.poly.proofs.interpolation.place.Given as goal

abbrev pub invariant-loop-at : goal.invariant-loop-at
invariant-loop-at l = (l.at < l.n + 16) × Filled 32 (λ e. get_or l.src e 0) l.initial.out l.out l.at

abbrev pub decreases-loop-at : goal.decreases-loop-at
decreases-loop-at l = l.n - l.at
