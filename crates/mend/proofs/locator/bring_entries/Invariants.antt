-- `mend::locator::bring_entries` meets its contract: entry by entry. Assumes nothing.
use Prim.Native.Nat.{◌-◌, ◌≤◌}
use Rattle.mend.specs.Inner.Products.{grid_from}
use Rattle.mend.specs.Inner.Locating.{HoldsHeavy}
use Rattle.mend.proofs.locator.bring_entries.Given as goal

abbrev pub invariant-loop-e : goal.invariant-loop-e
invariant-loop-e l = (l.e ≤ l.n) × HoldsHeavy l.q l.m l.s 32 (grid_from l.n l.starts l.grids) l.work l.e
