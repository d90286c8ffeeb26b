-- `code::grid::order_at_most` meets its contract: the entries before e are of a weight up to m, or 0.
use mathlib.Core.Bool.{true}
use mathlib.Core.Path.{◌≡◌}
use Prim.Native.Nat.{◌-◌}
use lib.ListN.{length}
use Rattle.code.specs.Inner.Grid.{order_at_most}
use Rattle.code.proofs.grid.order_at_most.Given as goal

abbrev pub invariant-loop-e : goal.invariant-loop-e
invariant-loop-e l = order_at_most l.q l.m l.e l.grid ≡ true
