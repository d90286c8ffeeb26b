-- `chosen_columns::columns::are_good` meets its contract: the first i columns ascend below the size.
use Prim.Native.Nat.{◌-◌}
use lib.ListN.{length}
use Rattle.poly.proofs.Ascending.{FirstAscend}
use Rattle.chosen_columns.proofs.columns.are_good.Given as goal

abbrev pub invariant-loop-i : goal.invariant-loop-i
invariant-loop-i l = FirstAscend l.size l.columns l.least l.i
