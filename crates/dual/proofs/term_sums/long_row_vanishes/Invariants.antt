-- `dual::term_sums::long_row_vanishes` meets its contract: each turn tests one power of x, and multiplies by x.
use Prim.Native.Nat.{◌-◌, ◌<◌}
use Rattle.dual.specs.Inner.StagedSums.{sum_by_power_of_x, long_entry}
use Rattle.dual.proofs.RowTests.{RowTested}
use Rattle.dual.proofs.LongSums.{Quarters}
use Rattle.dual.proofs.term_sums.long_row_vanishes.Given as goal

abbrev pub invariant-loop-w : goal.invariant-loop-w
invariant-loop-w l =
    (l.w < 512) × RowTested 8 l.m l.j (λ i. sum_by_power_of_x 64 8 l.columns i (long_entry l.rows l.j)) (Quarters l.columns l.rows l.j l.xa l.xb l.xc l.xd l.a l.b l.c l.d) l.w

abbrev pub decreases-loop-w : goal.decreases-loop-w
decreases-loop-w l = l.m - l.w
