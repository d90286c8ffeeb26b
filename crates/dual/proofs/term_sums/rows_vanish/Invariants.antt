-- `dual::term_sums::rows_vanish` meets its contract: each turn tests the row of one power of y.
use Prim.Native.Nat.{◌+◌, ◌-◌, ◌*◌, ◌≤◌}
use lib.ListN.{get_or}
use Rattle.dual.specs.Inner.StagedSums.{sum_by_power_of_x}
use Rattle.dual.proofs.RowTests.{RowsBelow}
use Rattle.dual.proofs.term_sums.rows_vanish.Given as goal

abbrev pub invariant-loop-j : goal.invariant-loop-j
invariant-loop-j l =
    (l.j ≤ l.q) × RowsBelow l.q l.m (λ i j. sum_by_power_of_x 16 l.q l.columns i (λ t. get_or l.rows (16 * j + t) 0)) l.j
