-- `dual::term_sums::long_rows_vanish` meets its contract: each turn tests one power of y.
use mathlib.Core.List.{List}
use Prim.Native.Nat.{ℕ, ◌-◌, ◌≤◌}
use Rattle.dual.specs.Inner.StagedSums.{sum_by_power_of_x, long_entry}
use Rattle.dual.proofs.RowTests.{RowsBelow}
use Rattle.dual.proofs.term_sums.long_rows_vanish.Given as goal

-- the sum against x^i·y^j
abbrev sums : List ℕ → List ℕ → ℕ → ℕ → ℕ
sums columns rows i j = sum_by_power_of_x 64 8 columns i (long_entry rows j)

abbrev pub invariant-loop-j : goal.invariant-loop-j
invariant-loop-j l = (l.j ≤ 8) × RowsBelow 8 l.m (sums l.columns l.rows) l.j
