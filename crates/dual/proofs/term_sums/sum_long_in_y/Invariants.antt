-- `dual::term_sums::sum_long_in_y` meets its contract: each turn sums those of sixteen columns.
use mathlib.Core.Path.{◌≡◌}
use Prim.Native.Nat.{◌*◌, ◌≤◌}
use lib.ListN.{length}
use Rattle.dual.proofs.LongSums.{LongSummed}
use Rattle.dual.proofs.term_sums.sum_long_in_y.Given as goal

abbrev pub invariant-loop-part : goal.invariant-loop-part
invariant-loop-part l = (l.part ≤ 4) × (length l.rows ≡ length l.initial.rows) × LongSummed l.columns l.word l.rows (16 * l.part)
