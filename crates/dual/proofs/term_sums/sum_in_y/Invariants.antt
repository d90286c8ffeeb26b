-- `dual::term_sums::sum_in_y` meets its contract: each turn adds one symbol of every column, times its y to each power.
use mathlib.Core.Path.{◌≡◌}
use Prim.Native.Nat.{◌-◌, ◌≤◌}
use lib.ListN.{length}
use Rattle.dual.specs.Inner.StagedSums.{SummedInY}
use Rattle.dual.proofs.term_sums.sum_in_y.Given as goal

abbrev pub invariant-loop-s : goal.invariant-loop-s
invariant-loop-s l = (l.s ≤ l.q) × (length l.rows ≡ length l.initial.rows) × SummedInY l.s l.q l.columns l.word l.rows
