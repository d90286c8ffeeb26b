-- `code::grid::gather` meets its contract: the first n coefficients are gathered.
use mathlib.Core.Path.{◌≡◌}
use Prim.Native.Nat.{◌-◌, ◌≤◌}
use lib.ListN.{length}
use Rattle.poly.specs.Inner.Ranges.{writes}
use Rattle.code.specs.Inner.Grid.{entries_of, listed}
use Rattle.code.proofs.grid.gather.Given as goal

abbrev pub invariant-loop-n : goal.invariant-loop-n
invariant-loop-n l =
    (l.n ≤ length l.initial.message) × (length l.message ≡ length l.initial.message) × (l.message ≡ writes l.initial.message l.n (listed (entries_of l.q l.m) l.grid))
