-- `code::grid::gather_listed` meets its contract: the coefficients at the first n entries are gathered.
use mathlib.Core.Path.{◌≡◌}
use Prim.Native.Nat.{◌-◌, ◌≤◌}
use lib.ListN.{length}
use Rattle.poly.specs.Inner.Ranges.{writes}
use Rattle.code.specs.Inner.Grid.{listed}
use Rattle.code.proofs.grid.gather_listed.Given as goal

abbrev pub invariant-loop-n : goal.invariant-loop-n
invariant-loop-n l = (l.n ≤ length l.entries) × (l.out ≡ writes l.initial.out l.n (listed l.entries l.grid))
