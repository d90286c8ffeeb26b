-- `code::grid::scatter` meets its contract: the first n coefficients are laid out.
use mathlib.Core.Path.{◌≡◌}
use Prim.Native.Nat.{◌-◌, ◌≤◌}
use lib.ListN.{length}
use Rattle.code.specs.Inner.Grid.{entries_of}
use Rattle.code.proofs.GridEntries.{laid}
use Rattle.code.proofs.grid.scatter.Given as goal

abbrev pub invariant-loop-n : goal.invariant-loop-n
invariant-loop-n l = (l.n ≤ length l.message) × (length l.grid ≡ length l.initial.grid) × (l.grid ≡ laid (entries_of l.q l.m) l.message l.initial.grid l.n)
