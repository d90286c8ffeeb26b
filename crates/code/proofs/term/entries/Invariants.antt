-- `code::term::entries` meets its contract: the entries of the first n terms are written.
use mathlib.Core.Path.{◌≡◌}
use Prim.Native.Nat.{◌-◌, ◌≤◌}
use lib.ListN.{get_or}
use Rattle.poly.specs.Inner.Ranges.{writes}
use Rattle.code.specs.Inner.Grid.{entries_of}
use Rattle.code.proofs.term.entries.Given as goal

abbrev pub invariant-loop-n : goal.invariant-loop-n
invariant-loop-n l = (l.n ≤ l.k) × (l.list ≡ writes l.initial.list l.n (λ i. get_or (entries_of l.q l.m) i 0))
