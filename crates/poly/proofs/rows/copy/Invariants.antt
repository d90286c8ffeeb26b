-- `poly::rows::copy` meets its contract. The invariant of its loop: the first j are written.
use mathlib.Core.Path.{◌≡◌}
use Prim.Native.Nat.{◌≤◌}
use lib.ListN.{length}
use Rattle.poly.specs.Inner.Ranges.{writes}
use Rattle.poly.specs.Inner.Linear.{entry}
use Rattle.poly.proofs.rows.copy.Given as goal

abbrev pub invariant-loop-j : goal.invariant-loop-j
invariant-loop-j l = (l.j ≤ l.n) × (length l.dst ≡ length l.initial.dst) × (l.dst ≡ writes l.initial.dst l.j (entry l.src))
