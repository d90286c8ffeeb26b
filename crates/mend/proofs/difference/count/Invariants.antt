-- `mend::difference::count` meets its contract. The invariant of its loop: n counts the places below p.
use mathlib.Core.Path.{◌≡◌}
use Prim.Native.Nat.{◌-◌, ◌≤◌}
use lib.ListN.{length}
use Rattle.mend.proofs.Marks.{differing_below}
use Rattle.mend.proofs.difference.count.Given as goal

abbrev pub invariant-loop-p : goal.invariant-loop-p
invariant-loop-p l = (l.p ≤ length l.a) × (l.n ≤ l.p) × (l.n ≡ differing_below l.a l.b l.p)
