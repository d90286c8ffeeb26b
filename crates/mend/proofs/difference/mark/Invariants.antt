-- `mend::difference::mark` meets its contract. The invariant of its loop: the marks of the places below p are written.
use mathlib.Core.Path.{◌≡◌}
use Prim.Native.Nat.{◌-◌, ◌≤◌}
use lib.ListN.{length}
use Rattle.poly.specs.Inner.Ranges.{writes}
use Rattle.mend.proofs.Marks.{mark_at}
use Rattle.mend.proofs.difference.mark.Given as goal

abbrev pub invariant-loop-p : goal.invariant-loop-p
invariant-loop-p l = (l.p ≤ length l.a) × (length l.marks ≡ length l.initial.marks) × (l.marks ≡ writes l.initial.marks l.p (mark_at l.a l.b))
