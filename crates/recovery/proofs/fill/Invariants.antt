-- `recovery::fill` meets its contract. The invariant of its loop: the first p are written.
use mathlib.Core.Path.{◌≡◌}
use Prim.Native.Nat.{◌-◌, ◌≤◌}
use lib.ListN.{length}
use Rattle.poly.specs.Inner.Ranges.{writes}
use Rattle.recovery.specs.Inner.Gaps.{known}
use Rattle.recovery.proofs.fill.Given as goal

abbrev pub invariant-loop-p : goal.invariant-loop-p
invariant-loop-p l = (l.p ≤ length l.word) × (length l.out ≡ length l.initial.out) × (l.out ≡ writes l.initial.out l.p (known l.word))
