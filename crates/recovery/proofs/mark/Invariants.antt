-- `recovery::mark` meets its contract. The invariant of its loop: the first e are written.
use mathlib.Core.Path.{◌≡◌}
use Prim.Native.Nat.{◌*◌, ◌≤◌}
use lib.ListN.{length}
use Rattle.poly.specs.Lists.{one_if}
use Rattle.poly.specs.Inner.Ranges.{writes}
use Rattle.recovery.specs.Inner.Gaps.{heavy}
use Rattle.recovery.proofs.mark.Given as goal

abbrev pub invariant-loop-e : goal.invariant-loop-e
invariant-loop-e l =
    (l.e ≤ length l.initial.high) × (length l.high ≡ length l.initial.high) × (l.high ≡ writes l.initial.high l.e (λ ee. 255 * one_if (heavy l.q l.m ee)))
