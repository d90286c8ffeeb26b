-- `session::clear_conflicts` meets its contract. The invariant of its loop: the first i have no conflict left.
use mathlib.Core.Path.{◌≡◌}
use Prim.Native.Nat.{◌≤◌}
use lib.ListN.{length, get_or}
use Rattle.poly.specs.Inner.Ranges.{writes}
use Rattle.session.specs.Arrived.{conflict_as_missing}
use Rattle.session.proofs.clear_conflicts.Given as goal

abbrev pub invariant-loop-place : goal.invariant-loop-place
invariant-loop-place l =
    (l.place-index ≤ length l.initial.places) × (length l.places ≡ length l.initial.places) × (l.places ≡ writes l.initial.places l.place-index (λ j. conflict_as_missing (get_or l.initial.places j 0)))
