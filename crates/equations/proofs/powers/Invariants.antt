-- `code::equation::powers` meets its contract: each power is x times the one before.
use mathlib.Core.Path.{◌≡◌}
use Prim.Native.Nat.{◌≤◌}
use lib.ListN.{length}
use Rattle.field.specs.Power.{power}
use Rattle.field.proofs.Fields.{field_of}
use Rattle.poly.specs.Inner.Ranges.{writes}
use Rattle.equations.proofs.powers.Given as goal

abbrev pub invariant-loop-entry : goal.invariant-loop-entry
invariant-loop-entry l =
    (l.entry-index ≤ length l.initial.out) × (length l.out ≡ length l.initial.out) × (l.next ≡ power (field_of l.q) l.x l.entry-index) × (l.out ≡ writes l.initial.out l.entry-index (power (field_of l.q) l.x))
