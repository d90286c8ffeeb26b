-- `code::check::first_bad` meets its contract: where the highest value is a symbol none is bad; else what is left of the list is searched
use mathlib.Core.Path.{◌≡◌}
use Prim.Native.Nat.{◌+◌, ◌-◌, ◌≤◌}
use lib.ListN.{length, drop}
use Rattle.field.specs.Values.{bad_value, first_bad}
use Rattle.code.proofs.check.first_bad.Given as goal

abbrev pub invariant-loop-i : goal.invariant-loop-i
invariant-loop-i l =
    (l.i ≤ length l.values) × (first_bad (bad_value l.gaps l.size) l.values ≡ l.i + first_bad (bad_value l.gaps l.size) (drop l.i l.values))
