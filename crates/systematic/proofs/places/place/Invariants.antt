-- `systematic::places::place` meets its contract: the first i symbols are laid out.
use mathlib.Core.Path.{◌≡◌}
use Prim.Native.Nat.{◌-◌, ◌≤◌}
use lib.ListN.{length}
use Rattle.code.proofs.GridEntries.{laid}
use Rattle.systematic.proofs.places.place.Given as goal

abbrev pub invariant-loop-i : goal.invariant-loop-i
invariant-loop-i l = (l.i ≤ length l.places) × (length l.word ≡ length l.initial.word) × (l.word ≡ laid l.places l.symbols l.initial.word l.i)
