-- `mend::candidate::erase` meets its contract. The invariant of its loop: the first p are written.
use mathlib.Core.Path.{◌≡◌}
use Prim.Native.Nat.{◌≤◌, ◌-◌}
use lib.ListN.{length}
use Rattle.poly.specs.Inner.Ranges.{writes}
use Rattle.mend.specs.Inner.Locating.{erased_at}
use Rattle.mend.proofs.candidate.erase.Given as goal

abbrev pub invariant-loop-p : goal.invariant-loop-p
invariant-loop-p l = (l.p ≤ length l.word) × (length l.located ≡ length l.initial.located) × (l.located ≡ writes l.initial.located l.p (erased_at l.word l.initial.located))
