-- `poly::lanes::times_z` meets its contract. The invariant of its loop: the first t are written.
use mathlib.Core.Path.{◌≡◌}
use Prim.Native.Nat.{◌≤◌}
use lib.ListN.{length, replicate}
use Rattle.field.proofs.Fields.{field_of}
use Rattle.poly.specs.Inner.Ranges.{writes}
use Rattle.poly.specs.Inner.Linear.{entry}
use Rattle.poly.proofs.lanes.times_z.Given as goal

abbrev pub invariant-loop-t : goal.invariant-loop-t
invariant-loop-t l =
    (l.t ≤ 16) × (length l.r ≡ 16) × (l.r ≡ writes (replicate 16 0) l.t (λ i. (field_of l.q).times 2 (entry l.a i)))
