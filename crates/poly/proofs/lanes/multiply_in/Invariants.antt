-- `poly::lanes::multiply_in` meets its contract. The invariant of its loop: the first t are written.
use mathlib.Core.Path.{◌≡◌}
use Prim.Native.Nat.{◌≤◌}
use lib.ListN.{length, replicate}
use Rattle.field.proofs.Fields.{field_of}
use Rattle.poly.specs.Inner.Ranges.{writes}
use Rattle.poly.specs.Inner.Linear.{entry}
use Rattle.poly.proofs.lanes.multiply_in.Given as goal

abbrev pub invariant-loop-t : goal.invariant-loop-t
invariant-loop-t g l =
    (l.t ≤ 16) × (length l.r ≡ 16) × (l.r ≡ writes (replicate 16 0) l.t (λ i. (field_of l.q).times (entry l.a i) (entry l.b i)))
