-- `poly::lanes::take` meets its contract. The invariant of its loop: the first t are written.
use mathlib.Core.Path.{◌≡◌}
use Prim.Native.Nat.{◌+◌, ◌≤◌}
use lib.ListN.{length, get_or, replicate}
use Rattle.poly.specs.Inner.Ranges.{writes}
use Rattle.poly.proofs.lanes.take.Given as goal

abbrev pub invariant-loop-t : goal.invariant-loop-t
invariant-loop-t l =
    (l.t ≤ 16) × (length l.r ≡ 16) × (l.r ≡ writes (replicate 16 0) l.t (λ i. get_or l.list (l.at + i) 0))
