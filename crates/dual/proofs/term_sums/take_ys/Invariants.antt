-- `dual::term_sums::take_ys` meets its contract. The invariant of its loop: the first t lanes are written.
use mathlib.Core.Path.{◌≡◌}
use Prim.Native.Nat.{◌+◌, ◌-◌, ◌*◌, ◌≤◌}
use lib.ListN.{length, get_or, replicate}
use Rattle.poly.specs.Inner.Ranges.{writes}
use Rattle.dual.proofs.term_sums.take_ys.Given as goal

abbrev pub invariant-loop-t : goal.invariant-loop-t
invariant-loop-t l =
    (l.t ≤ length l.columns) × (length l.r ≡ 16) × (l.r ≡ writes (replicate 16 0) l.t (λ tt. get_or l.all (l.q * get_or l.columns tt 0 + l.s) 0))
