-- `dual::term_sums::take_symbols` meets its contract. The invariant of its loop: the first t lanes are written.
use mathlib.Core.Path.{◌≡◌}
use Prim.Native.Nat.{◌+◌, ◌-◌, ◌*◌, ◌≤◌}
use lib.ListN.{length, get_or, replicate}
use Rattle.poly.specs.Inner.Ranges.{writes}
use Rattle.dual.proofs.term_sums.take_symbols.Given as goal

abbrev pub invariant-loop-t : goal.invariant-loop-t
invariant-loop-t l =
    (l.t ≤ l.c) × (length l.r ≡ 16) × (l.r ≡ writes (replicate 16 0) l.t (λ tt. get_or l.word (l.q * tt + l.s) 0))
