-- `systematic::completion::mark_symbols` meets its contract. The invariant of its loop: the first p are written.
use mathlib.Core.Path.{◌≡◌}
use Prim.Native.Nat.{◌-◌, ◌*◌, ◌≤◌}
use lib.ListN.{length}
use Rattle.poly.specs.Lists.{one_if}
use Rattle.poly.specs.Inner.Ranges.{writes}
use Rattle.code.specs.Inner.Recovering.{present}
use Rattle.systematic.proofs.completion.mark_symbols.Given as goal

abbrev pub invariant-loop-p : goal.invariant-loop-p
invariant-loop-p l = (l.p ≤ length l.word) × (length l.high ≡ length l.initial.high) × (l.high ≡ writes l.initial.high l.p (λ pp. 255 * one_if (present l.word pp)))
