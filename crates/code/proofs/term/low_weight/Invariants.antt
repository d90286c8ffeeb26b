-- `code::term::low_weight` meets its contract: the rows before the row are full, and hold no more than n terms.
use mathlib.Core.Path.{◌≡◌}
use Prim.Native.Nat.{suc, ◌-◌, ◌*◌, ◌≤◌, ◌<◌}
use Rattle.code.proofs.term.low_weight.Given as goal

abbrev pub invariant-loop-before : goal.invariant-loop-before
invariant-loop-before l = (2 * l.before ≡ l.row * suc l.row) × (l.before ≤ l.n) × (l.row < l.q)

abbrev pub decreases-loop-before : goal.decreases-loop-before
decreases-loop-before l = l.n - l.before
