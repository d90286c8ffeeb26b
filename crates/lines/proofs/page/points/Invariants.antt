-- `page::points` meets its contract. The invariant of its loop: the first s points are written.
use mathlib.Core.Path.{◌≡◌}
use Prim.Native.Nat.{◌+◌, ◌*◌, ◌≤◌}
use lib.ListN.{length}
use Rattle.lines.specs.Text.{joined, Written}
use Rattle.lines.specs.Page.{point_text}
use Rattle.lines.proofs.page.points.Given as goal

abbrev pub invariant-loop-s : goal.invariant-loop-s
invariant-loop-s l =
    (l.s ≤ 4) × (l.end ≡ l.at + 4 * l.s) × (length l.out ≡ length l.initial.out) × Written l.initial.out l.at (joined (point_text l.block l.x) l.s) l.end l.out
