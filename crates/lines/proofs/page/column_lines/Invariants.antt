-- `page::column_lines` meets its contract. The invariant of its loop: the lines of the first x columns are written.
use mathlib.Core.Path.{◌≡◌}
use Prim.Native.Nat.{◌+◌, ◌*◌, ◌≤◌}
use lib.ListN.{length}
use Rattle.lines.specs.Text.{joined, Written}
use Rattle.lines.specs.Page.{column_line}
use Rattle.lines.proofs.page.column_lines.Given as goal

abbrev pub invariant-loop-x : goal.invariant-loop-x
invariant-loop-x l =
    (l.x ≤ 16) × (l.end ≡ l.at + 19 * l.x) × (length l.out ≡ length l.initial.out) × Written l.initial.out l.at (joined (column_line l.block) l.x) l.end l.out
