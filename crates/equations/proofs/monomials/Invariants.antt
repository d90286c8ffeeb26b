-- `code::equation::monomials` meets its contract: each turn writes one row, which is x times the one before.
use mathlib.Core.Path.{◌≡◌}
use lib.ListN.{length}
use Rattle.poly.specs.Inner.Ranges.{Blocks}
use Rattle.code.specs.Inner.Rows.{term_at}
use Rattle.equations.proofs.Equations.{RowAt}
use Rattle.equations.proofs.monomials.Given as goal

abbrev pub invariant-loop-i : goal.invariant-loop-i
invariant-loop-i l = (length l.grid ≡ length l.initial.grid) × RowAt l.q l.x l.y l.i l.row × Blocks l.q (term_at l.q l.x l.y) l.grid l.i
