-- `code::equation::write_equation` meets its contract: the terms are gathered from their grid.
-- Assumes nothing.
use mathlib.Core.List.{List}
use mathlib.Core.Path.{sym, ap, subst}
use Prim.Native.Nat.{ℕ, ◌+◌}
use native.Mathlib.Omega.{arith}
use lib.ListN.{length, set}
use Rattle.field.proofs.Curves.{short_sizes}
use Rattle.poly.specs.Inner.Ranges.{Blocks}
use Rattle.code.specs.Inner.Rows.{term_at}
use Rattle.code.proofs.GridEntries.{length_entries}
use Rattle.equations.specs.Inner.Collecting.{EquationAt}
use Rattle.equations.proofs.Equations.{equation_written, entries_fit}
use Rattle.equations.proofs.write_equation.Goals as goal

pub gather_listed-requires : goal.gather_listed-requires
gather_listed-requires c =
    let x = c.args in
    let g = c.monomials in record {
      entries_in_bounds = omega (arith, ap length c.requires.short.2, length_entries x.q x.m, c.requires.short.3);
      by_index = entries_fit x.q x.x x.y c.requires.short.0 x.m x.entries.now g.new.grid c.requires.short.2
          (omega (arith, c.requires.short.1, (short_sizes x.q c.requires.short.0).high, g.auto.grid));
    }

pub returns : goal.returns
returns c =
    let x = c.args in
    let g = c.monomials in
    subst (λ (l : List ℕ). EquationAt x.q x.m x.x x.y x.s (set l (length x.entries.now) x.s))
    (sym c.gather_listed.ensures)
    (equation_written x.q x.x x.y c.requires.short.0 x.m x.s x.entries.now g.new.grid x.row.now c.requires.short.2
    c.requires.short.3
    (subst (λ (i : ℕ). Blocks x.q (term_at x.q x.x x.y) g.new.grid (i + 1))
    c.divide-last.ensures.0 g.ensures))
