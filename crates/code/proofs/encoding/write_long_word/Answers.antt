-- `code::encoding::write_long_word` meets its contract: the two stages leave the word.
-- Assumes nothing.
use mathlib.Core.Path.{sym, ap, ◌∙◌, subst}
use Prim.Native.Nat.{ℕ, ◌+◌, ◌*◌, ◌≤◌}
use native.Mathlib.Omega.{arith}
use lib.ListN.{length}
use Rattle.field.proofs.Curves.{long_curve}
use Rattle.poly.specs.Inner.Ranges.{Blocks}
use Rattle.points.specs.Series.{columns_of}
use Rattle.points.proofs.Series.{length_columns, full_places}
use Rattle.code.specs.Inner.Encodable.{grid_column}
use Rattle.code.proofs.Stages.{grid_below, grid_rows, stages}
use Rattle.code.proofs.encoding.write_long_word.Goals as goal

fits : (series : ℕ) → 8 * length (columns_of 8 series) ≤ 512
fits series = omega (arith, full_places 8 series long_curve)

pub write_long_columns-requires : goal.write_long_columns-requires
write_long_columns-requires c =
    let a = c.args in
    let e = c.scatter in
    let n = ap (λ (x : ℕ). x + 1) c.divide-last.ensures.0 in
    let rows = grid_rows 8 (columns_of 8 a.series) a.m a.message.now a.word.now c.requires _ n in (
      grid_below 8 (columns_of 8 a.series) a.m a.message.now a.word.now c.requires _ _ e.ensures,
      omega arith,
      omega (arith, e.auto.grid, rows.1, fits a.series),
      c.requires.room ∙ full_places 8 a.series long_curve,
    )

pub returns : goal.returns
returns c =
    let grid = c.scatter in
    let a = c.args in
    let e = c.write_long_columns in
    stages 8 (columns_of 8 a.series) a.m a.message.now a.word.now c.requires _ _ _ _ (fits a.series)
    (ap (λ (x : ℕ). x + 1) c.divide-last.ensures.0) grid.ensures e.auto.word
    (subst (Blocks 8 (grid_column 8 (columns_of 8 a.series) (c.divide-last.result.whole + 1) grid.new.grid) e.new.word)
    (sym (length_columns 8 a.series long_curve)) e.ensures)
