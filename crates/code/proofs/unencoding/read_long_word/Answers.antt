-- `code::unencoding::read_long_word` meets its contract: by the grid of the word. Assumes nothing.
use mathlib.Core.Path.{sym, ◌∙◌}
use Rattle.field.proofs.Curves.{long_curve}
use Rattle.points.specs.Series.{columns_of}
use Rattle.points.proofs.Series.{full_places}
use Rattle.code.proofs.WordGrids.{whole_grid, read_answer}
use Rattle.code.proofs.unencoding.read_long_word.Goals as goal

pub returns : goal.returns
returns c =
    let a = c.args in
    let r = c.interpolate_long-grid in
    read_answer 8 (columns_of 8 a.series) a.word.now c.requires.whole a.m c.requires.order r.result
    (whole_grid 8 (columns_of 8 a.series) a.word.now c.requires.whole r.result r.ensures.0 (r.ensures.1 ∙ sym (full_places 8 a.series long_curve)))
    a.message.now
    ∙ c.read_grid.ensures
