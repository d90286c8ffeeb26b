-- `code::conversion::convert_long` meets its contract: all columns are moved.
-- Assumes nothing.
use mathlib.Core.Path.{◌≡◌, ap, ◌∙◌}
use native.Mathlib.Omega.{arith}
use Rattle.field.proofs.Curves.{long_curve}
use Rattle.points.specs.Series.{other_series, columns_of}
use Rattle.code.proofs.Moving.{movable, moved_all}
use Rattle.code.proofs.conversion.convert_long.Goals as goal
use Rattle.code.proofs.conversion.convert_long.Goals.{After-long_columns-to}

from_are : (c : goal.After-long_columns-to)
    → c.long_columns-from.result ≡ columns_of 8 (other_series c.args.series)
from_are c = c.long_columns-from.ensures ∙ ap (columns_of 8) c.other_series-other.ensures

pub move_columns-requires : goal.move_columns-requires
move_columns-requires c =
    record {
      within = movable 8 c.args.series long_curve _ _ (from_are (goal.at.move_columns-requires c).After-long_columns-to) c.long_columns-to.ensures c.args.word.now c.requires.0;
      word_len_bound = (omega (arith, c.requires.0), c.requires.1);
    }

pub returns : goal.returns
returns c =
    moved_all 8 c.args.series long_curve _ _ (from_are (goal.at.returns c).After-long_columns-to) c.long_columns-to.ensures c.args.word.now c.args.out.now _
    c.move_columns.ensures
