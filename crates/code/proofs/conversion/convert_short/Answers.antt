-- `code::conversion::convert_short` meets its contract: all columns are moved.
-- Assumes nothing.
use mathlib.Core.Path.{◌≡◌, refl, ap, ◌∙◌}
use Prim.Native.Nat.{◌*◌}
use native.Mathlib.Omega.{arith}
use lib.ListN.{take}
use Rattle.field.proofs.Curves.{short_curve}
use Rattle.points.specs.Series.{other_series, columns_of}
use Rattle.points.proofs.AllColumns.{columns_are}
use Rattle.code.proofs.Moving.{movable, moved_all}
use Rattle.code.proofs.conversion.convert_short.Goals as goal
use Rattle.code.proofs.conversion.convert_short.Goals.{After-columns-to}

-- the columns that are lent
from_are : (c : goal.After-columns-to) → let x = c.args in
    take (x.q * x.q) c.columns-from.result ≡ columns_of x.q (other_series x.series)
from_are c =
    columns_are c.args.q _ c.requires.0 (c.args.q * c.args.q) _ refl c.columns-from.ensures
    ∙ ap (columns_of c.args.q) c.other_series-other.ensures

to_are : (c : goal.After-columns-to) → let x = c.args in
    take (x.q * x.q) c.columns-to.result ≡ columns_of x.q x.series
to_are c =
    columns_are c.args.q c.args.series c.requires.0 (c.args.q * c.args.q) _ refl c.columns-to.ensures

pub move_columns-requires : goal.move_columns-requires
move_columns-requires c =
    record {
      within = movable c.args.q c.args.series (short_curve _ c.requires.0) _ _ (from_are (goal.at.move_columns-requires c).After-columns-to) (to_are (goal.at.move_columns-requires c).After-columns-to) c.args.word.now c.requires.1;
      word_len_bound = (omega (arith, c.requires.1), c.requires.2);
    }

pub returns : goal.returns
returns c =
    moved_all c.args.q c.args.series (short_curve _ c.requires.0) _ _ (from_are (goal.at.returns c).After-columns-to) (to_are (goal.at.returns c).After-columns-to) c.args.word.now c.args.out.now _
    c.move_columns.ensures
