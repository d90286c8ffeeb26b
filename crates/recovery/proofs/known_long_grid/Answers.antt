-- `recovery::known_long_grid` meets its contract: the word with 0 at each gap is interpolated.
-- Assumes nothing.
use mathlib.Core.Path.{◌≡◌, sym, ◌∙◌}
use lib.ListN.{length}
use Rattle.field.proofs.Curves.{long_curve}
use Rattle.points.proofs.Series.{full_places}
use Rattle.recovery.proofs.KnownGrids.{filled_over, known_grid}
use Rattle.recovery.proofs.known_long_grid.Goals as goal
use Rattle.recovery.proofs.known_long_grid.Goals.{Start}

long : (c : goal.Start) → 512 ≡ length c.args.word.now
long c = sym (c.requires.long ∙ full_places 8 c.args.series long_curve)

pub fill-requires : goal.fill-requires
fill-requires c = long (goal.at.fill-requires c).Start

pub interpolate_long-requires : goal.interpolate_long-requires
interpolate_long-requires c =
    filled_over 8 _ _ c.requires _ _ (long (goal.at.interpolate_long-requires c).Start) c.fill.ensures

pub returns : goal.returns
returns c =
    let r = c.interpolate_long in
    (known_grid 8 _ _ c.requires _ _ (long (goal.at.returns c).Start) c.fill.ensures _ r.ensures.0, r.ensures.1)
