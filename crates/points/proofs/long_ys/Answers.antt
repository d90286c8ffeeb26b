-- `code::point::long_ys` meets its contract: each point of the table is on the curve, they stand in order and none is absent, by two computed tests.
-- Assumes nothing.
use mathlib.Core.Path.{refl}
use native.Mathlib.Omega.{arith}
use Rattle.field.proofs.Curves.{long_curve}
use Rattle.points.proofs.Traces.{traces_8, norms_8, fast_y}
use Rattle.points.proofs.YsTables.{fast_is}
use Rattle.points.proofs.PointTables.{points_table}
use Rattle.points.proofs.long_ys.Goals as goal

pub returns : goal.returns
unfolding traces_8 norms_8
returns c =
    let all =
    points_table 8 long_curve 512 fast_y fast_is (omega arith) _ refl tt tt in
    record { ys = all.0; point_table = all.1 }
