-- The measure of `interpolation::join`: the number of columns.
use Rattle.std.proofs.Common.{length}
use Rattle.poly.proofs.interpolation.+join.Given as goal

abbrev pub decreases-join : goal.decreases-join
decreases-join l = length l.columns.now
