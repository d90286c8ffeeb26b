-- The measure of `vanishing::write_halves`: the number of columns.
use Rattle.std.proofs.Common.{length}
use Rattle.poly.proofs.vanishing.+write_halves.Given as goal

abbrev pub decreases-write_halves : goal.decreases-write_halves
decreases-write_halves l = length l.columns.now
