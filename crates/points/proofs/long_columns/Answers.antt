-- `points::long_columns` meets its contract: the series tells which list it is, and the lists compute.
-- Assumes nothing.
use mathlib.Core.Path.{sym, ◌∙◌}
use Rattle.points.specs.Passing.{passing}
use Rattle.points.proofs.Series.{powers_8, by_powers_8, first_columns, second_columns}
use Rattle.points.proofs.long_columns.Goals as goal

pub returns-then-series-eq2 : goal.returns-then-series-eq2
unfolding powers_8
returns-then-series-eq2 c = sym (second_columns 8 c.args.series c.if-series-eq2.true ∙ by_powers_8)

pub returns : goal.returns
unfolding passing
returns c = sym (first_columns 8 c.args.series c.if-series-eq2.false)
