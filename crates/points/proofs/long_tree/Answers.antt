-- `points::long_tree` meets its contract: the series tells which tree it is, and the rule of each holds by computed tests.
-- Assumes nothing.
use native.Mathlib.Omega.{arith}
use Rattle.field.specs.Plus.{plus}
use Rattle.field.specs.Product.{times}
use Rattle.field.proofs.Fields.{field_of}
use Rattle.poly.proofs.Trees.{times_linear, coefficients, holds, is_node, is_tree, vanishing_tree}
use Rattle.points.specs.Passing.{passing, up_to}
use Rattle.points.proofs.Series.{powers_8, by_powers_8, first_columns, second_columns}
use Rattle.points.proofs.long_tree.Goals as goal

pub returns-then-series-eq2 : goal.returns-then-series-eq2
unfolding times plus times_linear coefficients holds is_node is_tree powers_8
returns-then-series-eq2 c =
    rw (second_columns 8 c.args.series c.if-series-eq2.true, by_powers_8)
    (vanishing_tree (field_of 8) 6 powers_8 _ (omega arith) (omega arith) tt tt tt)

pub returns : goal.returns
unfolding times plus passing times_linear coefficients holds is_node is_tree
returns c =
    rw (first_columns 8 c.args.series c.if-series-eq2.false)
    (vanishing_tree (field_of 8) 6 (up_to 64) _ (omega arith) (omega arith) tt tt tt)
