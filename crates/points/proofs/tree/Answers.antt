-- `points::tree` meets its contract: the curve and the series tell which tree it is, and the rule of each holds by computed tests.
-- Assumes nothing.
use mathlib.Core.Logic.{⊎_elim}
use mathlib.Core.Path.{refl}
use native.Mathlib.Omega.{arith}
use Rattle.field.specs.Plus.{plus}
use Rattle.field.specs.Product.{times}
use Rattle.field.proofs.Fields.{field_of}
use Rattle.poly.proofs.Trees.{times_linear, coefficients, holds, is_node, is_tree, vanishing_tree}
use Rattle.points.specs.Passing.{passing, up_to}
use Rattle.points.proofs.Series.{powers_4, by_powers_4, first_columns, second_columns, small_columns}
use Rattle.points.proofs.tree.Goals as goal

pub returns-then-q-eq2 : goal.returns-then-q-eq2
unfolding times plus passing times_linear coefficients holds is_node is_tree
returns-then-q-eq2 c =
    (rw (c.if-q-eq2.true, small_columns c.args.series) (vanishing_tree (field_of 2) 4 (up_to 4) _ (omega arith) (omega arith) tt tt tt), refl)

pub returns-then-series-eq2 : goal.returns-then-series-eq2
unfolding times plus times_linear coefficients holds is_node is_tree powers_4
returns-then-series-eq2 c =
    let larger = ⊎_elim (λ e. absurd (c.if-q-eq2.false e)) (λ e. e) c.requires in (
      rw (larger, second_columns 4 c.args.series c.if-series-eq2.true, by_powers_4)
          (vanishing_tree (field_of 4) 4 powers_4 _ (omega arith) (omega arith) tt tt tt),
      refl,
    )

pub returns : goal.returns
unfolding times plus passing times_linear coefficients holds is_node is_tree
returns c =
    let larger = ⊎_elim (λ e. absurd (c.if-q-eq2.false e)) (λ e. e) c.requires in (
      rw (larger, first_columns 4 c.args.series c.if-series-eq2.false)
          (vanishing_tree (field_of 4) 4 (up_to 16) _ (omega arith) (omega arith) tt tt tt),
      refl,
    )
