-- `code::encoding::evaluate_column` meets its contract: sixteen values, of which the first q are stored.
-- Assumes nothing.
use mathlib.Core.Path.{◌≡◌, ◌∙◌}
use Rattle.poly.specs.Inner.Linear.{entry}
use Rattle.poly.specs.Inner.Lanes.{lanes}
use Rattle.code.specs.Inner.Encodable.{in_y}
use Rattle.code.proofs.Stages.{column_stored}
use Rattle.code.proofs.encoding.evaluate_column.Goals as goal
use Rattle.code.proofs.encoding.evaluate_column.Goals.{Joined-q-eq8, else-q-eq8, then-q-eq8}

-- the values of the column's polynomial
values_are : (c : goal.Joined-q-eq8) → let x = c.args in
    c.if-q-eq8.values ≡ lanes (λ s. in_y x.q x.rows.now x.t (entry x.ys.now s))
values_are c =
    elim c.if-q-eq8.branch [
      | then-q-eq8 v ↦ v.values-is ∙ v.evaluate-values.ensures
      | else-q-eq8 v ↦ v.values-is ∙ v.evaluate-values-else-q-eq8.ensures
    ]

pub returns : goal.returns
returns c =
    column_stored c.args.q c.requires.curve.0 c.args.rows.now c.args.ys.now c.args.t _ c.args.part.now _
    (values_are (goal.at.returns c).Joined-q-eq8) c.requires.t_bound.2 c.store.ensures
