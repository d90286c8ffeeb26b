-- `points::columns` meets its contract: the curve and the series tell which list it is, and the lists compute.
-- Assumes nothing.
use mathlib.Core.Logic.{⊎_elim}
use mathlib.Core.Path.{refl, sym}
use Rattle.points.specs.Passing.{passing}
use Rattle.points.proofs.Series.{powers_4, by_powers_4}
use Rattle.points.proofs.AllColumns.{lent_small, lent_first, lent_second}
use Rattle.points.proofs.columns.Goals as goal
use Rattle.points.proofs.columns.Goals.{else-q-eq4-via-then-q-eq4+else-series-eq2, else-q-eq4-via-else-q-eq4}

pub returns-then-series-eq2 : goal.returns-then-series-eq2
unfolding powers_4
returns-then-series-eq2 c = lent_second c.args.q c.args.series _ c.if-q-eq4.true c.if-series-eq2.true (sym by_powers_4)

pub returns-else-q-eq4 : goal.returns-else-q-eq4
unfolding passing
returns-else-q-eq4 c =
    elim c.else-q-eq4.branch [
      | else-q-eq4-via-then-q-eq4+else-series-eq2 w ↦ lent_first c.args.q c.args.series _ w.if-q-eq4.true w.if-series-eq2.false refl
      | else-q-eq4-via-else-q-eq4 w ↦ lent_small c.args.q c.args.series _ (⊎_elim (λ e. e) (λ e. absurd (w.if-q-eq4.false e)) c.requires) refl
    ]
