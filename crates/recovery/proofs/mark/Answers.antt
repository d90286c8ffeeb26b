-- `recovery::mark` meets its contract. The invariant of its loop: the first e are written.
-- Assumes nothing.
use mathlib.Core.Path.{refl, ◌∙◌}
use native.Mathlib.Omega.{arith}
use lib.ListN.{length-set}
use Rattle.poly.specs.Inner.Ranges.{writes}
use Rattle.poly.proofs.Writes.{writes_turn}
use Rattle.recovery.proofs.IndicatorRows.{heavy_one, heavy_none}
use Rattle.recovery.proofs.mark.Goals as goal
use Rattle.recovery.proofs.mark.Goals.{else-order-weight, then-order-weight}

pub loop-e-init : goal.loop-e-init
unfolding writes
loop-e-init c = (omega arith, refl, refl)

pub loop-e-preserved : goal.loop-e-preserved
loop-e-preserved c =
    let l = c.loop-e in
    let d = c.divide-d in (
      omega (arith, c.loop-e-test.true, l.invariant.1),
      simp length-set l.invariant.1,
      writes_turn c.args.high.now _ l.high l.e _ l.invariant.2
          (elim c.if-order-weight.branch [ then-order-weight v ↦ v.high-is ∙ heavy_one c.args.q c.args.m l.e _ d.ensures.1 v.if-order-weight.true | else-order-weight v ↦ v.high-is ∙ heavy_none c.args.q c.args.m l.e _ d.ensures.1 v.if-order-weight.false ]),
    )
