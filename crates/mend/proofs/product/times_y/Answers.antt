-- `mend::product::times_y` meets its contract: entry by entry. Assumes nothing.
use mathlib.Core.Path.{refl, ap₂, ◌∙◌}
use native.Mathlib.Omega.{arith}
use Rattle.poly.specs.Inner.Ranges.{writes}
use Rattle.poly.proofs.Writes.{writes_turn}
use Rattle.mend.specs.Inner.Products.{times_y_at}
use Rattle.mend.proofs.product.times_y.Goals as goal

pub loop-e-init : goal.loop-e-init
unfolding writes
loop-e-init c = (omega arith, refl)

pub loop-e-preserved : goal.loop-e-preserved
loop-e-preserved c =
    let l = c.loop-e in
    let d = c.divide-d.ensures in (
      omega arith,
      writes_turn _ _ l.r l.e _ l.invariant.1
          (c.times_y_at.ensures ∙ ap₂ (times_y_at c.args.q c.args.grid.now) d.0 d.1),
    )
