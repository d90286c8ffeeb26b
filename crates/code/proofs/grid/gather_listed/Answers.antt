-- `code::grid::gather_listed` meets its contract: the coefficients at the first n entries are gathered.
-- Assumes nothing.
use mathlib.Core.Path.{refl}
use native.Mathlib.Omega.{arith}
use Rattle.poly.specs.Inner.Ranges.{writes}
use Rattle.poly.proofs.Writes.{writes_turn}
use Rattle.code.specs.Inner.Grid.{listed}
use Rattle.code.proofs.grid.gather_listed.Goals as goal

pub loop-n-init : goal.loop-n-init
unfolding writes
loop-n-init c = (omega arith, refl)

pub loop-n-preserved : goal.loop-n-preserved
loop-n-preserved c =
    let l = c.loop-n in
    let x = c.args in (
      omega (arith, c.loop-n-test.true),
      writes_turn x.out.now (listed x.entries.now x.grid.now) l.out l.n _
          l.invariant.1 refl,
    )
