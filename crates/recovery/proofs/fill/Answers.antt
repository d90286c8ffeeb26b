-- `recovery::fill` meets its contract. The invariant of its loop: the first p are written.
-- Assumes nothing.
use mathlib.Core.Path.{refl, ◌∙◌}
use native.Mathlib.Omega.{arith}
use lib.ListN.{length-set}
use Rattle.poly.specs.Inner.Ranges.{writes}
use Rattle.poly.proofs.Writes.{writes_turn}
use Rattle.recovery.specs.Inner.Gaps.{known}
use Rattle.recovery.proofs.IndicatorRows.{known_gap, known_symbol}
use Rattle.recovery.proofs.fill.Goals as goal
use Rattle.recovery.proofs.fill.Goals.{else-s, then-s}

pub loop-p-init : goal.loop-p-init
unfolding writes
loop-p-init c = (omega arith, refl, refl)

pub loop-p-preserved : goal.loop-p-preserved
loop-p-preserved c =
    let l = c.loop-p in
    let word = c.args.word.now in (
      omega (arith, c.loop-p-test.true),
      simp length-set l.invariant.1,
      writes_turn c.args.out.now (known word) l.out l.p _ l.invariant.2
          (elim c.if-s.branch [ then-s v ↦ v.out-is ∙ known_gap word l.p v.if-s.true | else-s v ↦ v.out-is ∙ known_symbol word l.p v.if-s.false ]),
    )
