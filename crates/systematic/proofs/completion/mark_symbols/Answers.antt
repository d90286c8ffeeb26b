-- `systematic::completion::mark_symbols` meets its contract. The invariant of its loop: the first p are written.
-- Assumes nothing.
use mathlib.Core.Path.{refl, ◌∙◌}
use Prim.Native.Nat.{◌*◌}
use native.Mathlib.Omega.{arith}
use lib.ListN.{length-set}
use Rattle.poly.specs.Lists.{one_if}
use Rattle.poly.specs.Inner.Ranges.{writes}
use Rattle.poly.proofs.Writes.{writes_turn}
use Rattle.code.specs.Inner.Recovering.{present}
use Rattle.systematic.proofs.TermSystems.{mark_gap, mark_symbol}
use Rattle.systematic.proofs.completion.mark_symbols.Goals as goal
use Rattle.systematic.proofs.completion.mark_symbols.Goals.{else-word-p, then-word-p}

pub loop-p-init : goal.loop-p-init
unfolding writes
loop-p-init c = (omega arith, refl, refl)

pub loop-p-preserved : goal.loop-p-preserved
loop-p-preserved c =
    let l = c.loop-p in
    let word = c.args.word.now in (
      omega (arith, c.loop-p-test.true),
      simp length-set l.invariant.1,
      writes_turn c.args.high.now (λ p. 255 * one_if (present word p)) l.high l.p _ l.invariant.2
          (elim c.if-word-p.branch [ then-word-p v ↦ v.high-is ∙ mark_gap word l.p v.if-word-p.true | else-word-p v ↦ v.high-is ∙ mark_symbol word l.p v.if-word-p.false ]),
    )
