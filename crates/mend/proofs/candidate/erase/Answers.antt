-- `mend::candidate::erase` meets its contract. The invariant of its loop: the first p are written.
-- Assumes nothing.
use mathlib.Core.Path.{refl}
use native.Mathlib.Omega.{arith}
use lib.ListN.{length-set}
use Rattle.poly.specs.Inner.Ranges.{writes}
use Rattle.poly.proofs.Writes.{writes_turn, writes_kept}
use Rattle.mend.specs.Inner.Locating.{erased_at}
use Rattle.mend.proofs.Erasing.{erase_zero, erase_other}
use Rattle.mend.proofs.candidate.erase.Goals as goal
use Rattle.mend.proofs.candidate.erase.Goals.{else-located-p-eq0, then-located-p-eq0}

pub loop-p-init : goal.loop-p-init
unfolding writes
loop-p-init c = (omega arith, refl, refl)

pub loop-p-preserved : goal.loop-p-preserved
loop-p-preserved c =
    let x = c.args in
    let l = c.loop-p in
    let word = x.word.now in
    let located = x.located.now in
    let kept = writes_kept located (erased_at word located) l.located l.p l.invariant.2 in (
      omega arith,
      simp length-set l.invariant.1,
      writes_turn _ _ l.located l.p _ l.invariant.2
          (elim c.if-located-p-eq0.branch [ then-located-p-eq0 v ↦ erase_zero word located l.p _ _ kept v.if-located-p-eq0.true v.located-is | else-located-p-eq0 v ↦ erase_other word located l.p _ _ kept v.if-located-p-eq0.false v.located-is ]),
    )
