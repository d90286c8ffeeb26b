-- `mend::difference::mark` meets its contract. The invariant of its loop: the marks of the places below p are written.
-- Assumes nothing.
use mathlib.Core.Path.{refl, ◌∙◌}
use native.Mathlib.Omega.{arith}
use lib.ListN.{length-set}
use Rattle.poly.specs.Inner.Ranges.{writes}
use Rattle.poly.proofs.Writes.{writes_turn}
use Rattle.mend.proofs.Marks.{mark_at, mark_same, mark_differs, marks_end}
use Rattle.mend.proofs.difference.mark.Goals as goal
use Rattle.mend.proofs.difference.mark.Goals.{else-a-p, then-a-p}

pub loop-p-init : goal.loop-p-init
unfolding writes
loop-p-init c = (omega arith, refl, refl)

pub loop-p-preserved : goal.loop-p-preserved
loop-p-preserved c =
    let l = c.loop-p in
    let x = c.args in
    let a = x.a.now in
    let b = x.b.now in (
      omega arith,
      simp length-set l.invariant.1,
      writes_turn x.marks.now (mark_at a b) l.marks l.p _ l.invariant.2
          (elim c.if-a-p.branch [ then-a-p v ↦ v.marks-is ∙ mark_same a b l.p v.if-a-p.true | else-a-p v ↦ v.marks-is ∙ mark_differs a b l.p v.if-a-p.false ]),
    )

pub returns : goal.returns
returns c =
    let l = c.loop-p in
    let x = c.args in
    marks_end x.a.now x.b.now x.marks.now l.marks l.p c.requires.1 l.invariant.2 l.invariant.0 c.loop-p-test.false
