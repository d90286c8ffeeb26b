-- `poly::rows::add` meets its contract. The invariant of its loop: the first j are written.
-- Assumes nothing.
use mathlib.Core.Path.{refl}
use native.Mathlib.Omega.{arith}
use lib.ListN.{length-set}
use Rattle.field.specs.Plus.{plus}
use Rattle.poly.specs.Inner.Ranges.{writes}
use Rattle.poly.specs.Inner.Rows.{summed}
use Rattle.poly.proofs.Writes.{writes_turn, writes_kept, writes_end}
use Rattle.poly.proofs.rows.add.Goals as goal

pub loop-j-init : goal.loop-j-init
unfolding writes
loop-j-init c = (omega arith, refl, refl)

pub loop-j-preserved : goal.loop-j-preserved
unfolding plus
loop-j-preserved c =
    let l = c.loop-j in
    let kept = writes_kept _ _ l.dst l.j l.invariant.2 in
    (omega arith, simp length-set l.invariant.1, writes_turn _ _ l.dst l.j _ l.invariant.2 (cc kept))

pub returns : goal.returns
unfolding summed
returns c = writes_end _ _ _ _ _ c.loop-j.invariant.2 c.loop-j.invariant.0 c.loop-j-test.false
