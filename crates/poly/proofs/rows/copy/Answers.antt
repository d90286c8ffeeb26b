-- `poly::rows::copy` meets its contract. The invariant of its loop: the first j are written.
-- Assumes nothing.
use mathlib.Core.Path.{refl}
use native.Mathlib.Omega.{arith}
use lib.ListN.{length-set}
use Rattle.poly.specs.Inner.Ranges.{writes}
use Rattle.poly.specs.Inner.Rows.{stored}
use Rattle.poly.proofs.Writes.{writes_turn, writes_end}
use Rattle.poly.proofs.rows.copy.Goals as goal

pub loop-j-init : goal.loop-j-init
unfolding writes
loop-j-init c = (omega arith, refl, refl)

pub loop-j-preserved : goal.loop-j-preserved
loop-j-preserved c =
    let l = c.loop-j in
    (omega arith, simp length-set l.invariant.1, writes_turn _ _ l.dst l.j _ l.invariant.2 refl)

pub returns : goal.returns
unfolding stored
returns c = writes_end _ _ _ _ _ c.loop-j.invariant.2 c.loop-j.invariant.0 c.loop-j-test.false
