-- `poly::lanes::add_scaled` meets its contract. The invariant of its loop: the first t are written.
-- Assumes nothing.
use mathlib.Core.Path.{refl}
use native.Mathlib.Omega.{arith}
use lib.ListN.{get_or-replicate, length-set}
use Rattle.field.specs.Plus.{plus}
use Rattle.poly.specs.Inner.Ranges.{writes}
use Rattle.poly.proofs.Writes.{writes_turn}
use Rattle.poly.proofs.LaneLaws.{lanes_end}
use Rattle.poly.proofs.lanes.add_scaled.Goals as goal

pub loop-t-init : goal.loop-t-init
unfolding writes
loop-t-init c = (omega arith, refl, refl)

pub loop-t-preserved : goal.loop-t-preserved
unfolding plus
loop-t-preserved c =
    let l = c.loop-t in
    let same = get_or-replicate 16 l.t c.args.c 0 c.loop-t-test.true in
    (omega arith, simp length-set l.invariant.1, writes_turn _ _ l.r l.t _ l.invariant.2 (cc (same, c.times.ensures)))

pub returns : goal.returns
returns c = let l = c.loop-t in lanes_end _ l.r l.t l.invariant.2 l.invariant.0 c.loop-t-test.false
