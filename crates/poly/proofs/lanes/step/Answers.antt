-- `poly::lanes::step` meets its contract. The invariant of its loop: the first t are written.
-- Assumes nothing.
use mathlib.Core.Path.{refl, ap}
use Prim.Native.Nat.{ℕ}
use native.Mathlib.Omega.{arith}
use lib.ListN.{length-set}
use Rattle.field.specs.Plus.{plus}
use Rattle.poly.specs.Inner.Ranges.{writes}
use Rattle.poly.proofs.Writes.{writes_turn}
use Rattle.poly.proofs.LaneLaws.{lanes_end}
use Rattle.poly.proofs.lanes.step.Goals as goal

pub loop-t-init : goal.loop-t-init
unfolding writes
loop-t-init g c = (omega arith, refl, refl)

pub loop-t-preserved : goal.loop-t-preserved
unfolding plus
loop-t-preserved g c =
    let l = c.loop-t in
    let sum = ap (λ (v : ℕ). plus v c.args.c) c.times.ensures in
    (omega arith, simp length-set l.invariant.1, writes_turn _ _ l.r l.t _ l.invariant.2 sum)

pub returns : goal.returns
returns g c = let l = c.loop-t in lanes_end _ l.r l.t l.invariant.2 l.invariant.0 c.loop-t-test.false
