-- `poly::lanes::times_z` meets its contract. The invariant of its loop: the first t are written.
-- Assumes nothing.
use mathlib.Core.Path.{refl, ◌∙◌}
use native.Mathlib.Omega.{arith}
use lib.ListN.{length-set}
use Rattle.field.proofs.Halves.{is_times_two}
use Rattle.poly.specs.Inner.Ranges.{writes}
use Rattle.poly.specs.Inner.Linear.{entry}
use Rattle.poly.proofs.Writes.{writes_turn}
use Rattle.poly.proofs.LaneLaws.{lanes_end}
use Rattle.poly.proofs.lanes.times_z.Goals as goal

pub loop-t-init : goal.loop-t-init
unfolding writes
loop-t-init c = (omega arith, refl, refl)

pub loop-t-preserved : goal.loop-t-preserved
loop-t-preserved c =
    let a = c.args in
    let l = c.loop-t in
    let two = c.times_z.ensures ∙ is_times_two a.q (entry a.a.now l.t) (c.requires l.t) in
    (omega arith, simp length-set l.invariant.1, writes_turn _ _ l.r l.t _ l.invariant.2 two)

pub returns : goal.returns
returns c = let l = c.loop-t in lanes_end _ l.r l.t l.invariant.2 l.invariant.0 c.loop-t-test.false
