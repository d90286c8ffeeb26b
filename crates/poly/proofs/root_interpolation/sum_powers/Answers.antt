-- `poly::root_interpolation::sum_powers` meets its contract: each turn multiplies the values by their places, and sums them.
-- Assumes nothing.
use native.Mathlib.Omega.{arith}
use Rattle.field.proofs.Fields.{field_of}
use Rattle.poly.proofs.LanePowers.{raised_below}
use Rattle.poly.proofs.RootInterpolation.{summing_first, summing_turn}
use Rattle.poly.proofs.root_interpolation.sum_powers.Goals as goal

pub loop-i-init : goal.loop-i-init
loop-i-init c =
    let x = c.args in
    summing_first (field_of x.q) x.places.now x.values.now x.row.now c.requires _ _
    c.load-v.ensures c.sum.ensures

pub multiply-v-requires : goal.multiply-v-requires
multiply-v-requires c =
    let x = c.args in (
      c.requires.places_below,
      raised_below (field_of x.q) x.places.now x.values.now _ _ c.loop-i.invariant.lanes_are,
    )

pub loop-i-preserved : goal.loop-i-preserved
loop-i-preserved c =
    let l = c.loop-i in
    let x = c.args in
    summing_turn (field_of x.q) x.places.now x.values.now x.row.now c.requires _ l.row l.v l.i l.invariant
    (omega arith) _ _ c.multiply-v.ensures c.sum-in-loop-i.ensures
