-- `dual::term_sums::add_powers` meets its contract: each turn adds the lanes to one row and multiplies them by their places.
-- Assumes nothing.
use mathlib.Core.Path.{refl}
use Prim.Native.Nat.{◌+◌, ◌≤◌}
use native.Mathlib.Omega.{arith}
use lib.ListN.{length}
use Rattle.field.proofs.Fields.{field_of}
use Rattle.poly.proofs.Blocks.{block_start, block_fits}
use Rattle.poly.proofs.LanePowers.{raised_below}
use Rattle.dual.proofs.StagedSums.{adding_none, adding_turn}
use Rattle.dual.proofs.term_sums.add_powers.Goals as goal
use Rattle.dual.proofs.term_sums.add_powers.Goals.{In-loop-j}

-- the row is within rows
fits : (c : goal.In-loop-j) → c.loop-j.at + 16 ≤ length c.loop-j.rows
fits c =
    let l = c.loop-j in
    omega (arith, l.invariant.1, l.invariant.2.long, c.requires.values_len.1, block_fits 16 l.j c.args.q c.loop-j-test.true)

pub loop-j-init : goal.loop-j-init
loop-j-init c =
    let x = c.args in
    (omega arith, refl, adding_none (field_of x.q) x.places.now x.values x.rows.now c.requires.values_len.0 c.requires.below.1 c.requires.below.2)

pub multiply-v-requires : goal.multiply-v-requires
multiply-v-requires c =
    let l = c.loop-j in
    (c.requires.below.0, raised_below (field_of c.args.q) c.args.places.now c.args.values l.v l.j l.invariant.2.lanes_are)

pub loop-j-preserved : goal.loop-j-preserved
loop-j-preserved c =
    let l = c.loop-j in
    let e = c.add in (
      omega (arith, c.loop-j-test.true),
      block_start 16 l.j l.at (l.at + 16) l.invariant.1 refl,
      adding_turn (field_of c.args.q) c.args.places.now c.args.values c.args.rows.now l.rows l.v e.new.dst _ l.j l.at l.invariant.2
          l.invariant.1 (fits (goal.at.loop-j-preserved c).In-loop-j) e.ensures c.multiply-v.ensures,
    )
