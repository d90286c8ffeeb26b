-- `linear::system::reduce` meets its contract. The invariant of its loop is `Reducing`, and a turn is a lemma of `Reduction`.
-- Assumes nothing.
use Prim.Native.Nat.{◌*◌}
use native.Mathlib.Omega.{arith}
use Rattle.linear.proofs.Reduction.{reducing_turn}
use Rattle.linear.proofs.system.reduce.Goals as goal

pub loop-i-preserved-then-c-ne0 : goal.loop-i-preserved-then-c-ne0
loop-i-preserved-then-c-ne0 c =
    let l = c.loop-i in
    rw c.add_scaled.ensures
    (reducing_turn _ c.args.stride c.args.k c.args.work.now c.args.row.now c.requires.well_formed.0 c.requires.well_formed.1 l.row l.i l.invariant
    c.loop-i-test.true (16 * c.args.blocks) c.requires.k_bound.0 c.requires.k_bound.1
    (omega (arith, l.invariant.long, c.requires.k_bound.2)) c.if-work-base-eq0.false)
