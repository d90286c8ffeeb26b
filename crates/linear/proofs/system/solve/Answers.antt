-- `linear::system::solve` meets its contract. The invariant of its loop is `Solving`, and a turn is a lemma of `Substitution`.
-- Assumes nothing.
use native.Mathlib.Nat.{le_antisymm}
use Rattle.linear.proofs.Substitution.{solving_turn, solved}
use Rattle.linear.proofs.system.solve.Goals as goal

pub loop-p-preserved : goal.loop-p-preserved
loop-p-preserved c =
    let l = c.loop-p in
    solving_turn _ c.args.stride c.args.k c.args.work.now c.requires.0 c.args.message.now
    l.message l.p c.dot.result c.requires.1 l.invariant
    c.loop-p-test.true c.dot.ensures

pub returns : goal.returns
returns c =
    let l = c.loop-p in
    solved _ c.args.stride c.args.k c.args.work.now c.requires.0 c.args.message.now l.message
    (rw (le_antisymm l.invariant.within c.loop-p-test.false) at l.invariant)
