-- `job::turns::carry_through` meets its contract: each call keeps what `Carries` says.
-- Assumes nothing.
use Rattle.job.specs.Task.{stored_word}
use Rattle.job.proofs.Turning.{carries_none, carries_more}
use Rattle.job.proofs.turns.carry_through.Goals as goal

pub loop-budget-init : goal.loop-budget-init
loop-budget-init c = carries_none c.args.job c.args.message.now c.requires

pub loop-budget-preserved : goal.loop-budget-preserved
loop-budget-preserved c =
    let x = c.args in
    let l = c.loop-budget in
    let r = c.carry_on in
    let h = r.ensures.sound l.invariant.sound in
    carries_more x.job.q x.job.series x.job.m (stored_word x.job)
    c.requires.passes x.message.now l.job l.message
    l.invariant _
    r.result.job r.result.brought r.result.reply r.new.message (record { sound = h.0; result = h.1 }) r.auto.message
