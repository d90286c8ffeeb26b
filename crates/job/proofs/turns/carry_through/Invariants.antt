-- `job::turns::carry_through` meets its contract: each call keeps what `Carries` says.
use Rattle.job.specs.Task.{stored_word}
use Rattle.job.specs.Inner.Turns.{Carries}
use Rattle.job.proofs.turns.carry_through.Given as goal

abbrev pub invariant-loop-budget : goal.invariant-loop-budget
invariant-loop-budget l =
    Carries l.initial.job.q l.initial.job.series l.initial.job.m (stored_word l.initial.job) l.initial.message l.job l.message
