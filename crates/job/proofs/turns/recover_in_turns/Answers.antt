-- `job::turns::recover_in_turns` meets its contract: the last call, with a budget that is enough, answers what recovery does.
-- Assumes nothing.
use mathlib.Core.Path.{sym, ap, ◌∙◌}
use Rattle.field.specs.Outcomes.{Outcome}
use Rattle.field.proofs.Outcomes.{not_done, handed_on, err_not_done}
use Rattle.code.specs.Answers.{answered}
use Rattle.job.specs.Task.{stored_word, task_of}
use Rattle.job.proofs.Turning.{carries_all, budget_enough, of_arguments, refused_opening}
use Rattle.job.proofs.turns.recover_in_turns.Goals as goal

pub returns : goal.returns
returns c =
    let x = c.args in
    let o = c.open-opening in
    let j = o.result.job in
    let passes = o.ensures.sound.passes in
    let through = c.carry_through-job in
    let turn = c.carry_on-turn in
    let h = turn.ensures.sound through.ensures.sound in
    of_arguments x.q x.series x.m x.word.now o.result.outcome x.message.now j o.ensures.word_value
    c.in_ok-opening.was
    ∙ carries_all j.q j.series j.m (stored_word j) passes x.message.now through.result through.new.message through.ensures 255
    turn.result.job turn.result.brought turn.result.reply turn.new.message (record { sound = h.0; result = h.1 })
    (budget_enough j.q j.series j.m (stored_word j) passes)
    ∙ ap (λ (y : Outcome). answered y turn.new.message) (sym c.into.ensures)

pub returns-in_err-opening : goal.returns-in_err-opening
returns-in_err-opening c =
    let x = c.args in
    let o = c.open-opening in
    rw (handed_on _ _ c.from_residual.ensures.1 c.in_err-opening.was)
    (refused_opening x.q x.series x.m x.word.now o.result.outcome x.message.now (task_of o.result.job) o.ensures.word_value
    (not_done o.result.outcome (err_not_done c.in_err-opening.was)))
