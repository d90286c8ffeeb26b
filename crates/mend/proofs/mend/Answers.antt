-- `mend::mend` meets its contract: a refusal by the checks is the call's; past them the word is mended.
-- Assumes nothing.
use mathlib.Core.Path.{refl, sym, ◌∙◌}
use Rattle.std.proofs.lemmas.Result.{err_from_is_err_and}
use Rattle.field.proofs.Outcomes.{err_not_done}
use Rattle.mend.proofs.Answering.{answered_refused}
use Rattle.mend.proofs.mend.Goals as goal

pub returns-in_err-check_call : goal.returns-in_err-check_call
returns-in_err-check_call c =
    let x = c.args in
    let p = err_from_is_err_and c.from_residual.result c.from_residual.ensures.1 in
    rw (p.1, p.2)
    (answered_refused x.q x.series x.m x.word.now x.message.now x.codeword.now x.marks.now _ (sym c.in_err-check_call.was ∙ c.check_call.ensures)
    (err_not_done refl))
