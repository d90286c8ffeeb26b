-- `chosen_columns::encode_on` meets its contract: a refusal by the checks is the call's; past them the word is written.
-- Assumes nothing.
use mathlib.Core.Path.{◌≡◌, sym, ap, ◌∙◌}
use lib.ListN.{length}
use mathlib.Core.Bool.{false}
use Rattle.field.specs.Outcomes.{Done}
use Rattle.code.specs.Answers.{answered}
use Rattle.code.proofs.Answers.{not_refused, entry_refused}
use Rattle.chosen_columns.specs.ColumnLists.{on_checks}
use Rattle.chosen_columns.specs.EncodedOn.{encoded_on}
use Rattle.field.proofs.Outcomes.{handed_on, err_not_done}
use Rattle.chosen_columns.proofs.Checking.{checks_passed}
use Rattle.chosen_columns.proofs.Answering.{encodable}
use Rattle.chosen_columns.proofs.encode_on.Goals as goal
use Rattle.chosen_columns.proofs.encode_on.Goals.{In_ok-check_call}

-- past the checks
done : (c : goal.In_ok-check_call) → let x = c.args in
    on_checks false false x.q x.columns.now x.m x.message.now (length x.word.now) ≡ Done
done c = sym c.check_call.ensures ∙ c.in_ok-check_call.was

pub returns-in_err-check_call : goal.returns-in_err-check_call
unfolding encoded_on
returns-in_err-check_call c =
    let x = c.args in rw (handed_on _ _ c.from_residual.ensures.1 c.in_err-check_call.was) (entry_refused _ _ x.word.now _ c.check_call.ensures (err_not_done c.in_err-check_call.was))

pub write_word_over-requires : goal.write_word_over-requires
write_word_over-requires c =
    let x = c.args in
    let p = checks_passed _ _ _ _ _ _ _ (done (goal.at.write_word_over-requires c).In_ok-check_call) in
    (encodable x.q x.columns.now x.m x.message.now x.word.now p, p.short)

pub returns : goal.returns
unfolding encoded_on
returns c =
    let x = c.args in
    not_refused _ x.word.now _ (done (goal.at.returns c).In_ok-check_call) ∙ ap (answered Done) (sym c.write_word_over.ensures)
