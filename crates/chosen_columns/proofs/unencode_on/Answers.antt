-- `chosen_columns::unencode_on` meets its contract: a refusal by the checks is the call's; past them the word is read.
-- Assumes nothing.
use mathlib.Core.Path.{◌≡◌, sym, ◌∙◌}
use lib.ListN.{length}
use mathlib.Core.Bool.{true, false}
use Rattle.field.specs.Outcomes.{Done}
use Rattle.code.proofs.Answers.{not_refused, entry_refused}
use Rattle.chosen_columns.specs.ColumnLists.{on_checks}
use Rattle.chosen_columns.specs.UnencodedOn.{unencoded_on}
use Rattle.field.proofs.Outcomes.{handed_on, err_not_done}
use Rattle.chosen_columns.proofs.Checking.{checks_passed}
use Rattle.chosen_columns.proofs.Answering.{readable}
use Rattle.chosen_columns.proofs.unencode_on.Goals as goal
use Rattle.chosen_columns.proofs.unencode_on.Goals.{In_ok-check_call}

-- past the checks
done : (c : goal.In_ok-check_call) → let x = c.args in
    on_checks false true x.q x.columns.now x.m x.word.now (length x.message.now) ≡ Done
done c = sym c.check_call.ensures ∙ c.in_ok-check_call.was

pub returns-in_err-check_call : goal.returns-in_err-check_call
unfolding unencoded_on
returns-in_err-check_call c =
    let x = c.args in rw (handed_on _ _ c.from_residual.ensures.1 c.in_err-check_call.was) (entry_refused _ _ x.message.now _ c.check_call.ensures (err_not_done c.in_err-check_call.was))

pub read_word-requires : goal.read_word-requires
read_word-requires c =
    let x = c.args in
    let p = checks_passed _ _ _ _ _ _ _ (done (goal.at.read_word-requires c).In_ok-check_call) in
    (readable x.q x.columns.now x.m x.word.now x.message.now p, p.short, p.list.some)

pub returns : goal.returns
unfolding unencoded_on
returns c =
    let x = c.args in
    not_refused _ x.message.now _ (done (goal.at.returns c).In_ok-check_call) ∙ c.read_word.ensures
