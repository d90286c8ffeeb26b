-- `chosen_columns::recover_on` meets its contract: a refusal by the checks is the call's; past them the same messages fit over all columns.
-- Assumes nothing.
use mathlib.Core.Path.{◌≡◌, sym, ◌∙◌, subst}
use Prim.Native.Nat.{ℕ}
use lib.ListN.{length}
use mathlib.Core.Bool.{true}
use Rattle.field.specs.Outcomes.{Done}
use Rattle.field.proofs.Curves.{sizes, short_curve}
use Rattle.code.specs.Answers.{answered}
use Rattle.code.specs.Recovered.{reading, answer_of}
use Rattle.code.specs.Terms.{size}
use Rattle.code.specs.Word.{word_of}
use Rattle.code.proofs.Answers.{not_refused, entry_refused}
use Rattle.chosen_columns.specs.ColumnLists.{on_checks}
use Rattle.chosen_columns.specs.RecoveredOn.{recovered_on}
use Rattle.field.proofs.Outcomes.{handed_on, err_not_done}
use Rattle.chosen_columns.proofs.Checking.{checks_passed}
use Rattle.chosen_columns.proofs.Answering.{broken_over}
use Rattle.chosen_columns.proofs.recover_on.Goals as goal
use Rattle.chosen_columns.proofs.recover_on.Goals.{In_ok-check_call}

-- past the checks
done : (c : goal.In_ok-check_call) → let x = c.args in
    on_checks true true x.q x.columns.now x.m x.word.now (length x.message.now) ≡ Done
done c = sym c.check_call.ensures ∙ c.in_ok-check_call.was

pub returns-in_err-check_call : goal.returns-in_err-check_call
unfolding recovered_on
returns-in_err-check_call c =
    let x = c.args in rw (handed_on _ _ c.from_residual.ensures.1 c.in_err-check_call.was) (entry_refused _ _ x.message.now _ c.check_call.ensures (err_not_done c.in_err-check_call.was))

pub recover_over-requires : goal.recover_over-requires
recover_over-requires c =
    let x = c.args in
    let p = checks_passed _ _ _ _ _ _ _ (done (goal.at.recover_over-requires c).In_ok-check_call) in
    (broken_over x.q x.columns.now x.m x.word.now x.message.now p, p.short, p.accepted.fits)

pub returns : goal.returns
unfolding recovered_on
returns c =
    let x = c.args in
    let r = c.recover_over in
    let p = checks_passed _ _ _ _ _ _ _ (done (goal.at.returns c).In_ok-check_call) in
    not_refused _ x.message.now _ (done (goal.at.returns c).In_ok-check_call)
    ∙ subst (λ (Q : ℕ). answer_of (reading Q (size x.q x.m) (word_of x.q x.columns.now x.m) x.word.now) x.message.now
    ≡ answered r.result r.new.message)
    (sizes x.q (short_curve _ p.short)).size r.ensures
