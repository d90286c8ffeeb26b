-- `recovery::recover` meets its contract: a refusal by the checks is the call's; past them the word with 0 at each gap is interpolated, and the gaps' grids are taken out.
-- Assumes nothing.
use borrow.Author.Rules.{rules}
use mathlib.Core.Bool.{Bool, true}
use mathlib.Core.Path.{◌≡◌, sym, ap, ◌∙◌, subst}
use Prim.Native.Nat.{ℕ, ◌*◌, ◌<◌}
use lib.ListN.{length}
use Rattle.field.specs.Curve.{is_short, IsShort}
use Rattle.field.proofs.Curves.{sizes, short_curve, short_of_true}
use Rattle.field.specs.Outcomes.{Done}
use Rattle.points.specs.Series.{columns_of}
use Rattle.code.specs.Checks.{call_checks}
use Rattle.code.specs.Terms.{size}
use Rattle.code.specs.Word.{word_of}
use Rattle.code.specs.Answers.{answered}
use Rattle.code.specs.Inner.Recovering.{BrokenOver}
use Rattle.code.specs.Recovered.{reading, answer_of, recover_checks, recovered}
use Rattle.code.proofs.Checks.{Accepted, call_done}
use Rattle.code.proofs.Answers.{not_refused, entry_refused}
use Rattle.code.proofs.FullColumns.{broken_over}
use Rattle.field.proofs.Outcomes.{handed_on, err_not_done}
use Rattle.recovery.proofs.GapAnswers.{broken_0}
use Rattle.recovery.proofs.recover.Goals as goal
use Rattle.recovery.proofs.recover.Goals.{After-call, In_ok-call}

-- what is checked
is_checked : (c : goal.After-call) → let x = c.args in c.call.result ≡ recover_checks x.q x.series x.m x.word.now x.message.now
is_checked c =
    let x = c.args in
    c.call.ensures ∙ ap (λ (t : Bool). call_checks t true true x.q x.series x.m x.word.now (length x.message.now) Done) (search rules)

-- past the checks
passed : (c : goal.In_ok-call) → let x = c.args in
    IsShort x.q × (x.m < x.q * x.q * x.q) × Accepted true (x.q * x.q) (x.q * x.q * x.q) x.word.now (size x.q x.m)
    (length x.message.now)
passed c =
    let x = c.args in
    let w = call_done (is_short x.q) true true x.q x.series x.m x.word.now (length x.message.now)
    (sym (is_checked (goal.at.In_ok-call c).After-call) ∙ c.in_ok-call.was) in
    (short_of_true x.q w.0, w.1, w.2)

-- the broken word
broken : (c : goal.In_ok-call) → let x = c.args in
    BrokenOver x.q (columns_of x.q x.series) x.m x.word.now
broken c =
    let x = c.args in
    let p = passed (goal.at.In_ok-call c).In_ok-call in
    broken_over x.q x.series x.m x.word.now _ _ (short_curve _ p.0) p.1 p.2

pub returns-in_err-call : goal.returns-in_err-call
unfolding recovered
returns-in_err-call c =
    let x = c.args in rw (handed_on _ _ c.from_residual.ensures.1 c.in_err-call.was) (entry_refused _ _ x.message.now _ (is_checked (goal.at.returns-in_err-call c).After-call) (err_not_done c.in_err-call.was))

pub known_short_grid-grid-requires : goal.known_short_grid-grid-requires
known_short_grid-grid-requires c = (broken_0 _ _ _ _ (broken (goal.at.known_short_grid-grid-requires c).In_ok-call), (passed (goal.at.known_short_grid-grid-requires c).In_ok-call).0)

pub recover_over-requires : goal.recover_over-requires
recover_over-requires c =
    let p = passed (goal.at.recover_over-requires c).In_ok-call in
    record {
      broken_over = (broken (goal.at.recover_over-requires c).In_ok-call, p.2.fits, p.0);
      known_grid = c.known_short_grid-grid.ensures;
    }

pub returns : goal.returns
unfolding recovered
returns c =
    let x = c.args in
    let r = c.recover_over in
    not_refused _ x.message.now _ (sym (is_checked (goal.at.returns c).After-call) ∙ c.in_ok-call.was)
    ∙ subst (λ (Q : ℕ). answer_of (reading Q (size x.q x.m) (word_of x.q (columns_of x.q x.series) x.m) x.word.now) x.message.now
    ≡ answered r.result r.new.message)
    (sizes x.q (short_curve _ (passed (goal.at.returns c).In_ok-call).0)).size r.ensures
