-- `code::unencoding::unencode` meets its contract: a refusal by the checks is the call's; past them the word is read.
-- Assumes nothing.
use mathlib.Core.Bool.{Bool, true, false, false≢true}
use mathlib.Core.Path.{◌≡◌, sym, ap, ◌∙◌, subst}
use Prim.Native.Nat.{ℕ, ◌*◌, ◌<◌}
use lib.ListN.{length}
use Rattle.field.specs.Curve.{IsCurve, IsShort}
use Rattle.field.specs.Outcomes.{Done}
use Rattle.field.proofs.Curves.{curve_of_true}
use Rattle.points.specs.Series.{columns_of}
use Rattle.code.specs.Terms.{size}
use Rattle.code.specs.Checks.{call_checks}
use Rattle.code.specs.Inner.Readable.{Readable, read_over}
use Rattle.code.specs.Unencoded.{unencode_checks, unencoded}
use Rattle.field.proofs.Outcomes.{handed_on, err_not_done}
use Rattle.code.proofs.Checks.{Accepted, call_done}
use Rattle.code.proofs.Answers.{not_refused, entry_refused}
use Rattle.code.proofs.FullColumns.{readable}
use Rattle.code.proofs.Stages.{not_long_short}
use Rattle.code.proofs.unencoding.unencode.Goals as goal
use Rattle.code.proofs.unencoding.unencode.Goals.{After-call, Else-q-eq8, In_ok-call}

-- what was checked are the checks of the call
checked : (c : goal.After-call) → let x = c.args in
    c.call.result ≡ unencode_checks x.q x.series x.m x.word.now x.message.now
checked c =
    let x = c.args in
    c.call.ensures
    ∙ ap (λ (taken : Bool). call_checks taken false true x.q x.series x.m x.word.now (length x.message.now) Done) c.is_curve-taken.ensures

-- past them
done : (c : goal.In_ok-call) → let x = c.args in
    unencode_checks x.q x.series x.m x.word.now x.message.now ≡ Done
done c = sym (checked (goal.at.In_ok-call c).After-call) ∙ c.in_ok-call.was

passed : (c : goal.In_ok-call) → let x = c.args in
    IsCurve x.q × (x.m < x.q * x.q * x.q) × Accepted false (x.q * x.q) (x.q * x.q * x.q) x.word.now (size x.q x.m) (length x.message.now)
passed c =
    let x = c.args in
    let p = call_done _ false true x.q x.series x.m x.word.now (length x.message.now) (done (goal.at.In_ok-call c).In_ok-call) in
    (curve_of_true x.q p.0, p.1, p.2)

ready : (c : goal.In_ok-call) → let x = c.args in
    Readable x.q (columns_of x.q x.series) x.m x.word.now x.message.now
ready c =
    let x = c.args in
    let p = passed (goal.at.In_ok-call c).In_ok-call in
    readable x.q x.series x.m x.word.now x.message.now p.0 p.1 p.2

short : (c : goal.Else-q-eq8) → IsShort c.args.q
short c = not_long_short c.args.q (passed (goal.at.Else-q-eq8 c).In_ok-call).0 c.if-q-eq8.false

pub returns-in_err-call : goal.returns-in_err-call
unfolding unencoded
returns-in_err-call c =
    let x = c.args in rw (handed_on _ _ c.from_residual.ensures.1 c.in_err-call.was) (entry_refused _ _ x.message.now _ (checked (goal.at.returns-in_err-call c).After-call) (err_not_done c.in_err-call.was))

pub run-requires : goal.run-requires
run-requires c =
    let x = c.args in record {
      readable = λ e. subst (λ (q : ℕ). Readable q (columns_of q x.series) x.m x.word.now x.message.now) c.if-q-eq8.true (ready (goal.at.run-requires c).In_ok-call);
      encodable = λ e. absurd (false≢true (sym e));
    }

pub returns-then-q-eq8 : goal.returns-then-q-eq8
unfolding unencoded
returns-then-q-eq8 c =
    let x = c.args in
    let e = ap (λ (q : ℕ). read_over q (columns_of q x.series) x.m x.word.now x.message.now) c.if-q-eq8.true in
    not_refused _ x.message.now _ (done (goal.at.returns-then-q-eq8 c).In_ok-call) ∙ e ∙ c.run.ensures

pub read_word-requires : goal.read_word-requires
read_word-requires c = (ready (goal.at.read_word-requires c).In_ok-call, short (goal.at.read_word-requires c).Else-q-eq8)

pub returns : goal.returns
unfolding unencoded
returns c =
    let x = c.args in
    not_refused _ x.message.now _ (done (goal.at.returns c).In_ok-call) ∙ c.read_word.ensures
