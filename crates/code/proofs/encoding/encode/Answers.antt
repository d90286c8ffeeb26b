-- `code::encoding::encode` meets its contract: a refusal by the checks is the call's; past them the word is written.
-- Assumes nothing.
use mathlib.Core.Bool.{Bool, false, false≢true}
use mathlib.Core.Path.{◌≡◌, sym, ap, ◌∙◌, subst}
use Prim.Native.Nat.{ℕ, ◌*◌, ◌<◌}
use lib.ListN.{length}
use Rattle.field.specs.Curve.{IsCurve, IsShort}
use Rattle.field.specs.Outcomes.{Done}
use Rattle.field.proofs.Curves.{curve_of_true}
use Rattle.points.specs.Series.{columns_of}
use Rattle.code.specs.Terms.{size}
use Rattle.code.specs.Word.{word_of}
use Rattle.code.specs.Answers.{answered}
use Rattle.code.specs.Checks.{call_checks}
use Rattle.code.specs.Inner.Encodable.{Encodable}
use Rattle.code.specs.Encoded.{encode_checks, encoded}
use Rattle.field.proofs.Outcomes.{handed_on, err_not_done}
use Rattle.code.proofs.Checks.{Accepted, call_done}
use Rattle.code.proofs.Answers.{not_refused, entry_refused}
use Rattle.code.proofs.FullColumns.{encodable}
use Rattle.code.proofs.Stages.{not_long_short}
use Rattle.code.proofs.encoding.encode.Goals as goal
use Rattle.code.proofs.encoding.encode.Goals.{After-call, Else-q-eq8, In_ok-call}

-- what was checked are the checks of the call
checked : (c : goal.After-call) → let x = c.args in
    c.call.result ≡ encode_checks x.q x.series x.m x.message.now x.word.now
checked c =
    let x = c.args in
    c.call.ensures
    ∙ ap (λ (taken : Bool). call_checks taken false false x.q x.series x.m x.message.now (length x.word.now) Done) c.is_curve-taken.ensures

-- past them
done : (c : goal.In_ok-call) → let x = c.args in
    encode_checks x.q x.series x.m x.message.now x.word.now ≡ Done
done c = sym (checked (goal.at.In_ok-call c).After-call) ∙ c.in_ok-call.was

passed : (c : goal.In_ok-call) → let x = c.args in
    IsCurve x.q × (x.m < x.q * x.q * x.q) × Accepted false (x.q * x.q) (size x.q x.m) x.message.now (x.q * x.q * x.q) (length x.word.now)
passed c =
    let x = c.args in
    let p = call_done _ false false x.q x.series x.m x.message.now (length x.word.now) (done (goal.at.In_ok-call c).In_ok-call) in
    (curve_of_true x.q p.0, p.1, p.2)

ready : (c : goal.In_ok-call) → let x = c.args in
    Encodable x.q (columns_of x.q x.series) x.m x.message.now x.word.now
ready c =
    let x = c.args in
    let p = passed (goal.at.In_ok-call c).In_ok-call in
    encodable x.q x.series x.m x.message.now x.word.now p.0 p.1 p.2

short : (c : goal.Else-q-eq8) → IsShort c.args.q
short c = not_long_short c.args.q (passed (goal.at.Else-q-eq8 c).In_ok-call).0 c.if-q-eq8.false

pub returns-in_err-call : goal.returns-in_err-call
unfolding encoded
returns-in_err-call c =
    let x = c.args in rw (handed_on _ _ c.from_residual.ensures.1 c.in_err-call.was) (entry_refused _ _ x.word.now _ (checked (goal.at.returns-in_err-call c).After-call) (err_not_done c.in_err-call.was))

pub run-requires : goal.run-requires
run-requires c =
    let x = c.args in record {
      readable = λ e. absurd (false≢true e);
      encodable = λ e. subst (λ (q : ℕ). Encodable q (columns_of q x.series) x.m x.message.now x.word.now) c.if-q-eq8.true (ready (goal.at.run-requires c).In_ok-call);
    }

pub returns-then-q-eq8 : goal.returns-then-q-eq8
unfolding encoded
returns-then-q-eq8 c =
    let x = c.args in
    let e = ap (λ (q : ℕ). word_of q (columns_of q x.series) x.m x.message.now) c.if-q-eq8.true in
    not_refused _ x.word.now _ (done (goal.at.returns-then-q-eq8 c).In_ok-call) ∙ ap (answered Done) e ∙ c.run.ensures

pub write_word-requires : goal.write_word-requires
write_word-requires c = (ready (goal.at.write_word-requires c).In_ok-call, short (goal.at.write_word-requires c).Else-q-eq8)

pub returns : goal.returns
unfolding encoded
returns c =
    let x = c.args in
    not_refused _ x.word.now _ (done (goal.at.returns c).In_ok-call) ∙ ap (answered Done) (sym c.write_word.ensures)
