-- `code::conversion::convert` meets its contract: a refusal by the checks is the call's; past them the word is converted.
-- Assumes nothing.
use mathlib.Core.Path.{◌≡◌, sym, ap, ◌∙◌}
use Prim.Native.Nat.{ℕ, ◌*◌}
use lib.ListN.{length}
use Rattle.field.specs.Outcomes.{Done}
use Rattle.points.specs.Series.{other_series, columns_of}
use Rattle.code.specs.Answers.{answered}
use Rattle.code.specs.Converted.{convert_checks, relisted, converted}
use Rattle.field.proofs.Outcomes.{handed_on, err_not_done}
use Rattle.code.proofs.Answers.{not_refused, entry_refused}
use Rattle.code.proofs.Stages.{not_long_short}
use Rattle.code.proofs.Conversions.{Convertible, convertible}
use Rattle.code.proofs.conversion.convert.Goals as goal
use Rattle.code.proofs.conversion.convert.Goals.{In_ok-check_call}

-- past the checks
done : (c : goal.In_ok-check_call) → let x = c.args in
    convert_checks x.q x.series x.word.now (length x.out.now) ≡ Done
done c = sym c.check_call.ensures ∙ c.in_ok-check_call.was

passed : (c : goal.In_ok-check_call) → let x = c.args in
    Convertible x.q x.series x.word.now (length x.out.now)
passed c = let x = c.args in convertible x.q x.series x.word.now (length x.out.now) (done (goal.at.In_ok-check_call c).In_ok-check_call)

pub returns-in_err-check_call : goal.returns-in_err-check_call
unfolding converted
returns-in_err-check_call c =
    let x = c.args in rw (handed_on _ _ c.from_residual.ensures.1 c.in_err-check_call.was) (entry_refused _ _ x.out.now _ c.check_call.ensures (err_not_done c.in_err-check_call.was))

pub convert_long-requires : goal.convert_long-requires
convert_long-requires c =
    let p = (passed (goal.at.convert_long-requires c).In_ok-check_call).taken in
    let n : ℕ → ℕ = λ q. q * q * q in
    let e = ap n c.if-q-eq8.true in
    (p.long ∙ e, p.fits ∙ e)

pub convert_short-requires : goal.convert_short-requires
convert_short-requires c =
    let p = passed (goal.at.convert_short-requires c).In_ok-check_call in
    (not_long_short _ p.curve c.if-q-eq8.false, p.taken.long, p.taken.fits)

pub returns-then-q-eq8 : goal.returns-then-q-eq8
unfolding converted
returns-then-q-eq8 c =
    let x = c.args in
    let e = ap (λ (q : ℕ). relisted q (columns_of q x.series) (columns_of q (other_series x.series)) x.word.now) c.if-q-eq8.true in
    not_refused _ x.out.now _ (done (goal.at.returns-then-q-eq8 c).In_ok-check_call) ∙ ap (answered Done) (e ∙ sym c.convert_long.ensures)

pub returns-else-q-eq8 : goal.returns-else-q-eq8
unfolding converted
returns-else-q-eq8 c =
    let x = c.args in
    not_refused _ x.out.now _ (done (goal.at.returns-else-q-eq8 c).In_ok-check_call) ∙ ap (answered Done) (sym c.convert_short.ensures)
