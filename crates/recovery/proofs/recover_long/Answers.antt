-- `recovery::recover_long` meets its contract: a refusal by the checks is the call's, and the work slice isn't touched; past them all columns are in use.
-- Assumes nothing.
use mathlib.Core.Bool.{true}
use mathlib.Core.Path.{◌≡◌, refl, sym, ◌∙◌}
use Prim.Native.Nat.{◌<◌}
use lib.ListN.{length}
use Rattle.field.proofs.Curves.{long_curve}
use Rattle.code.proofs.FullColumns.{broken_over}
use Rattle.code.proofs.LongRecoveries.{long_refused, long_work, long_passed, kept_open}
use Rattle.code.proofs.Checks.{Accepted, call_done}
use Rattle.code.specs.Terms.{size}
use Rattle.field.proofs.Outcomes.{handed_on, err_not_done}
use Rattle.recovery.proofs.recover_long.Goals as goal
use Rattle.recovery.proofs.recover_long.Goals.{In_ok-call}

-- past the checks but 14
passed : (c : goal.In_ok-call) → let x = c.args in
    (true ≡ true) × (x.m < 512) × Accepted true 64 512 x.word.now (size 8 x.m) (length x.message.now)
passed c =
    let x = c.args in
    let w = call_done true true true 8 x.series x.m x.word.now (length x.message.now) (sym c.call.ensures ∙ c.in_ok-call.was) in
    (w.0, w.1, w.2)

pub returns-in_err-call : goal.returns-in_err-call
returns-in_err-call c =
    let x = c.args in rw (handed_on _ _ c.from_residual.ensures.1 c.in_err-call.was) (record {
      work_value = long_refused x.series x.m x.word.now x.message.now (length x.work.now) _ c.call.ensures (err_not_done c.in_err-call.was);
      kept_unless_worked = λ e. refl;
    })

pub returns-then-work-ne262144 : goal.returns-then-work-ne262144
returns-then-work-ne262144 c =
    let x = c.args in
    record {
      work_value = long_work x.series x.m x.word.now x.message.now (length x.work.now) _ c.call.ensures c.in_ok-call.was c.if-work-ne262144.true;
      kept_unless_worked = λ e. refl;
    }

pub recover_long_over-requires : goal.recover_long_over-requires
recover_long_over-requires c =
    let x = c.args in
    let p = passed (goal.at.recover_long_over-requires c).In_ok-call in
    (broken_over 8 x.series x.m x.word.now _ _ long_curve p.1 p.2, p.2.fits, c.if-work-ne262144.false)

pub returns : goal.returns
returns c =
    let x = c.args in
    let r = c.recover_long_over in record {
      work_value = long_passed x.series x.m x.word.now x.message.now (length x.work.now) _ c.call.ensures c.in_ok-call.was c.if-work-ne262144.false
          ∙ r.ensures;
      kept_unless_worked = kept_open _ x.message.now _ _ _ _ r.ensures;
    }
