-- `systematic::encode_at` meets its contract: a refusal by the checks is the call's; past them the codeword is written, or 16 answered.
-- Assumes nothing.
use Rattle.field.proofs.Outcomes.{handed_on, err_not_done}
use Rattle.systematic.proofs.Encodings.{encoded_refused}
use Rattle.systematic.proofs.encode_at.Goals as goal

pub returns-in_err-check_call : goal.returns-in_err-check_call
returns-in_err-check_call c =
    let x = c.args in rw (handed_on _ _ c.from_residual.ensures.1 c.in_err-check_call.was) (encoded_refused x.q x.series x.m x.places.now x.symbols.now x.word.now _ c.check_call.ensures (err_not_done c.in_err-check_call.was))
