-- `session::open` meets its contract: the outcome of the checks 1, 17 and 2 decides which session is handed back.
-- Assumes nothing.
use mathlib.Core.Bool.{Bool}
use mathlib.Core.Path.{sym, ap, ◌∙◌}
use Rattle.field.specs.Outcomes.{Done}
use Rattle.field.proofs.Outcomes.{not_done, err_not_done}
use Rattle.code.specs.Checks.{order_checks}
use Rattle.session.proofs.Arrivals.{opened_done, opened_refused}
use Rattle.session.proofs.open.Goals as goal

pub returns-in-Ok : goal.returns-in-Ok
returns-in-Ok c =
    let x = c.args in
    let done = c.order-outcome.ensures ∙ ap (λ (t : Bool). order_checks t x.q x.series x.m Done) c.is_short.ensures in
    rw c.empty_session-session.ensures (sym (opened_done x.q x.series x.m _ done c.in-Ok.is))

pub returns-in-Err : goal.returns-in-Err
returns-in-Err c =
    let x = c.args in
    let refused = c.order-outcome.ensures ∙ ap (λ (t : Bool). order_checks t x.q x.series x.m Done) c.is_short.ensures in
    rw c.empty_session-session-in-Err.ensures (sym (opened_refused x.q x.series x.m _ refused (not_done c.order-outcome.result (err_not_done c.in-Err.is))))
