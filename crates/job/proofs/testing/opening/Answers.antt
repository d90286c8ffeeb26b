-- `job::testing::opening` meets its contract: a refusal by 1, 17 and 2 is the opening's; past them, the call's checks are asked with room for k.
-- Assumes nothing.
use mathlib.Core.Bool.{Bool}
use mathlib.Core.Path.{sym, ap, ◌∙◌}
use Rattle.field.specs.Curve.{is_short}
use Rattle.field.specs.Outcomes.{Done}
use Rattle.field.proofs.Curves.{short_curve, short_of_true}
use Rattle.code.specs.Checks.{order_checks}
use Rattle.code.proofs.Checks.{order_done}
use Rattle.code.proofs.Answers.{order_refused}
use Rattle.field.proofs.Outcomes.{handed_on, err_not_done}
use Rattle.job.proofs.testing.opening.Goals as goal

pub returns-in_err-order : goal.returns-in_err-order
returns-in_err-order c =
    let x = c.args in rw (handed_on _ _ c.from_residual.ensures.1 c.in_err-order.was) (let refused = c.order.ensures ∙ ap (λ (t : Bool). order_checks t x.q x.series x.m Done) c.is_short-taken.ensures in
    order_refused (is_short x.q) x.q x.series x.m _ refused (err_not_done c.in_err-order.was) _)

pub size-requires : goal.size-requires
size-requires c =
    let x = c.args in
    let passed = c.order.ensures ∙ ap (λ (t : Bool). order_checks t x.q x.series x.m Done) c.is_short-taken.ensures in
    short_curve x.q
    (short_of_true x.q (order_done (is_short x.q) x.q x.series x.m (sym passed ∙ c.in_ok-order.was)).0)
