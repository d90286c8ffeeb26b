-- `code::check::call` meets its contract: a refusal by 1, 17 and 2 is the call's; past them, 3, 4 and 5 decide.
-- Assumes nothing.
use mathlib.Core.Bool.{Bool, true, cond}
use mathlib.Core.Path.{◌≡◌, sym, ap, ◌∙◌}
use Prim.Native.Nat.{◌*◌, ◌<◌}
use native.Mathlib.Omega.{arith}
use Rattle.field.specs.Curve.{IsCurve}
use Rattle.field.specs.declared.curve.Curve.{Curve}
use Rattle.field.specs.Outcomes.{Done}
use Rattle.field.proofs.Curves.{sizes}
use Rattle.points.specs.Series.{is_series}
use Rattle.code.specs.Terms.{size}
use Rattle.code.specs.Checks.{slice_checks}
use Rattle.field.proofs.Outcomes.{handed_on, err_not_done}
use Rattle.code.proofs.Weights.{size_le}
use Rattle.code.proofs.Checks.{order_done, call_past}
use Rattle.code.proofs.Answers.{order_refused}
use Rattle.code.proofs.check.call.Goals as goal
use Rattle.code.proofs.check.call.Goals.{In_ok-order}

-- past the checks 1, 17 and 2
ordered : (c : goal.In_ok-order) → let x = c.args in (x.taken ≡ true) × (x.m < x.q * x.q * x.q) × (is_series x.series ≡ true)
ordered c =
    let x = c.args in
    order_done x.taken x.q x.series x.m (sym c.order.ensures ∙ c.in_ok-order.was)

curve : (c : goal.In_ok-order) → IsCurve c.args.q
curve c = c.requires (ordered (goal.at.In_ok-order c).In_ok-order).0

pub returns-in_err-order : goal.returns-in_err-order
returns-in_err-order c =
    let x = c.args in rw (handed_on _ _ c.from_residual.ensures.1 c.in_err-order.was) (order_refused x.taken x.q x.series x.m _ c.order.ensures (err_not_done c.in_err-order.was) _)

pub at-curve-requires : goal.at-curve-requires
at-curve-requires c = curve (goal.at.at-curve-requires c).In_ok-order

pub size-k-requires : goal.size-k-requires
size-k-requires c = curve (goal.at.size-k-requires c).In_ok-order

pub slices-requires-else-decodes : goal.slices-requires-else-decodes
slices-requires-else-decodes c =
    let x = c.args in
    let o = ordered (goal.at.slices-requires-else-decodes c).In_ok-order in
    omega (arith, c.size-k.ensures, size_le x.q x.m, o.1, (sizes _ (curve (goal.at.slices-requires-else-decodes c).In_ok-order)).points)

pub returns-then-decodes : goal.returns-then-decodes
returns-then-decodes c =
    let x = c.args in
    let r = c.size-k in
    let k = r.ensures in
    let d = c.if-decodes.true in
    call_past x.taken x.gaps x.decodes x.q x.series x.m x.input.now x.room _ _ _ (ordered (goal.at.returns-then-decodes c).In_ok-order)
    (sym (ap (λ (b : Bool). cond b (x.q * x.q * x.q) (size x.q x.m)) d))
    (k ∙ sym (ap (λ (b : Bool). cond b (size x.q x.m) (x.q * x.q * x.q)) d))
    (c.slices.ensures ∙ ap (λ (v : Curve). slice_checks x.gaps v.symbols v.points x.input.now r.result x.room Done)
    c.at-curve.ensures)

pub returns-else-decodes : goal.returns-else-decodes
returns-else-decodes c =
    let x = c.args in
    let r = c.size-k in
    let k = r.ensures in
    let d = c.if-decodes.false in
    call_past x.taken x.gaps x.decodes x.q x.series x.m x.input.now x.room _ _ _ (ordered (goal.at.returns-else-decodes c).In_ok-order)
    (k ∙ sym (ap (λ (b : Bool). cond b (x.q * x.q * x.q) (size x.q x.m)) d))
    (sym (ap (λ (b : Bool). cond b (size x.q x.m) (x.q * x.q * x.q)) d))
    (c.slices-else-decodes.ensures ∙ ap (λ (v : Curve). slice_checks x.gaps v.symbols r.result x.input.now v.points x.room Done)
    c.at-curve.ensures)
