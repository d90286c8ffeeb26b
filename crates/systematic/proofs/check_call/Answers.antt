-- `systematic::check_call` meets its contract: each way out has the tests that led there.
-- Assumes nothing.
use borrow.Author.Rules.{rules}
use mathlib.Core.Bool.{Bool, true}
use mathlib.Core.Path.{◌≡◌, sym, ap, ◌∙◌}
use Prim.Native.Nat.{◌*◌, ◌<◌}
use native.Mathlib.Omega.{arith}
use Rattle.field.specs.Curve.{is_short, IsShort}
use Rattle.field.specs.Outcomes.{Done}
use Rattle.field.proofs.Curves.{short_curve, short_of_true}
use Rattle.points.specs.Series.{is_series}
use Rattle.code.specs.Checks.{order_checks}
use Rattle.code.proofs.Checks.{order_done}
use Rattle.field.proofs.Outcomes.{handed_on, err_not_done}
use Rattle.systematic.proofs.Checking.{size_room, refused_order, refused_places, slices_decide}
use Rattle.systematic.proofs.check_call.Goals as goal
use Rattle.systematic.proofs.check_call.Goals.{After-order, In_ok-order}

-- what 1, 17 and 2 came to
order_is : (c : goal.After-order) → let x = c.args in c.order.result ≡ order_checks (is_short x.q) x.q x.series x.m Done
order_is c =
    let x = c.args in
    c.order.ensures ∙ ap (λ (t : Bool). order_checks t x.q x.series x.m Done) (search rules)

-- past them
ordered : (c : goal.In_ok-order) → let x = c.args in
    IsShort x.q × (x.m < x.q * x.q * x.q) × (is_series x.series ≡ true)
ordered c =
    let x = c.args in
    let w = order_done (is_short x.q) x.q x.series x.m (sym (order_is (goal.at.In_ok-order c).After-order) ∙ c.in_ok-order.was) in
    (short_of_true x.q w.0, w.1, w.2)

pub returns-in_err-order : goal.returns-in_err-order
returns-in_err-order c =
    let x = c.args in rw (handed_on _ _ c.from_residual.ensures.1 c.in_err-order.was) (refused_order x.q x.series x.m x.places.now x.symbols.now x.room _ (order_is (goal.at.returns-in_err-order c).After-order) (err_not_done c.in_err-order.was))

pub at-curve-requires : goal.at-curve-requires
at-curve-requires c = short_curve _ (ordered (goal.at.at-curve-requires c).In_ok-order).0

pub size-k-requires : goal.size-k-requires
size-k-requires c = short_curve _ (ordered (goal.at.size-k-requires c).In_ok-order).0

pub slices-requires : goal.slices-requires
slices-requires c =
    let o = ordered (goal.at.slices-requires c).In_ok-order in
    let x = c.args in
    omega (arith, c.size-k.ensures, size_room x.q o.0 x.m o.1)

pub returns-then-are_good : goal.returns-then-are_good
returns-then-are_good c =
    let x = c.args in
    let o = ordered (goal.at.returns-then-are_good c).In_ok-order in
    slices_decide x.q x.series x.m x.places.now x.symbols.now x.room o.0 o.2 o.1 _
    c.at-curve.ensures _ c.size-k.ensures _
    c.are_good.ensures c.if-are_good.true _ c.slices.ensures

pub returns : goal.returns
returns c =
    let x = c.args in
    let o = ordered (goal.at.returns c).In_ok-order in
    refused_places x.q x.series x.m x.places.now x.symbols.now x.room o.0 o.2 o.1 _
    c.at-curve.ensures _ c.size-k.ensures _
    c.are_good.ensures c.if-are_good.false
