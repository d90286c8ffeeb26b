-- `mend::check_call` meets its contract: each way out has the tests that led there.
-- Assumes nothing.
use mathlib.Core.Bool.{Bool, true, false}
use mathlib.Core.Path.{◌≡◌, sym, ap, ◌∙◌}
use Prim.Native.Nat.{◌-◌, ◌*◌, ◌≤◌, ◌<◌}
use native.Mathlib.Omega.{arith}
use Rattle.field.specs.Curve.{is_short, IsShort}
use Rattle.field.specs.declared.curve.Curve.{Curve}
use Rattle.field.specs.Outcomes.{Done}
use Rattle.field.proofs.Curves.{short_curve, short_of_true}
use Rattle.points.specs.Series.{is_series}
use Rattle.code.specs.Terms.{size}
use Rattle.code.specs.Checks.{order_checks, slice_checks}
use Rattle.code.proofs.Checks.{order_done}
use Rattle.mend.specs.Inner.Locating.{genus}
use Rattle.field.proofs.Outcomes.{handed_on, err_not_done}
use Rattle.mend.proofs.Checking.{slices_of_curve, refused_order, refused_radius, refused_slices, refused_codeword, refused_marks, none_refused}
use Rattle.mend.proofs.check_call.Goals as goal
use Rattle.mend.proofs.check_call.Goals.{After-at-curve, After-order, After-slices, Else-curve-m, In_ok-order}

-- what 1, 17 and 2 came to
order_is : (c : goal.After-order) → let x = c.args in c.order.result ≡ order_checks (is_short x.q) x.q x.series x.m Done
order_is c =
    let x = c.args in
    c.order.ensures ∙ ap (λ (t : Bool). order_checks t x.q x.series x.m Done) c.is_short.ensures

-- past them
ordered : (c : goal.In_ok-order) → let x = c.args in
    IsShort x.q × (x.m < x.q * x.q * x.q) × (is_series x.series ≡ true)
ordered c =
    let x = c.args in
    let w = order_done (is_short x.q) x.q x.series x.m (sym (order_is (goal.at.In_ok-order c).After-order) ∙ c.in_ok-order.was) in
    (short_of_true x.q w.0, w.1, w.2)

-- the numbers of the curve
points : (c : goal.After-at-curve) → let x = c.args in c.at-curve.result.points ≡ x.q * x.q * x.q
points c = ap (λ (v : Curve). v.points) c.at-curve.ensures

genus_is : (c : goal.After-at-curve) → c.at-curve.result.genus ≡ genus c.args.q
genus_is c = ap (λ (v : Curve). v.genus) c.at-curve.ensures

-- past 12
far : (c : goal.Else-curve-m) → let x = c.args in
    genus x.q ≤ x.q * x.q * x.q - x.m - 1
far c =
    omega (arith, points (goal.at.Else-curve-m c).After-at-curve, genus_is (goal.at.Else-curve-m c).After-at-curve, c.if-curve-m.false)

-- what 3, 4 and 5 of the word and the message came to
slices_are : (c : goal.After-slices) → let x = c.args in
    c.slices.result ≡ slice_checks false (x.q * x.q) (x.q * x.q * x.q) x.word.now (size x.q x.m) x.message Done
slices_are c =
    let x = c.args in
    slices_of_curve x.q x.m x.word.now x.message _ c.at-curve.ensures _ c.size-k.ensures _ c.slices.ensures

pub returns-in_err-order : goal.returns-in_err-order
returns-in_err-order c =
    let x = c.args in rw (handed_on _ _ c.from_residual.ensures.1 c.in_err-order.was) (refused_order x.q x.series x.m x.word.now x.message x.codeword x.marks _ (order_is (goal.at.returns-in_err-order c).After-order) (err_not_done c.in_err-order.was))

pub at-curve-requires : goal.at-curve-requires
at-curve-requires c = short_curve _ (ordered (goal.at.at-curve-requires c).In_ok-order).0

pub overflow_sub-curve : goal.overflow_sub-curve
overflow_sub-curve c = omega (arith, points (goal.at.overflow_sub-curve c).After-at-curve, (ordered (goal.at.overflow_sub-curve c).In_ok-order).1)

pub overflow_sub-curve-2 : goal.overflow_sub-curve-2
overflow_sub-curve-2 c = omega (arith, points (goal.at.overflow_sub-curve-2 c).After-at-curve, (ordered (goal.at.overflow_sub-curve-2 c).In_ok-order).1)

pub returns-then-curve-m : goal.returns-then-curve-m
returns-then-curve-m c =
    let x = c.args in
    let o = ordered (goal.at.returns-then-curve-m c).In_ok-order in
    refused_radius x.q x.series x.m x.word.now x.message x.codeword x.marks o.0 o.2 o.1
    (omega (arith, points (goal.at.returns-then-curve-m c).After-at-curve, genus_is (goal.at.returns-then-curve-m c).After-at-curve, c.if-curve-m.true))

pub size-k-requires : goal.size-k-requires
size-k-requires c = short_curve _ (ordered (goal.at.size-k-requires c).In_ok-order).0

pub returns-in_err-slices : goal.returns-in_err-slices
returns-in_err-slices c =
    let x = c.args in
    let o = ordered (goal.at.returns-in_err-slices c).In_ok-order in
    handed_on _ _ c.from_residual-in_err-slices.ensures.1 c.in_err-slices.was ∙ refused_slices x.q x.series x.m x.word.now x.message x.codeword x.marks o.0 o.2 o.1 (far (goal.at.returns-in_err-slices c).Else-curve-m) _
    (slices_are (goal.at.returns-in_err-slices c).After-slices) (err_not_done c.in_err-slices.was)

pub returns-then-codeword-curve : goal.returns-then-codeword-curve
returns-then-codeword-curve c =
    let x = c.args in
    let o = ordered (goal.at.returns-then-codeword-curve c).In_ok-order in
    let n = points (goal.at.returns-then-codeword-curve c).After-at-curve in
    refused_codeword x.q x.series x.m x.word.now x.message x.codeword x.marks o.0 o.2 o.1 (far (goal.at.returns-then-codeword-curve c).Else-curve-m) _
    (slices_are (goal.at.returns-then-codeword-curve c).After-slices) c.in_ok-slices.was (λ e. c.if-codeword-curve.true (e ∙ sym n))

pub returns-then-marks-curve : goal.returns-then-marks-curve
returns-then-marks-curve c =
    let x = c.args in
    let o = ordered (goal.at.returns-then-marks-curve c).In_ok-order in
    let n = points (goal.at.returns-then-marks-curve c).After-at-curve in
    refused_marks x.q x.series x.m x.word.now x.message x.codeword x.marks o.0 o.2 o.1 (far (goal.at.returns-then-marks-curve c).Else-curve-m) _
    (slices_are (goal.at.returns-then-marks-curve c).After-slices) c.in_ok-slices.was (c.if-codeword-curve.false ∙ n) (λ e. c.if-marks-curve.true (e ∙ sym n))

pub returns : goal.returns
returns c =
    let x = c.args in
    let o = ordered (goal.at.returns c).In_ok-order in
    let n = points (goal.at.returns c).After-at-curve in
    none_refused x.q x.series x.m x.word.now x.message x.codeword x.marks o.0 o.2 o.1 (far (goal.at.returns c).Else-curve-m) _
    (slices_are (goal.at.returns c).After-slices) c.in_ok-slices.was (c.if-codeword-curve.false ∙ n) (c.if-marks-curve.false ∙ n)
