-- `chosen_columns::check_call` meets its contract: each way out has the tests that led there.
-- Assumes nothing.
use mathlib.Core.Bool.{false, not}
use mathlib.Core.Path.{◌≡◌, sym, ap, ◌∙◌}
use Prim.Native.Nat.{suc, ◌*◌, ◌≤◌}
use native.Mathlib.Nat.{mul-le-mul_left}
use native.Mathlib.Omega.{arith}
use borrow.Author.Tests.{not-false}
use lib.ListN.{length}
use Rattle.field.specs.Curve.{is_short, IsShort}
use Rattle.field.specs.declared.curve.Curve.{Curve}
use Rattle.field.proofs.Curves.{short_curve, short_of_true, short_sizes, sizes}
use Rattle.points.proofs.ColumnPoints.{columns_few}
use Rattle.points.proofs.Passing.{place_bound}
use Rattle.code.specs.Terms.{is_term}
use Rattle.chosen_columns.specs.ColumnLists.{is_column_list}
use Rattle.chosen_columns.proofs.ColumnLists.{of_column_list, column_list_columns}
use Rattle.chosen_columns.proofs.Checking.{refused_curve, refused_columns, refused_order, decodes_decide, encodes_decide}
use Rattle.chosen_columns.proofs.check_call.Goals as goal
use Rattle.chosen_columns.proofs.check_call.Goals.{After-are_good, Else-not-are_good, Else-not-is_short}

-- past 1
past_curve : (c : goal.Else-not-is_short) → not (is_short c.args.q) ≡ false
past_curve c = ap not (sym c.is_short.ensures ∙ c.if-not-is_short.false)

short : (c : goal.Else-not-is_short) → IsShort c.args.q
short c = short_of_true _ (not-false _ (past_curve (goal.at.Else-not-is_short c).Else-not-is_short))

-- what the test of the columns came to
tested : (c : goal.After-are_good) → let x = c.args in
    not (is_column_list (x.q * x.q) x.columns.now) ≡ not c.are_good.result
tested c =
    let x = c.args in
    ap not (ap (λ (v : Curve). is_column_list v.symbols x.columns.now) (sym c.at-curve.ensures) ∙ sym c.are_good.ensures)

-- past 18: no more columns than all
past_columns : (c : goal.Else-not-are_good) → let x = c.args in
    (not (is_column_list (x.q * x.q) x.columns.now) ≡ false) × (x.q * length x.columns.now ≤ 64)
past_columns c =
    let x = c.args in
    let s = short (goal.at.Else-not-are_good c).Else-not-is_short in
    let e = tested (goal.at.Else-not-are_good c).After-are_good ∙ ap not c.if-not-are_good.false in
    let list = of_column_list (x.q * x.q) x.columns.now (rw (not-false (is_column_list (x.q * x.q) x.columns.now) e) tt) in
    let few = columns_few x.q x.columns.now (column_list_columns x.q x.columns.now (short_curve _ s) list) in
    (e, omega (arith, mul-le-mul_left x.q few, (sizes x.q (short_curve _ s)).grid, (short_sizes x.q s).points))

pub returns-then-not-is_short : goal.returns-then-not-is_short
returns-then-not-is_short c =
    let x = c.args in
    refused_curve x.gaps x.decodes x.q x.columns.now x.m x.input.now x.room
    (ap not (sym c.is_short.ensures ∙ c.if-not-is_short.true))

pub returns-then-not-are_good : goal.returns-then-not-are_good
returns-then-not-are_good c =
    let x = c.args in
    refused_columns x.gaps x.decodes x.q x.columns.now x.m x.input.now x.room
    (past_curve (goal.at.returns-then-not-are_good c).Else-not-is_short) (tested (goal.at.returns-then-not-are_good c).After-are_good ∙ ap not c.if-not-are_good.true)

pub overflow_mul-n : goal.overflow_mul-n
overflow_mul-n c = omega (arith, (past_columns (goal.at.overflow_mul-n c).Else-not-are_good).1)

pub returns-then-n-m : goal.returns-then-n-m
returns-then-n-m c =
    let x = c.args in
    refused_order x.gaps x.decodes x.q x.columns.now x.m x.input.now x.room
    (past_curve (goal.at.returns-then-n-m c).Else-not-is_short) (past_columns (goal.at.returns-then-n-m c).Else-not-are_good).0 (omega (arith, (past_columns (goal.at.returns-then-n-m c).Else-not-are_good).1, c.if-n-m.true))

pub slices-requires : goal.slices-requires
slices-requires c = omega (arith, (past_columns (goal.at.slices-requires c).Else-not-are_good).1)

pub slices-requires-else-decodes : goal.slices-requires-else-decodes
slices-requires-else-decodes c =
    let x = c.args in
    omega (
      arith,
      c.size-k.ensures,
      place_bound (is_term x.q) (suc x.m),
      c.if-n-m.false,
      (past_columns (goal.at.slices-requires-else-decodes c).Else-not-are_good).1,
    )

pub returns-then-decodes : goal.returns-then-decodes
returns-then-decodes c =
    let x = c.args in
    decodes_decide x.gaps x.decodes x.q x.columns.now x.m x.input.now x.room
    (past_curve (goal.at.returns-then-decodes c).Else-not-is_short) (past_columns (goal.at.returns-then-decodes c).Else-not-are_good).0 (omega (arith, c.if-n-m.false)) _ c.at-curve.ensures _
    c.size-k.ensures _ c.if-decodes.true c.slices.ensures

pub returns-else-decodes : goal.returns-else-decodes
returns-else-decodes c =
    let x = c.args in
    encodes_decide x.gaps x.decodes x.q x.columns.now x.m x.input.now x.room
    (past_curve (goal.at.returns-else-decodes c).Else-not-is_short) (past_columns (goal.at.returns-else-decodes c).Else-not-are_good).0 (omega (arith, c.if-n-m.false)) _ c.at-curve.ensures _
    c.size-k.ensures _ c.if-decodes.false c.slices-else-decodes.ensures
