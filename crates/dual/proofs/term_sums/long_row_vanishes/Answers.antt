-- `dual::term_sums::long_row_vanishes` meets its contract: each turn tests one power of x, and multiplies by x.
-- Assumes nothing.
use mathlib.Core.Path.{◌≡◌, refl}
use Prim.Native.Nat.{◌+◌, ◌*◌}
use native.Mathlib.Omega.{arith}
use Rattle.field.proofs.Fields.{field_of}
use Rattle.poly.specs.Inner.Ranges.{Below}
use Rattle.dual.specs.Inner.StagedSums.{sum_by_power_of_x, long_entry}
use Rattle.dual.proofs.RowTests.{row_none, row_more, row_fails, row_last}
use Rattle.dual.proofs.LongSums.{quarter_none, quarter_more, quarter_below, quarters_sum}
use Rattle.dual.proofs.term_sums.long_row_vanishes.Goals as goal
use Rattle.dual.proofs.term_sums.long_row_vanishes.Goals.{After-sum_of_four, At-loop-w}

-- the places are symbols
small : (c : goal.At-loop-w) → Below (field_of 8).size c.args.columns.now
small c = c.requires.below.0

-- the sum of the lanes is that of the next term
sum_is : (c : goal.After-sum_of_four) → let x = c.args in
    c.sum_of_four.result ≡ sum_by_power_of_x 64 8 x.columns.now c.loop-w.invariant.1.i (long_entry x.rows.now x.j)
sum_is c =
    let h = c.loop-w.invariant.1 in
    quarters_sum _ _ _ _ _ _ _ _ _ _ _ h.i _ h.kept c.sum_of_four.ensures

pub loop-w-init : goal.loop-w-init
loop-w-init c =
    let columns = c.args.columns.now in
    let rows = c.args.rows.now in
    let j = c.args.j in
    let small = c.requires.below.1 in (
      omega (arith, c.requires.below.2),
      row_none 8 c.args.m j _ _ (9 * j) refl (
        quarter_none columns rows j 0 _ (16 * j) _ refl (omega arith) small c.take-xa.ensures c.take-a.ensures,
        quarter_none columns rows j 16 _ (16 * j + 128) _ refl (omega arith) small c.take-xb.ensures c.take-b.ensures,
        quarter_none columns rows j 32 _ (16 * j + 256) _ refl (omega arith) small c.take-xc.ensures c.take-c.ensures,
        quarter_none columns rows j 48 _ (16 * j + 384) _ refl (omega arith) small c.take-xd.ensures c.take-d.ensures,
      ),
    )

pub returns-then-sum_of_four-ne0 : goal.returns-then-sum_of_four-ne0
returns-then-sum_of_four-ne0 c =
    let x = c.args in
    row_fails 8 x.m x.j _ _ c.loop-w.w c.loop-w.invariant.1 _ (sum_is (goal.at.returns-then-sum_of_four-ne0 c).After-sum_of_four) (omega arith) c.if-sum_of_four-ne0.true

pub multiply_in-a-requires-clause-symbols : goal.multiply_in-a-requires-clause-symbols
multiply_in-a-requires-clause-symbols c =
    quarter_below _ _ _ _ _ _ _ c.loop-w.invariant.1.kept.0 (small (goal.at.multiply_in-a-requires-clause-symbols c).At-loop-w)

pub multiply_in-b-requires-clause-symbols : goal.multiply_in-b-requires-clause-symbols
multiply_in-b-requires-clause-symbols c =
    quarter_below _ _ _ _ _ _ _ c.loop-w.invariant.1.kept.1 (small (goal.at.multiply_in-b-requires-clause-symbols c).At-loop-w)

pub multiply_in-c-requires-clause-symbols : goal.multiply_in-c-requires-clause-symbols
multiply_in-c-requires-clause-symbols c =
    quarter_below _ _ _ _ _ _ _ c.loop-w.invariant.1.kept.2 (small (goal.at.multiply_in-c-requires-clause-symbols c).At-loop-w)

pub multiply_in-d-requires-clause-symbols : goal.multiply_in-d-requires-clause-symbols
multiply_in-d-requires-clause-symbols c =
    quarter_below _ _ _ _ _ _ _ c.loop-w.invariant.1.kept.3 (small (goal.at.multiply_in-d-requires-clause-symbols c).At-loop-w)

pub loop-w-preserved : goal.loop-w-preserved
loop-w-preserved c =
    let h = c.loop-w.invariant.1 in (
      omega (arith, c.loop-w-test.true, c.requires.below.3),
      row_more 8 c.args.m c.args.j _ _ c.loop-w.w h _ (sum_is (goal.at.loop-w-preserved c).After-sum_of_four) c.if-sum_of_four-ne0.false _ (
        quarter_more _ _ _ _ _ _ _ h.kept.0 _ c.multiply_in-a.ensures,
        quarter_more _ _ _ _ _ _ _ h.kept.1 _ c.multiply_in-b.ensures,
        quarter_more _ _ _ _ _ _ _ h.kept.2 _ c.multiply_in-c.ensures,
        quarter_more _ _ _ _ _ _ _ h.kept.3 _ c.multiply_in-d.ensures,
      ),
    )

pub returns : goal.returns
returns c =
    let x = c.args in
    let h = c.loop-w.invariant.1 in
    row_last 8 x.m x.j _ _ c.loop-w.w h _ (quarters_sum _ _ _ _ _ _ _ _ _ _ _ h.i _ h.kept c.sum_of_four-2.ensures) (omega arith)
    (omega arith)
