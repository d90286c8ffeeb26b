-- `linear::vectors::clear` meets its contract: a factor is the sum of its halves.
-- Assumes nothing.
use mathlib.Core.Path.{◌∙◌}
use Prim.Native.Nat.{◌+◌, ◌*◌, ◌≤◌}
use native.Mathlib.Omega.{arith}
use lib.ListN.{length}
use Rattle.linear.proofs.PivotTables.{parts_fit, cleared_by_halves}
use Rattle.linear.proofs.vectors.clear.Goals as goal
use Rattle.linear.proofs.vectors.clear.Goals.{After-split-halves}

-- the rows that are added are within the tables
fits : (c : goal.After-split-halves) → let a = c.args in
    let r = c.split-halves.result in
    (length a.w.now * r.low + length a.w.now ≤ length a.low.now)
    × (length a.w.now * r.high + length a.w.now ≤ length a.top.now)
fits c =
    let a = c.args in
    let r = c.split-halves in
    parts_fit a.q a.i a.factors.now a.low.now a.top.now a.w.now c.requires.clearing c.requires.below r.result.low r.result.high
    r.ensures.0 r.ensures.1

pub overflow_mul-b : goal.overflow_mul-b
overflow_mul-b c = omega (arith, fits (goal.at.overflow_mul-b c).After-split-halves)

pub overflow_add-top_end : goal.overflow_add-top_end
overflow_add-top_end c = omega (arith, fits (goal.at.overflow_add-top_end c).After-split-halves)

pub slice_bounds-add_sum-end-2 : goal.slice_bounds-add_sum-end-2
slice_bounds-add_sum-end-2 c = (fits (goal.at.slice_bounds-add_sum-end-2 c).After-split-halves).1

pub returns : goal.returns
returns c =
    let a = c.args in
    let r = c.split-halves in
    c.add_sum.ensures
    ∙ cleared_by_halves a.q a.i a.factors.now a.low.now a.top.now a.w.now c.requires.clearing c.requires.below r.result.low
    r.result.high r.ensures.0 r.ensures.1
