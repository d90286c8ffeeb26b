-- `dual::term_sums::sum_of_four` meets its contract: the lanes are added, and then their sum is taken.
-- Assumes nothing.
use mathlib.Core.Path.{◌∙◌, ap₂}
use Rattle.field.specs.Plus.{plus}
use Rattle.dual.proofs.LongSums.{sum_lanes_plus}
use Rattle.dual.proofs.term_sums.sum_of_four.Goals as goal

pub returns : goal.returns
returns c =
    let x = c.args in
    let first = c.plus-first in
    let second = c.plus-second in
    c.sum.ensures ∙ sum_lanes_plus first.result second.result _ c.plus-all.ensures
    ∙ ap₂ plus (sum_lanes_plus x.a.now x.b.now _ first.ensures) (sum_lanes_plus x.c.now x.d.now _ second.ensures)
