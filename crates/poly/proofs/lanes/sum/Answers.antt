-- `poly::lanes::sum` meets its contract: r is the sum of the first t lanes.
-- Assumes nothing.
use mathlib.Core.Path.{sym, ◌∙◌}
use native.Mathlib.Numerals.{add-one}
use native.Mathlib.Omega.{arith}
use Rattle.field.proofs.Plus.{is_plus}
use Rattle.field.proofs.Sums.{sum_none, sum_suc}
use Rattle.poly.proofs.lanes.sum.Goals as goal

pub loop-t-init : goal.loop-t-init
loop-t-init c = (omega arith, sym (sum_none _))

pub loop-t-preserved : goal.loop-t-preserved
loop-t-preserved c =
    let l = c.loop-t in
    (omega arith, is_plus l.r _ ∙ rw (add-one, sum_suc, l.invariant.1))
