-- `linear::system::dot` meets its contract.
-- Assumes nothing.
use mathlib.Core.Path.{sym, ◌∙◌}
use native.Mathlib.Numerals.{add-one}
use native.Mathlib.Omega.{arith}
use Rattle.field.proofs.Plus.{is_plus, plus_assoc, plus_zero}
use Rattle.poly.proofs.Linear.{dot_none, dot_suc}
use Rattle.linear.proofs.system.dot.Goals as goal

pub loop-j-init : goal.loop-j-init
loop-j-init c = (omega arith, rw dot_none (sym (plus_zero _)))

pub loop-j-preserved : goal.loop-j-preserved
loop-j-preserved c =
    let l = c.loop-j in
    (omega arith, is_plus l.r c.times-r.result ∙ rw (add-one, dot_suc, l.invariant.1, c.times-r.ensures, plus_assoc))
