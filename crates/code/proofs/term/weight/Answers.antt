-- `code::term::weight` meets its contract: from term g on the weight is g more than the number.
-- Assumes nothing.
use mathlib.Core.Path.{sym, ap, subst}
use Prim.Native.Nat.{ℕ, ◌+◌}
use native.Mathlib.Omega.{arith}
use Rattle.field.specs.declared.curve.Curve.{Curve}
use Rattle.code.specs.Inner.Grid.{WeightOfTerm}
use Rattle.code.proofs.Weights.{curve_pos, high_weight}
use Rattle.code.proofs.term.weight.Goals as goal

pub returns-then-curve-n : goal.returns-then-curve-n
returns-then-curve-n c =
    let x = c.args in
    let e = ap (λ (v : Curve). v.genus) c.at-curve.ensures in
    subst (λ (g : ℕ). WeightOfTerm x.q x.n (x.n + g)) (sym e)
    (high_weight x.q (curve_pos x.q c.requires.0) x.n (omega (arith, e, c.if-curve-n.true)))
