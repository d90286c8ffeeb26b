-- `recovery::indicator::y_factors` meets its contract: the rule of each table, by two computed tests.
-- Assumes nothing.
use mathlib.Core.Logic.{⊎_elim}
use mathlib.Core.Path.{refl, sym, subst}
use Prim.Native.Nat.{ℕ}
use native.Mathlib.Omega.{arith}
use Rattle.field.specs.Plus.{plus}
use Rattle.field.specs.Power.{power}
use Rattle.field.specs.Product.{times}
use Rattle.poly.specs.Inner.Indicators.{indicator}
use Rattle.recovery.specs.Inner.Indicators.{YFactors}
use Rattle.recovery.proofs.IndicatorBlocks.{y_factors_table}
use Rattle.recovery.proofs.indicator.y_factors.Goals as goal

pub returns-then-q-eq2 : goal.returns-then-q-eq2
unfolding times power plus indicator
returns-then-q-eq2 c = subst (λ (q : ℕ). YFactors q _) (sym c.if-q-eq2.true) (y_factors_table 2 256 _ refl (omega arith) tt tt)

pub returns : goal.returns
unfolding times power plus indicator
returns c =
    subst (λ (q : ℕ). YFactors q _) (sym (⊎_elim (λ two. absurd (c.if-q-eq2.false two)) (λ four. four) c.requires))
    (y_factors_table 4 256 _ refl (omega arith) tt tt)
