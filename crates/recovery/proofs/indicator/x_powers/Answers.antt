-- `recovery::indicator::x_powers` meets its contract: the rule of each table, by two computed tests.
-- Assumes nothing.
use mathlib.Core.Logic.{⊎_elim}
use mathlib.Core.Path.{refl, sym, subst}
use Prim.Native.Nat.{ℕ}
use native.Mathlib.Omega.{arith}
use Rattle.field.specs.Power.{power}
use Rattle.field.specs.Product.{times}
use Rattle.recovery.specs.Inner.Indicators.{XPowers}
use Rattle.recovery.proofs.IndicatorBlocks.{x_powers_table}
use Rattle.recovery.proofs.indicator.x_powers.Goals as goal

pub returns-then-q-eq2 : goal.returns-then-q-eq2
unfolding times power
returns-then-q-eq2 c = subst (λ (q : ℕ). XPowers q _) (sym c.if-q-eq2.true) (x_powers_table 2 256 _ refl (omega arith) tt tt)

pub returns : goal.returns
unfolding times power
returns c =
    subst (λ (q : ℕ). XPowers q _) (sym (⊎_elim (λ two. absurd (c.if-q-eq2.false two)) (λ four. four) c.requires))
    (x_powers_table 4 256 _ refl (omega arith) tt tt)
