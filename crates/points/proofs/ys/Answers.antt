-- `points::ys` meets its contract: the rule of each table, by two computed tests.
-- Assumes nothing.
use mathlib.Core.Logic.{inl, inr, ⊎_elim}
use mathlib.Core.Path.{refl, sym, subst}
use Prim.Native.Nat.{ℕ}
use native.Mathlib.Omega.{arith}
use Rattle.field.specs.Plus.{plus}
use Rattle.field.specs.Power.{power}
use Rattle.field.specs.Product.{times}
use Rattle.points.specs.Passing.{passing}
use Rattle.points.specs.Points.{ys_of}
use Rattle.points.specs.Inner.Columns.{Ys}
use Rattle.points.proofs.YsTables.{y_at, ys_table}
use Rattle.points.proofs.ys.Goals as goal

pub returns-then-q-eq2 : goal.returns-then-q-eq2
unfolding times power plus ys_of passing
returns-then-q-eq2 c =
    subst (λ (q : ℕ). Ys q _) (sym c.if-q-eq2.true) (ys_table 2 (inl refl) 64 (y_at 2) (λ p l. refl) (omega arith) _ refl tt tt)

pub returns : goal.returns
unfolding times power plus ys_of passing
returns c =
    subst (λ (q : ℕ). Ys q _) (sym (⊎_elim (λ e. absurd (c.if-q-eq2.false e)) (λ e. e) c.requires))
    (ys_table 4 (inr (inl refl)) 64 (y_at 4) (λ p l. refl) (omega arith) _ refl tt tt)
