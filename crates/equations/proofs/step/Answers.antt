-- `code::equation::step` meets its contract: each way out has what bringing in the symbol did.
-- Assumes nothing.
use mathlib.Core.Path.{◌≡◌, subst}
use Rattle.field.proofs.Fields.{field_of}
use Rattle.linear.specs.Inner.Systems.{Brought}
use Rattle.linear.specs.declared.system.Effect.{Effect}
use Rattle.code.specs.Terms.{size}
use Rattle.equations.specs.Inner.Collecting.{equation_of}
use Rattle.equations.proofs.Collecting.{taken_pivot, taken_redundant, clash}
use Rattle.equations.proofs.step.Goals as goal
use Rattle.equations.proofs.step.Goals.{After-bring_place}

-- what bringing in left, by its answer
brought : (c : goal.After-bring_place) (effect : Effect) → c.bring_place.result ≡ effect
    → let x = c.args in
    Brought (field_of x.q) 64 (size x.q x.m) x.work.now (equation_of x.q x.columns.now x.m x.p x.s)
    c.bring_place.new.work effect
brought c effect e =
    let x = c.args in
    subst (Brought (field_of x.q) 64 (size x.q x.m) x.work.now (equation_of x.q x.columns.now x.m x.p x.s)
    c.bring_place.new.work) e
    c.bring_place.ensures.brought

pub returns-in-Pivot : goal.returns-in-Pivot
returns-in-Pivot c =
    let x = c.args in
    taken_pivot x.q x.columns.now x.m x.p x.s x.work.now _ x.rank
    c.if-s-eq255.false c.bring_place.ensures.well_formed_2
    (brought (goal.at.returns-in-Pivot c).After-bring_place _ c.in-Pivot.is)

pub returns-in-Redundant : goal.returns-in-Redundant
returns-in-Redundant c =
    let x = c.args in
    taken_redundant x.q x.columns.now x.m x.p x.s x.work.now _ x.rank
    c.if-s-eq255.false c.bring_place.ensures.well_formed_2
    (brought (goal.at.returns-in-Redundant c).After-bring_place _ c.in-Redundant.is)

pub returns-in-Contradiction : goal.returns-in-Contradiction
returns-in-Contradiction c =
    let x = c.args in
    clash x.q x.columns.now x.m x.p x.s x.work.now _ x.rank
    c.if-s-eq255.false (brought (goal.at.returns-in-Contradiction c).After-bring_place _ c.in-Contradiction.is)
