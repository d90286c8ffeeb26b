-- `poly::interpolation::slopes` meets its contract: the derivative is the polynomial of the odd coefficients, at x^2.
-- Assumes nothing.
use mathlib.Core.Path.{sym, subst}
use Prim.Native.Nat.{◌-◌}
use native.Mathlib.Omega.{arith}
use Rattle.field.proofs.Fields.{field_of}
use Rattle.poly.specs.Inner.Ranges.{Below, part}
use Rattle.poly.proofs.Parts.{below_part}
use Rattle.poly.proofs.Vanishings.{vanishing_below}
use Rattle.poly.proofs.LaneLaws.{lanes_below}
use Rattle.poly.proofs.Divisions.{places_below, slopes_are}
use Rattle.poly.proofs.interpolation.slopes.Goals as goal

pub multiply-squares-requires : goal.multiply-squares-requires
multiply-squares-requires c =
    let a = c.args in
    let b = places_below (field_of a.q) (a.to - a.from) (part a.columns.now a.from a.to) _ (omega (arith, c.requires.below.3))
    c.copy.ensures (below_part _ a.columns.now a.from a.to c.requires.below.0) in
    (b, b)

pub evaluate-requires-clause-below : goal.evaluate-requires-clause-below
evaluate-requires-clause-below c =
    let F = field_of c.args.q in
    let squares = subst (Below F.size) (sym c.multiply-squares.ensures) (lanes_below _ F.size (λ t k. F.times_lt _ _)) in
    (vanishing_below F c.args.columns.now c.args.vanishing.now c.requires.vanishing, squares)

pub evaluate-requires-2-clause-below : goal.evaluate-requires-2-clause-below
evaluate-requires-2-clause-below c =
    let F = field_of c.args.q in
    let squares = subst (Below F.size) (sym c.multiply-squares.ensures) (lanes_below _ F.size (λ t k. F.times_lt _ _)) in
    (vanishing_below F c.args.columns.now c.args.vanishing.now c.requires.vanishing, squares)

pub returns-then-q-eq8 : goal.returns-then-q-eq8
returns-then-q-eq8 c =
    slopes_are (field_of c.args.q) c.args.columns.now c.args.vanishing.now _ _ _ c.args.from c.args.to _
    c.requires.below.2 c.requires.below.3 c.requires.vanishing c.copy.ensures c.multiply-squares.ensures c.terms-n.ensures
    c.evaluate.ensures

pub returns : goal.returns
returns c =
    slopes_are (field_of c.args.q) c.args.columns.now c.args.vanishing.now _ _ _ c.args.from c.args.to _
    c.requires.below.2 c.requires.below.3 c.requires.vanishing c.copy.ensures c.multiply-squares.ensures c.terms-n.ensures
    c.evaluate-2.ensures
