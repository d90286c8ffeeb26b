-- `field::entry::check` meets its contract: each way out has the tests that led there.
-- Assumes nothing.
use mathlib.Core.Path.{◌≡◌, sym, ap, ◌∙◌}
use Prim.Native.Nat.{◌*◌}
use native.Mathlib.Omega.{arith}
use borrow.Author.Tests.{le-leb, lt-leb}
use Rattle.std.specs.Prelude.{Some}
use Rattle.field.specs.Curve.{IsCurve, curve_of, named_of}
use Rattle.field.specs.declared.curve.Curve.{Curve}
use Rattle.field.specs.Values.{first_bad}
use Rattle.field.proofs.Curves.{named, curve_true}
use Rattle.field.proofs.entry.check.Goals as goal
use Rattle.field.proofs.entry.check.Goals.{In_ok-curve}

-- the curve that was found
found : (c : goal.In_ok-curve) → let x = c.args in
    IsCurve x.q × (c.in_ok-curve.curve ≡ curve_of x.q)
found c =
    let some : named_of c.args.q ≡ Some c.in_ok-curve.curve = sym c.of.ensures ∙ grind arith in
    named c.args.q _ some

symbols : (c : goal.In_ok-curve) → let x = c.args in
    c.in_ok-curve.curve.symbols ≡ x.q * x.q
symbols c = ap (λ (v : Curve). v.symbols) (found (goal.at.In_ok-curve c).In_ok-curve).1

pub returns-then-curve-a : goal.returns-then-curve-a
unfolding first_bad
returns-then-curve-a c =
    let x = c.args in
    rw (curve_true x.q (found (goal.at.returns-then-curve-a c).In_ok-curve).0, le-leb (x.q * x.q) x.a (omega (arith, c.if-curve-a.true, symbols (goal.at.returns-then-curve-a c).In_ok-curve)))

pub returns-then-curve-b : goal.returns-then-curve-b
unfolding first_bad
returns-then-curve-b c =
    let x = c.args in
    let e = symbols (goal.at.returns-then-curve-b c).In_ok-curve in
    rw (
      curve_true x.q (found (goal.at.returns-then-curve-b c).In_ok-curve).0,
      lt-leb (x.q * x.q) x.a (omega (arith, c.if-curve-a.false, e)),
      le-leb (x.q * x.q) x.b (omega (arith, c.if-curve-b.true, e)),
    )

pub returns-else-curve-b : goal.returns-else-curve-b
unfolding first_bad
returns-else-curve-b c =
    let x = c.args in
    let e = symbols (goal.at.returns-else-curve-b c).In_ok-curve in
    rw (
      curve_true x.q (found (goal.at.returns-else-curve-b c).In_ok-curve).0,
      lt-leb (x.q * x.q) x.a (omega (arith, c.if-curve-a.false, e)),
      lt-leb (x.q * x.q) x.b (omega (arith, c.if-curve-b.false, e)),
    )
