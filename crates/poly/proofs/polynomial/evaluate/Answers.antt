-- `poly::polynomial::evaluate` meets its contract: Horner's rule in all lanes at once, from the last coefficient on.
-- Assumes nothing.
use mathlib.Core.Path.{sym, subst}
use native.Mathlib.Omega.{arith}
use Rattle.field.proofs.Fields.{field_of}
use Rattle.poly.specs.Inner.Ranges.{Below}
use Rattle.poly.proofs.Horner.{coefficient, ahead_below, ahead_first, ahead_turn}
use Rattle.poly.proofs.polynomial.evaluate.Goals as goal

pub loop-i-init : goal.loop-i-init
loop-i-init g c =
    let a = c.args in (
      omega (arith, c.requires.le_count.0),
      ahead_first (field_of a.q) a.count (coefficient a.list.now a.start a.stride) a.places.now c.requires.le_count.0 (c.requires.below.0 _),
    )

pub step-values-requires-clause-symbols : goal.step-values-requires-clause-symbols
step-values-requires-clause-symbols g c =
    let a = c.args in
    let l = c.loop-i in
    let below = ahead_below (field_of a.q) a.count (coefficient a.list.now a.start a.stride) a.places.now l.i in
    (c.requires.below.1, subst (Below (field_of a.q).size) (sym l.invariant.1) below)

pub loop-i-preserved : goal.loop-i-preserved
loop-i-preserved g c =
    let a = c.args in
    let l = c.loop-i in (
      omega (arith, l.invariant.0),
      ahead_turn (field_of a.q) a.count (coefficient a.list.now a.start a.stride) a.places.now l.i l.values _
          c.loop-i-test.true l.invariant.0 (c.requires.below.0 _) l.invariant.1 c.step-values.ensures,
    )
