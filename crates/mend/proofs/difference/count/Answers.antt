-- `mend::difference::count` meets its contract. The invariant of its loop: n counts the places below p.
-- Assumes nothing.
use mathlib.Core.Path.{sym, ap, ◌∙◌}
use Prim.Native.Nat.{ℕ, ◌+◌}
use native.Mathlib.Omega.{arith}
use Rattle.mend.proofs.Marks.{differing_none, differing_more, differing_same, differing_all}
use Rattle.mend.proofs.difference.count.Goals as goal
use Rattle.mend.proofs.difference.count.Goals.{else-a-p, then-a-p}

pub loop-p-init : goal.loop-p-init
loop-p-init c = (omega arith, omega arith, sym (differing_none c.args.a.now c.args.b.now))

pub loop-p-preserved : goal.loop-p-preserved
loop-p-preserved c =
    let l = c.loop-p in
    let x = c.args in
    let a = x.a.now in
    let b = x.b.now in (
      omega arith,
      elim c.if-a-p.branch [ then-a-p v ↦ omega (arith, v.n-is, l.invariant.1) | else-a-p v ↦ omega (arith, v.n-is, l.invariant.1) ],
      elim c.if-a-p.branch [ then-a-p v ↦ v.n-is ∙ ap (λ (k : ℕ). k + 1) l.invariant.2 ∙ sym (differing_more a b l.p v.if-a-p.true) | else-a-p v ↦ v.n-is ∙ l.invariant.2 ∙ sym (differing_same a b l.p v.if-a-p.false) ],
    )

pub returns : goal.returns
returns c =
    let l = c.loop-p in
    let x = c.args in
    l.invariant.2 ∙ differing_all x.a.now x.b.now l.p l.invariant.0 c.loop-p-test.false
