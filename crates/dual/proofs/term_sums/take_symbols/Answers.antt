-- `dual::term_sums::take_symbols` meets its contract. The invariant of its loop: the first t lanes are written.
-- Assumes nothing.
use mathlib.Core.Path.{◌≡◌, refl, ap, ◌∙◌}
use Prim.Native.Nat.{ℕ, ◌+◌, ◌*◌}
use native.Mathlib.Nat.{mul-le-mul_left}
use native.Mathlib.Omega.{arith}
use lib.ListN.{get_or, replicate, length-set, get_or-eq_default}
use Rattle.poly.specs.Inner.Ranges.{writes}
use Rattle.poly.proofs.Writes.{writes_turn}
use Rattle.dual.proofs.StagedSums.{stores_lanes}
use Rattle.dual.proofs.term_sums.take_symbols.Goals as goal

pub loop-t-init : goal.loop-t-init
unfolding writes
loop-t-init c = (omega arith, refl, refl)

pub loop-t-preserved : goal.loop-t-preserved
loop-t-preserved c =
    let l = c.loop-t in
    (omega arith, simp length-set l.invariant.1, writes_turn _ _ l.r l.t _ l.invariant.2 refl)

pub returns : goal.returns
returns c =
    let x = c.args in
    let l = c.loop-t in
    let e : l.t ≡ x.c = omega (arith, l.invariant.0, c.loop-t-test.false) in
    l.invariant.2 ∙ ap (λ (n : ℕ). writes (replicate 16 0) n (λ t. get_or x.word.now (x.q * t + x.s) 0)) e
    ∙ stores_lanes (λ t. get_or x.word.now (x.q * t + x.s) 0) x.c c.requires.1
    (λ t past. get_or-eq_default x.word.now 0 {n = x.q * t + x.s} (omega (arith, c.requires.2, mul-le-mul_left x.q past)))
