-- `dual::term_sums::take_ys` meets its contract. The invariant of its loop: the first t lanes are written.
-- Assumes nothing.
use mathlib.Core.Path.{◌≡◌, refl, ap, ◌∙◌}
use Prim.Native.Nat.{ℕ, ◌+◌, ◌*◌}
use native.Mathlib.Omega.{arith}
use lib.ListN.{length, get_or, replicate, length-set}
use Rattle.poly.specs.Inner.Ranges.{writes}
use Rattle.poly.proofs.Writes.{writes_turn}
use Rattle.dual.proofs.StagedSums.{taken_ys}
use Rattle.dual.proofs.term_sums.take_ys.Goals as goal

pub loop-t-init : goal.loop-t-init
unfolding writes
loop-t-init c = (omega arith, refl, refl)

pub loop-t-preserved : goal.loop-t-preserved
loop-t-preserved c =
    let l = c.loop-t in
    (omega (arith, c.loop-t-test.true), simp length-set l.invariant.1, writes_turn _ _ l.r l.t _ l.invariant.2 refl)

pub returns : goal.returns
returns c =
    let x = c.args in
    let l = c.loop-t in
    let e : l.t ≡ length x.columns.now = omega (arith, l.invariant.0, c.loop-t-test.false) in
    taken_ys x.q c.requires.0.curve x.all.now x.columns.now x.s c.requires.1 c.requires.0.few c.requires.0.columns_below c.requires.2 l.r
    (l.invariant.2 ∙ ap (λ (n : ℕ). writes (replicate 16 0) n (λ t. get_or x.all.now (x.q * get_or x.columns.now t 0 + x.s) 0)) e)
