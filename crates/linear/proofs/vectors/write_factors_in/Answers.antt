-- `linear::vectors::write_factors_in` meets its contract. The invariant of its loop: the first s are written.
-- Assumes nothing.
use mathlib.Core.Path.{refl}
use native.Mathlib.Omega.{arith}
use lib.ListN.{length-set, get_or-replicate}
use Rattle.field.proofs.Curves.{size_le}
use Rattle.poly.specs.Inner.Ranges.{writes}
use Rattle.poly.proofs.Writes.{writes_turn}
use Rattle.linear.proofs.vectors.write_factors_in.Goals as goal

pub loop-s-init : goal.loop-s-init
unfolding writes
loop-s-init g c = (omega arith, refl, refl)

pub times-requires-clause-symbols : goal.times-requires-clause-symbols
times-requires-clause-symbols g c =
    let l = c.loop-s in
    let small = size_le c.args.q in
    let symbols = c.requires.symbols in
    (omega (arith, symbols.1), rw (get_or-replicate 64 l.s c.args.c 0 (omega (arith, small, symbols.1))) symbols.0)

pub loop-s-preserved : goal.loop-s-preserved
loop-s-preserved g c =
    let l = c.loop-s in
    let small = size_le c.args.q in
    let same = get_or-replicate 64 l.s c.args.c 0 (omega (arith, small, c.requires.symbols.1)) in
    (omega arith, simp length-set l.invariant.1, writes_turn _ _ l.factors l.s _ l.invariant.2 (cc (same, c.times.ensures)))
