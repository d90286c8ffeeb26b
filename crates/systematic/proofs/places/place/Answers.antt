-- `systematic::places::place` meets its contract: the first i symbols are laid out.
-- Assumes nothing.
use mathlib.Core.Path.{refl, sym}
use native.Mathlib.Omega.{arith}
use lib.ListN.{length-set}
use Rattle.code.proofs.GridEntries.{laid_none, laid_turn}
use Rattle.systematic.proofs.places.place.Goals as goal

pub loop-i-init : goal.loop-i-init
loop-i-init c = let x = c.args in (omega arith, refl, sym (laid_none x.places.now x.symbols.now x.word.now))

pub loop-i-preserved : goal.loop-i-preserved
loop-i-preserved c =
    let x = c.args in
    let l = c.loop-i in
    (omega arith, simp length-set l.invariant.1, laid_turn x.places.now x.symbols.now x.word.now l.word l.i _ l.invariant.2 refl)
