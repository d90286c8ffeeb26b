-- `systematic::places::are_good` meets its contract: the first i places ascend below n.
-- Assumes nothing.
use native.Mathlib.Omega.{arith}
use Rattle.poly.proofs.Ascending.{not_ascending, not_below, all_ascend}
use Rattle.systematic.proofs.PlaceLists.{are_good, not_many, not_good}
use Rattle.systematic.proofs.places.are_good.Goals as goal

pub returns-then-places-k : goal.returns-then-places-k
returns-then-places-k c = not_many _ _ _ c.if-places-k.true

pub returns-then-p-least : goal.returns-then-p-least
returns-then-p-least c = let l = c.loop-i in not_good _ _ _ (not_ascending _ _ l.least l.i l.invariant (omega arith) c.if-p-least.true)

pub returns-then-n-p : goal.returns-then-n-p
returns-then-n-p c = let l = c.loop-i in not_good _ _ _ (not_below _ _ l.least l.i l.invariant (omega arith) c.if-n-p.true)

pub returns : goal.returns
returns c =
    let l = c.loop-i in
    are_good _ _ _ (omega (arith, c.if-places-k.false)) (all_ascend _ _ l.least l.i l.invariant (omega (arith, c.loop-i-test.false)))
