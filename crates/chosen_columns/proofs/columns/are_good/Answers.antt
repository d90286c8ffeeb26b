-- `chosen_columns::columns::are_good` meets its contract: the first i columns ascend below the size.
-- Assumes nothing.
use native.Mathlib.Omega.{arith}
use Rattle.poly.proofs.Ascending.{not_ascending, not_below, all_ascend}
use Rattle.chosen_columns.proofs.ColumnLists.{are_good, none_given, not_good}
use Rattle.chosen_columns.proofs.columns.are_good.Goals as goal

pub returns-then-columns-eq0 : goal.returns-then-columns-eq0
returns-then-columns-eq0 c = none_given _ _ c.if-columns-eq0.true

pub returns-then-x-least : goal.returns-then-x-least
returns-then-x-least c = let l = c.loop-i in not_good _ _ (not_ascending _ _ l.least l.i l.invariant (omega arith) c.if-x-least.true)

pub returns-then-size-x : goal.returns-then-size-x
returns-then-size-x c = let l = c.loop-i in not_good _ _ (not_below _ _ l.least l.i l.invariant (omega arith) c.if-size-x.true)

pub returns : goal.returns
returns c =
    let l = c.loop-i in
    are_good _ _ (omega (arith, c.if-columns-eq0.false)) (all_ascend _ _ l.least l.i l.invariant (omega (arith, c.loop-i-test.false)))
