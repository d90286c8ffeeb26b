-- `session::replay::receive` meets its contract: the session so far is handed on along what is left of the lists.
-- Assumes nothing.
use mathlib.Core.Path.{sym, ◌∙◌}
use native.Mathlib.Omega.{arith}
use lib.ListN.{length}
use Rattle.session.proofs.Replays.{least_end, receive_next, receive_end}
use Rattle.session.proofs.replay.receive.Goals as goal

pub loop-i-preserved : goal.loop-i-preserved
loop-i-preserved c =
    let l = c.loop-i in
    let t = c.loop-i-test.true in
    let m = c.min.ensures in
    let n = c.min-count.ensures in
    l.invariant ∙ receive_next l.session _ _ _ l.i (omega (arith, t, m, n)) (omega (arith, t, m, n)) (omega (arith, t, m, n)) _ c.arrive.ensures

pub returns : goal.returns
returns c =
    let l = c.loop-i in
    let x = c.args in
    sym (l.invariant ∙ receive_end l.session _ _ _ l.i
    (least_end (length x.places.now) (length x.symbols.now) (length x.rounds.now) l.i (omega (arith, c.loop-i-test.false, c.min.ensures, c.min-count.ensures))))
