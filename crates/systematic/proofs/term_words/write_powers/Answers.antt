-- `systematic::term_words::write_powers` meets its contract. The invariant of its loop: the rows of the powers below i are written.
-- Assumes nothing.
use Rattle.systematic.proofs.TermRows.{powers_none, powers_more}
use Rattle.systematic.proofs.term_words.write_powers.Goals as goal

pub loop-i-init : goal.loop-i-init
loop-i-init c =
    powers_none c.args.q c.args.base.now c.args.table.now c.requires.count_in_bounds.1

pub loop-i-preserved : goal.loop-i-preserved
loop-i-preserved c =
    let a = c.args in
    let l = c.loop-i in
    powers_more a.q a.base.now a.table.now l.table l.row l.at l.i a.count l.invariant c.loop-i-test.true c.requires.count_in_bounds.0
    _ _ c.copy.ensures c.multiply.ensures
