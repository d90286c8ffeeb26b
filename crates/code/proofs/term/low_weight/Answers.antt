-- `code::term::low_weight` meets its contract: the rows before the row are full, and hold no more than n terms.
-- Assumes nothing.
use Rattle.code.proofs.Weights.{curve_pos, low_weight}
use Rattle.code.proofs.term.low_weight.Goals as goal

pub returns : goal.returns
returns c =
    let l = c.loop-before in
    let q = c.args.q in
    low_weight q (curve_pos q c.requires.0) l.row l.before c.args.n l.invariant.0 l.invariant.2 l.invariant.1 c.loop-before-test.false
