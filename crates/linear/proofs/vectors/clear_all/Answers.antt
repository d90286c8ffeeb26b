-- `linear::vectors::clear_all` meets its contract. The invariant of its loop: the first k vectors are cleared.
-- Assumes nothing.
use Rattle.field.proofs.Fields.{field_of}
use Rattle.poly.specs.Inner.Linear.{entry}
use Rattle.linear.proofs.Eliminating.{cleared_turn}
use Rattle.linear.proofs.vectors.clear_all.Goals as goal

pub loop-k-preserved : goal.loop-k-preserved
loop-k-preserved c =
    let l = c.loop-k in
    cleared_turn (field_of c.args.q) c.args.n c.args.i (entry c.args.factors.now 1) c.args.count c.args.low.now
    c.args.vectors.now c.requires.clearing.place c.requires.vectors_len.0 l.vectors l.k l.auto.vectors l.invariant
    c.loop-k-test.true c.clear.new.w c.clear.ensures
