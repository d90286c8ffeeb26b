-- `mend::product::times_x` meets its contract: a copy one row further, and the last row added to row 1. Assumes nothing.
use Rattle.mend.proofs.Rotations.{times_x_written}
use Rattle.mend.proofs.product.times_x.Goals as goal

pub returns : goal.returns
returns c =
    let a = c.args in
    times_x_written a.q a.n c.requires.0 c.requires.1 a.grid.now c.requires.2 c.requires.3 _ _
    c.copy.ensures c.add.ensures
