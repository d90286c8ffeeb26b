-- `mend::product::times_y_at` meets its contract. Assumes nothing.
use mathlib.Core.Path.{ap}
use Prim.Native.Nat.{◌*◌}
use borrow.Author.Tests.{eq-eqb, ne_eqb}
use lib.ListN.{get_or}
use Rattle.field.specs.Plus.{plus}
use Rattle.mend.proofs.product.times_y_at.Goals as goal

pub returns-then-j-eq1 : goal.returns-then-j-eq1
unfolding plus
returns-then-j-eq1 c =
    let a = c.args in
    let j = a.j in
    rw (ne_eqb j 0 c.if-j-eq0.false, eq-eqb j 1 c.if-j-eq1.true) (ap (plus (get_or a.grid.now
    (a.q * a.i) 0)) c.top.ensures)
