-- `mend::product::turned` meets its contract. Assumes nothing.
use mathlib.Core.Path.{ap₂}
use borrow.Author.Tests.{eq-eqb, ne_eqb, le-ltb}
use Rattle.field.specs.Plus.{plus}
use Rattle.mend.proofs.product.turned.Goals as goal

pub returns-then-i-width-2 : goal.returns-then-i-width-2
unfolding plus
returns-then-i-width-2 c =
    let i = c.args.i in
    rw (
      ne_eqb i 0 c.if-i-eq0.false,
      le-ltb i _ c.if-i-width.false,
      eq-eqb i _ c.if-i-width-2.true,
    ) (ap₂ plus c.top-then-i-width-2.ensures c.top-then-i-width-2-2.ensures)
