-- `field::symbol::inverse` meets its contract: the rule of each table of inverses, by one computed test.
-- Assumes nothing.
use mathlib.Core.Path.{◌≡◌, ap}
use Rattle.std.proofs.Common.{rules}
use Rattle.field.specs.Curve.{bits_of}
use Rattle.field.specs.Product.{inverse}
use Rattle.field.proofs.Table.{entry}
use Rattle.field.proofs.symbol.inverse.Goals as goal

pub returns-in-8 : goal.returns-in-8
unfolding inverse
returns-in-8 c =
    let bits : bits_of c.args.q ≡ 6 = ap bits_of c.in-8.is in
    let below = rw bits at c.requires.0 in
    rw bits (search (entry (inverse 6) 64, below))

pub returns-in-2 : goal.returns-in-2
unfolding inverse
returns-in-2 c =
    let bits : bits_of c.args.q ≡ 2 = ap bits_of c.in-2.is in
    let below = rw bits at c.requires.0 in
    rw bits (search (entry (inverse 2) 4, below))

pub returns-in_default : goal.returns-in_default
unfolding inverse
returns-in_default c =
    let bits : bits_of c.args.q ≡ 4 = search rules in
    let below = rw bits at c.requires.0 in
    rw bits (search (entry (inverse 4) 16, below))
