-- The product of short blocks meets its contract: all bits of a symbol are among four.
-- Assumes nothing.
use mathlib.Core.Path.{sym, ◌∙◌}
use Rattle.field.proofs.Formula.{times_by_four}
use Rattle.field.proofs.symbol.ShortBlocksProduct.times.Goals as goal

pub returns : goal.returns
returns c =
    let symbols = c.requires.symbols in
    c.times_four_bits.ensures ∙ sym (times_by_four c.args.q c.args.a c.args.b c.requires.blocks symbols.0 symbols.1)
