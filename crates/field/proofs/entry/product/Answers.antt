-- `field::entry::product` meets its contract: operands whose check is Done are symbols, and a refusal has the symbol 0.
-- Assumes nothing.
use mathlib.Core.Path.{sym, ◌∙◌}
use Rattle.field.proofs.Entries.{pair_lt}
use Rattle.field.proofs.entry.product.Goals as goal

pub times-requires : goal.times-requires
times-requires c =
    let x = c.args in
    pair_lt x.q x.a x.b (sym c.check.ensures ∙ c.in_ok-check.was)
