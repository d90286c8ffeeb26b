-- `code::term::entry` meets its contract: the entry is what the weight says it is.
-- Assumes nothing.
use mathlib.Core.Path.{sym, ◌∙◌}
use Rattle.code.proofs.Weights.{curve_pos}
use Rattle.code.proofs.GridEntries.{entry_is, entry_number}
use Rattle.code.proofs.term.entry.Goals as goal

pub returns : goal.returns
returns c =
    let number = entry_number c.args.q (curve_pos c.args.q c.requires.0) in
    λ m l. entry_is c.args.q c.weight-w.result _ _ c.divide-d.ensures
    ∙ sym (number m c.args.n _ c.weight-w.ensures l)
