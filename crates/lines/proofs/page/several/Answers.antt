-- `page::several` meets its contract: a number of 16 bits takes five digits at the most.
-- Assumes nothing.
use mathlib.Core.Path.{sym}
use native.Mathlib.Omega.{arith}
use Rattle.lines.specs.Page.{several_text}
use Rattle.lines.proofs.Texts.{next}
use Rattle.lines.proofs.Decimals.{length_16_bits}
use Rattle.lines.proofs.page.several.Goals as goal

pub decimal-requires : goal.decimal-requires
decimal-requires c = omega (arith, length_16_bits c.from.result (omega arith))

pub returns : goal.returns
unfolding several_text
returns c =
    let word = c.bytes-end.ensures in
    let r = c.decimal.ensures in
    (rw (sym c.from.ensures) (next word r), omega (arith, r.ends, word.ends, length_16_bits c.from.result (omega arith)))
