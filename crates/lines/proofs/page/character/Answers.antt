-- `page::character` meets its contract.
-- Assumes nothing.
use mathlib.Core.Path.{sym, ◌∙◌}
use Rattle.lines.proofs.Pages.{character_symbol, character_missing, character_bad}
use Rattle.lines.proofs.page.character.Goals as goal

pub returns-then-value-lt16 : goal.returns-then-value-lt16
returns-then-value-lt16 c = c.hex_digit.ensures ∙ sym (character_symbol c.args.value c.if-value-lt16.true)

pub returns-then-value-eq255 : goal.returns-then-value-eq255
returns-then-value-eq255 c = sym (character_missing c.args.value c.if-value-eq255.true)

pub returns-else-value-eq255 : goal.returns-else-value-eq255
returns-else-value-eq255 c = sym (character_bad c.args.value c.if-value-lt16.false c.if-value-eq255.false)
