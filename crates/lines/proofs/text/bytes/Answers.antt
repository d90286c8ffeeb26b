-- `text::bytes` meets its contract.
-- Assumes nothing.
use mathlib.Core.Path.{refl}
use Rattle.lines.proofs.Texts.{part_written}
use Rattle.lines.proofs.text.bytes.Goals as goal

pub returns : goal.returns
returns c =
    let a = c.args in
    part_written a.out.now a.text.now a.at _ c.copy_from_slice.new.self refl c.requires c.copy_from_slice.ensures.after
