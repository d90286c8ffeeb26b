-- `short_line` meets its contract.
-- Assumes nothing.
use mathlib.Core.List.{append_assoc}
use native.Mathlib.Omega.{arith}
use Rattle.lines.specs.Line.{short_line}
use Rattle.lines.proofs.Texts.{next}
use Rattle.lines.proofs.short_line.Goals as goal

pub returns : goal.returns
unfolding short_line
returns c =
    let number = c.decimal_then-a.ensures in
    let size = c.decimal_then.ensures in
    (simp append_assoc at (next number.0 size.0), omega arith)
