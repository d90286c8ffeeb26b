-- `page::column_lines` meets its contract. The invariant of its loop: the lines of the first x columns are written.
-- Assumes nothing.
use mathlib.Core.Path.{refl, ◌∙◌}
use native.Mathlib.Omega.{arith}
use Rattle.lines.specs.Page.{column_line}
use Rattle.lines.proofs.Texts.{joined_none, joined_more}
use Rattle.lines.proofs.page.column_lines.Goals as goal

pub loop-x-init : goal.loop-x-init
loop-x-init c = (omega arith, omega arith, refl, joined_none _ _ _)

pub loop-x-preserved : goal.loop-x-preserved
loop-x-preserved c =
    let block = c.args.block.now in
    let l = c.loop-x in
    let r = c.column_line-end in
    (omega arith, omega arith, r.auto.out ∙ l.invariant.2, joined_more (column_line block) l.invariant.3 r.ensures.0)
