-- `page::page` meets its contract.
-- Assumes nothing.
use mathlib.Core.Path.{sym}
use native.Mathlib.Omega.{arith}
use Rattle.lines.proofs.Texts.{next}
use Rattle.lines.proofs.Pages.{page_whole}
use Rattle.lines.proofs.page.page.Goals as goal

pub returns : goal.returns
returns c =
    let r = c.recover-outcome in
    let whole = page_whole c.args.block.now r.result r.new.message r.ensures in
    (rw (sym whole) (next c.column_lines-last.ensures.0 c.last_line.ensures.0), omega arith)
