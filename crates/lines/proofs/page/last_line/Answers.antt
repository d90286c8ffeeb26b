-- `page::last_line` meets its contract: the spaces are as many as the line lacks.
-- Assumes nothing.
use Rattle.field.specs.Outcomes.{number, second}
use Rattle.lines.proofs.Pages.{last_line_whole}
use Rattle.lines.proofs.page.last_line.Goals as goal

pub returns : goal.returns
returns c =
    let outcome = c.args.outcome in
    let v = c.result_text-a in
    let s = c.bytes-b in
    last_line_whole (number outcome) (second outcome) v.ensures.0 v.ensures.1 s.ensures c.bytes.ensures
