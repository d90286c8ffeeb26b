-- `page::result_text` meets its contract.
-- Assumes nothing.
use native.Mathlib.Omega.{arith}
use Rattle.lines.proofs.Pages.{done_says, none_says, several_says, bad_says}
use Rattle.lines.proofs.page.result_text.Goals as goal

pub returns-in_default : goal.returns-in_default
returns-in_default c = (rw (done_says c.args.outcome c.in_default.is) c.bytes.ensures, omega arith)

pub returns-in-NoMessage : goal.returns-in-NoMessage
returns-in-NoMessage c =
    let says = none_says c.args.outcome c.in-Err.refusal c.in-Err.is c.in-NoMessage.is in
    (rw says c.bytes-in-NoMessage.ensures, omega arith)

pub returns-in-Several : goal.returns-in-Several
returns-in-Several c =
    let says = several_says c.args.outcome c.in-Err.refusal c.in-Err.is c.in-Several.r c.in-Several.is in
    (rw says c.several.ensures.0, omega arith)

pub returns-in_default-refusal : goal.returns-in_default-refusal
returns-in_default-refusal c =
    let other = c.in_default-refusal in
    let says = bad_says c.args.outcome c.in-Err.refusal c.in-Err.is other.not-NoMessage other.not-Several in
    (rw says c.bytes-in_default-refusal.ensures, omega arith)
