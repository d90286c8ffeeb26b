-- `no_line` meets its contract.
-- Assumes nothing.
use mathlib.Core.Path.{◌≡◌, sym}
use mathlib.Core.List.{append_assoc}
use native.Mathlib.Omega.{arith}
use Rattle.field.specs.Outcomes.{refusal_number, refusal_second}
use Rattle.lines.specs.Line.{no_line}
use Rattle.lines.proofs.Texts.{next}
use Rattle.lines.proofs.no_line.Goals as goal

pub returns : goal.returns
unfolding no_line
returns c =
    let number = c.decimal_then-a.ensures in
    let refusal = c.decimal_then-b.ensures in
    let second = c.decimal_then.ensures in
    let numbers : (c.from.result ≡ refusal_number c.args.refusal) × (c.from-2.result ≡ refusal_second c.args.refusal) = (cc, cc) in
    (rw (sym numbers.0, sym numbers.1) (simp append_assoc at (next number.0 (next refusal.0 second.0))), omega arith)
