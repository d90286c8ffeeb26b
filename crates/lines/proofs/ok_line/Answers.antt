-- `ok_line` meets its contract.
-- Assumes nothing.
use mathlib.Core.List.{append_assoc}
use native.Mathlib.Omega.{arith}
use lib.ListN.{length-map}
use Rattle.lines.specs.Text.{hex_digit}
use Rattle.lines.specs.Line.{ok_line}
use Rattle.lines.proofs.Texts.{next}
use Rattle.lines.proofs.ok_line.Goals as goal

pub returns : goal.returns
unfolding ok_line
returns c =
    let message = c.args.message.now in
    let number = c.decimal_then-a.ensures in
    let digits = c.digits-b.ensures in
    let end = c.bytes.ensures in
    (simp append_assoc at (next number.0 (next digits end)), omega (arith, length-map message hex_digit))
