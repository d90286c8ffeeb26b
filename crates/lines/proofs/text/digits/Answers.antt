-- `text::digits` meets its contract.
-- Assumes nothing.
use native.Mathlib.Omega.{arith}
use lib.ListN.{length-set}
use Rattle.lines.specs.Text.{hex_digit}
use Rattle.lines.proofs.Texts.{map_turn}
use Rattle.lines.proofs.text.digits.Goals as goal

pub loop-value-preserved : goal.loop-value-preserved
loop-value-preserved c =
    let l = c.loop-value in
    let a = c.args in (
      omega arith,
      simp length-set l.invariant.1,
      map_turn hex_digit a.out.now a.values.now a.at l.out l.value-index l.end _ l.invariant.2 l.invariant.0
          c.loop-value-test.true c.hex_digit.ensures,
    )
