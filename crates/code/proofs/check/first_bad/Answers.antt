-- `code::check::first_bad` meets its contract: where the highest value is a symbol none is bad; else what is left of the list is searched
-- as the list is.
-- Assumes nothing.
use mathlib.Core.Path.{◌≡◌, sym, ◌∙◌}
use lib.ListN.{length}
use native.Mathlib.Omega.{arith}
use Rattle.field.proofs.Values.{bad_found, bad_turn, bad_none}
use Rattle.code.proofs.Highest.{symbols_good}
use Rattle.code.proofs.check.first_bad.Goals as goal

pub returns-then-highest-size : goal.returns-then-highest-size
returns-then-highest-size c =
    let x = c.args in
    symbols_good x.gaps x.size x.values.now c.highest.result c.highest.ensures c.if-highest-size.true

pub returns-then-is_bad : goal.returns-then-is_bad
returns-then-is_bad c =
    let l = c.loop-i in
    bad_found _ _ l.i l.invariant.1 c.loop-i-test.true (sym c.is_bad.ensures ∙ c.if-is_bad.true)

pub loop-i-preserved : goal.loop-i-preserved
loop-i-preserved c =
    let l = c.loop-i in
    (omega arith, bad_turn _ _ l.i l.invariant.1 c.loop-i-test.true (sym c.is_bad.ensures ∙ c.if-is_bad.false))

pub returns : goal.returns
returns c =
    let l = c.loop-i in
    let all : length c.args.values.now ≡ l.i = omega (arith, l.invariant.0, c.loop-i-test.false) in
    all ∙ bad_none _ _ l.i l.invariant.1 c.loop-i-test.false
