-- `text::decimal` meets its contract, by recursion on the number. Assumes nothing.
use native.Mathlib.Omega.{arith}
use Rattle.lines.proofs.Decimals.{length_small, length_large, small_written, large_written}
use Rattle.lines.proofs.text.+decimal.Goals as goal

pub bounds-out-at : goal.bounds-out-at
bounds-out-at t c = omega (arith, length_small c.args.n c.if-n-lt10.true, c.requires)

pub returns-then-n-lt10 : goal.returns-then-n-lt10
returns-then-n-lt10 t c = small_written c.args.out.now c.args.at c.args.n c.if-n-lt10.true

pub decimal-end-requires : goal.decimal-end-requires
decimal-end-requires t c = (omega arith, omega (arith, length_large c.args.n c.if-n-lt10.false, c.requires))

pub bounds-out-end : goal.bounds-out-end
bounds-out-end t c =
    omega (arith, length_large c.args.n c.if-n-lt10.false, c.requires, c.decimal-end.ensures.ends, c.decimal-end.auto.out)

pub overflow_add-result-2 : goal.overflow_add-result-2
overflow_add-result-2 t c =
    omega (arith, length_large c.args.n c.if-n-lt10.false, c.requires, c.decimal-end.ensures.ends, c.decimal-end.auto.out)

pub returns : goal.returns
returns t c = large_written _ _ _ _ c.args.n c.if-n-lt10.false c.decimal-end.ensures
