-- `code::encoding::evaluate_message` meets its contract: the message's coefficients are laid out, and their polynomials evaluated.
-- Assumes nothing.
use mathlib.Core.Path.{ap}
use Prim.Native.Nat.{ℕ, ◌+◌}
use native.Mathlib.Omega.{arith}
use Rattle.code.proofs.Stages.{columns_short, grid_rows, short_staged}
use Rattle.code.proofs.encoding.evaluate_message.Goals as goal

pub evaluate_rows-requires : goal.evaluate_rows-requires
evaluate_rows-requires c =
    let a = c.args in
    let h = c.requires.encodable.0 in
    let e = c.scatter in
    let n = ap (λ (x : ℕ). x + 1) c.divide-last.ensures.0 in
    let rows = grid_rows a.q a.columns.now a.m a.message.now _ h _ n in
    let short = columns_short a.q a.columns.now h.over c.requires.encodable.1 h.few in record {
      staged = (short_staged a.q a.columns.now a.m a.message.now _ h c.requires.encodable.1 _ _ e.ensures, c.requires.below.0);
      le_n = (omega arith, omega (arith, e.auto.grid, short, rows.1), c.requires.below.1);
    }
