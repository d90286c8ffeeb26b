-- `text::decimal_then` meets its contract.
-- Assumes nothing.
use native.Mathlib.Omega.{arith}
use Rattle.lines.proofs.Texts.{next}
use Rattle.lines.proofs.Decimals.{length_decimal}
use Rattle.lines.proofs.text.decimal_then.Goals as goal

pub decimal-end-requires : goal.decimal-end-requires
decimal-end-requires c = omega (arith, length_decimal c.args.n (omega arith))

pub bytes-requires : goal.bytes-requires
bytes-requires c = omega (arith, length_decimal c.args.n (omega arith))

pub returns : goal.returns
returns c = (
  next c.decimal-end.ensures c.bytes.ensures,
  omega (arith, length_decimal c.args.n (omega arith)),
)
