-- `field::symbol::plus` meets its contract: the code's exclusive or is the sum.
-- Assumes nothing.
use Rattle.field.proofs.Plus.{is_plus}
use Rattle.field.proofs.symbol.plus.Goals as goal

pub returns : goal.returns
returns c = is_plus _ _
