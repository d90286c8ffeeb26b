-- `poly::lanes::load_four` meets its contract: four stores.
-- Assumes nothing.
use native.Mathlib.Omega.{arith}
use Rattle.poly.specs.Inner.Ranges.{writes}
use Rattle.poly.proofs.LaneLaws.{lanes_first}
use Rattle.poly.proofs.lanes.load_four.Goals as goal

pub returns : goal.returns
unfolding writes
returns c = lanes_first c.args.list.now 4 (omega arith) (omega arith)
