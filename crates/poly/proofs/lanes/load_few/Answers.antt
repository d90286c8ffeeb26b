-- `poly::lanes::load_few` meets its contract.
-- Assumes nothing.
use mathlib.Core.Path.{◌∙◌}
use native.Mathlib.Omega.{arith}
use lib.ListN.{length}
use Rattle.poly.specs.Inner.Rows.{stored}
use Rattle.poly.proofs.LaneLaws.{lanes_first}
use Rattle.poly.proofs.lanes.load_few.Goals as goal

pub returns : goal.returns
unfolding stored
returns c =
    c.copy.ensures ∙ lanes_first c.args.list.now (length c.args.list.now) (omega arith) c.requires
