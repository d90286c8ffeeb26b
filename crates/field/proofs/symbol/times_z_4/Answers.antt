-- `field::symbol::times_z_4` meets its contract.
-- Assumes nothing.
use mathlib.Core.Path.{refl}
use Rattle.field.proofs.Formula.{times_z_symbol}
use Rattle.field.proofs.symbol.times_z_4.Goals as goal

pub shift-a2-requires : goal.shift-a2-requires
shift-a2-requires c = (refl, times_z_symbol 8 c.args.a c.shift-a1.result c.shift-a1.ensures)

pub shift-a3-requires : goal.shift-a3-requires
shift-a3-requires c = (refl, times_z_symbol 8 c.shift-a1.result c.shift-a2.result c.shift-a2.ensures)

pub shift-requires : goal.shift-requires
shift-requires c = (refl, times_z_symbol 8 c.shift-a2.result c.shift-a3.result c.shift-a3.ensures)
