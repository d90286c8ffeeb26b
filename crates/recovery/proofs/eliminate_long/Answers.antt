-- `recovery::eliminate_long` meets its contract: arrays are lent.
-- Assumes nothing.
use mathlib.Core.Path.{refl}
use native.Mathlib.Omega.{arith}
use Rattle.field.proofs.Curves.{long_curve}
use Rattle.linear.proofs.PivotTables.{zero_table}
use Rattle.recovery.proofs.eliminate_long.Goals as goal

pub eliminate-requires : goal.eliminate-requires
eliminate-requires c =
    let t = zero_table 8 512 4096 refl (omega arith) in
    record {
      curve = (long_curve, c.requires.m_bound.0, omega arith, c.requires.m_bound.1, c.requires.m_bound.2);
      table = (t, t);
      grid_len = c.requires.grid_len;
    }
