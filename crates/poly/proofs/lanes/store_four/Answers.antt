-- `poly::lanes::store_four` meets its contract: four stores.
-- Assumes nothing.
use mathlib.Core.Path.{sym, ap}
use Prim.Native.Nat.{ℕ}
use Rattle.poly.specs.Inner.Rows.{stored}
use Rattle.poly.specs.Inner.Ranges.{writes}
use Rattle.poly.proofs.lanes.store_four.Goals as goal

pub returns : goal.returns
unfolding stored writes
returns c =
    ap (λ (n : ℕ). stored n c.args.a.now c.args.out.now) (sym c.requires)
