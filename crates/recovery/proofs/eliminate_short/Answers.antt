-- `recovery::eliminate_short` meets its contract: the entries of a weight above m are marked, and the vectors taken out at these.
-- Assumes nothing.
use mathlib.Core.Path.{sym, subst}
use Prim.Native.Nat.{ℕ}
use Rattle.field.proofs.Fields.{field_of}
use Rattle.poly.proofs.Entries.{zeros}
use Rattle.linear.specs.Inner.Combinations.{rows_from, Eliminated}
use Rattle.linear.specs.Inner.Eliminating.{marked}
use Rattle.recovery.proofs.HeavyMarks.{high_long, heavy_masks, heavy_eliminated, short_half}
use Rattle.recovery.proofs.eliminate_short.Goals as goal

pub eliminate_short-requires : goal.eliminate_short-requires
eliminate_short-requires c =
    let k = c.mark in
    let high = k.new.high in record {
      q_bound = (
        short_half c.args.q c.requires.short.0,
        high_long c.args.q c.args.m (zeros 64) high k.ensures,
        heavy_masks c.args.q c.args.m (zeros 64) high k.ensures,
      );
      vectors_len = (c.requires.short.2, c.requires.short.3);
      grid_len = c.requires.grid_len;
    }

pub returns : goal.returns
returns c =
    let x = c.args in
    let k = c.mark in
    let e = c.eliminate_short in
    let high = k.new.high in record {
      below = e.ensures.below;
      eliminated = heavy_eliminated x.q x.m (zeros 64) high k.ensures x.count x.vectors.now x.grid.now e.new.vectors e.new.grid e.result
          (subst (λ (n : ℕ). Eliminated (field_of x.q) (marked high) n x.count (rows_from n 0 x.vectors.now x.grid.now) x.count e.result
          (rows_from n x.count e.new.vectors e.new.grid)) (sym (high_long x.q x.m (zeros 64) high k.ensures)) e.ensures.eliminated);
    }
