-- `recovery::eliminate` meets its contract: the entries of a weight above m are marked, and the vectors taken out at these.
-- Assumes nothing.
use mathlib.Core.Path.{sym, ap, ◌∙◌, subst}
use Prim.Native.Nat.{ℕ, ◌*◌}
use Rattle.field.specs.Inner.Halves.{half_of}
use Rattle.field.proofs.Fields.{field_of}
use Rattle.linear.specs.Inner.Eliminating.{Table}
use Rattle.recovery.proofs.HeavyMarks.{high_long, heavy_masks, heavy_eliminated}
use Rattle.recovery.proofs.eliminate.Goals as goal

pub eliminate-requires : goal.eliminate-requires
eliminate-requires c =
    let x = c.args in
    let k = c.mark in
    let e = high_long x.q x.m x.high.now k.new.high k.ensures in
    let F = field_of x.q in record {
      table = (
        subst (λ (n : ℕ). Table F n (half_of x.q) x.low.now) (sym e) c.requires.table.0,
        subst (λ (n : ℕ). Table F n (half_of x.q) x.top.now) (sym e) c.requires.table.1,
        heavy_masks x.q x.m x.high.now k.new.high k.ensures,
      );
      vectors_len = (c.requires.curve.3 ∙ ap (λ (n : ℕ). n * x.count) (sym e), c.requires.curve.4);
      grid_len = (c.requires.grid_len.0 ∙ sym e, c.requires.grid_len.1);
    }

pub returns : goal.returns
returns c =
    let x = c.args in
    let k = c.mark in
    let e = c.eliminate in
    record {
      below = e.ensures.below;
      eliminated = heavy_eliminated x.q x.m x.high.now k.new.high k.ensures x.count x.vectors.now x.grid.now e.new.vectors e.new.grid e.result e.ensures.eliminated;
    }
