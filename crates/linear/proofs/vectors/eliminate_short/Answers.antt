-- `linear::vectors::eliminate_short` meets its contract: arrays are lent.
-- Assumes nothing.
use mathlib.Core.Path.{refl, sym, ◌∙◌, ap, subst}
use Prim.Native.Nat.{ℕ, ◌*◌}
use Rattle.field.specs.Inner.Halves.{half_of}
use Rattle.field.proofs.Fields.{field_of}
use Rattle.poly.proofs.Entries.{zeros}
use Rattle.linear.specs.Inner.Eliminating.{Table}
use Rattle.linear.proofs.PivotTables.{zero_table}
use Rattle.linear.proofs.vectors.eliminate_short.Goals as goal

pub eliminate-requires : goal.eliminate-requires
eliminate-requires c =
    let x = c.args in
    let high = x.high.now in
    let t = subst (λ (n : ℕ). Table (field_of x.q) n (half_of x.q) (zeros 256)) (sym c.requires.q_bound.1) (zero_table x.q 64 256 refl c.requires.q_bound.0) in
    record {
      table = (t, t, c.requires.q_bound.2);
      vectors_len = (c.requires.vectors_len.0 ∙ ap (λ (n : ℕ). n * x.count) (sym c.requires.q_bound.1), c.requires.vectors_len.1);
      grid_len = (c.requires.grid_len.0 ∙ sym c.requires.q_bound.1, c.requires.grid_len.1);
    }
