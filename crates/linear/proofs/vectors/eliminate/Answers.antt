-- `linear::vectors::eliminate` meets its contract. The invariant of its loop: the first t vectors were taken.
-- Assumes nothing.
use mathlib.Core.Path.{◌∙◌}
use Prim.Native.Nat.{◌*◌}
use lib.ListN.{length}
use Rattle.field.proofs.Fields.{field_of}
use Rattle.poly.proofs.Parts.{below_part}
use Rattle.linear.proofs.Eliminating.{rest_long, eliminating_turn}
use Rattle.linear.proofs.vectors.eliminate.Goals as goal

pub step-rank-requires : goal.step-rank-requires
step-rank-requires c =
    let l = c.loop-t in record {
      table = (l.invariant.0.0, l.invariant.0.1, c.requires.table.2);
      vectors_len = (
        rest_long (field_of c.args.q) c.args.count c.args.high.now c.args.vectors.now c.args.grid.now c.requires.vectors_len.0
            l.vectors l.grid l.rank l.t l.auto.vectors l.invariant.1 c.loop-t-test.true,
        below_part (field_of c.args.q).size l.vectors (length c.args.high.now * l.t) (length l.vectors) l.invariant.1.symbols,
      );
      grid_len = (l.auto.grid ∙ c.requires.grid_len.0, l.invariant.1.grid_symbols);
    }

pub loop-t-preserved : goal.loop-t-preserved
loop-t-preserved c =
    let l = c.loop-t in
    let t = c.step-rank in (
      t.ensures.table_2,
      eliminating_turn (field_of c.args.q) c.args.count c.args.high.now c.args.vectors.now c.args.grid.now c.requires.vectors_len.0
          l.vectors l.grid l.rank l.t l.auto.vectors l.invariant.1 c.loop-t-test.true t.new.vectors t.new.grid
          t.result t.auto.vectors t.ensures.stepped,
    )
