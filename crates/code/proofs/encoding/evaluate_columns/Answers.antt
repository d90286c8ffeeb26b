-- `code::encoding::evaluate_columns` meets its contract: each turn writes the part of one column.
-- Assumes nothing.
use mathlib.Core.Path.{refl, ◌∙◌}
use Prim.Native.Nat.{◌+◌, ◌-◌, ◌*◌, ◌≤◌, ◌<◌}
use native.Mathlib.Omega.{arith}
use borrow.Rule.Slice.PartMut.{same_len_mid, mid_len}
use lib.ListN.{length, get_or}
use Rattle.field.proofs.Curves.{sizes}
use Rattle.poly.proofs.Blocks.{block_start, block_fits}
use Rattle.points.proofs.YsTables.{taken_below, taken_at}
use Rattle.code.proofs.Stages.{columns_turn}
use Rattle.code.proofs.encoding.evaluate_columns.Goals as goal
use Rattle.code.proofs.encoding.evaluate_columns.Goals.{In-loop-t}

-- the column's part is within the word, and its y are within all
fits : (c : goal.In-loop-t)
    → c.loop-t.at + c.args.q ≤ length c.loop-t.word
fits c =
    let l = c.loop-t in
    omega (arith, l.invariant.1, l.invariant.2, c.requires.staged.2, block_fits c.args.q l.t (length c.args.columns.now) (omega arith))

column_small : (c : goal.In-loop-t)
    → let x = c.args in get_or x.columns.now c.loop-t.t 0 < x.q * x.q
column_small c =
    omega (arith, c.requires.staged.0.columns_below c.loop-t.t, (sizes c.args.q c.requires.staged.0.curve).size)

pub evaluate_column-requires : goal.evaluate_column-requires
evaluate_column-requires c =
    let x = c.args in
    let l = c.loop-t in record {
      curve = (
        c.requires.staged.0.curve,
        taken_below x.q (get_or x.columns.now l.t 0) _ _ c.requires.padded_ys c.take-ys.ensures,
        c.requires.staged.0.symbols,
      );
      t_bound = (
        omega (arith, c.requires.staged.0.few, c.loop-t-test.true),
        c.requires.staged.1,
        mid_len l.at (l.at + x.q) l.word (fits (goal.at.evaluate_column-requires c).In-loop-t) ∙ omega arith,
      );
    }

pub loop-t-preserved : goal.loop-t-preserved
loop-t-preserved c =
    let x = c.args in
    let l = c.loop-t in
    let ys = c.take-ys in
    let e = c.evaluate_column in
    let last = e.new.part in (
      omega arith,
      block_start x.q l.t l.at (l.at + x.q) l.invariant.1 refl,
      same_len_mid l.at (l.at + x.q - l.at) l.word last e.auto.part ∙ l.invariant.2,
      columns_turn x.q x.columns.now x.rows.now l.word ys.result last l.t l.at l.invariant.3 l.invariant.1 (fits (goal.at.loop-t-preserved c).In-loop-t)
          (e.auto.part ∙ mid_len l.at (l.at + x.q) l.word (fits (goal.at.loop-t-preserved c).In-loop-t) ∙ omega arith) e.ensures
          (taken_at x.q (get_or x.columns.now l.t 0) x.all.now ys.result c.requires.padded_ys ys.ensures c.requires.staged.0.curve (column_small (goal.at.loop-t-preserved c).In-loop-t)),
    )
