-- `code::unencoding::interpolate_columns` meets its contract: each turn interpolates one column.
-- Assumes nothing.
use mathlib.Core.Path.{refl, ◌∙◌}
use Prim.Native.Nat.{◌+◌, ◌-◌}
use native.Mathlib.Omega.{arith}
use borrow.Rule.Slice.PartMut.{same_len_mid}
use Rattle.poly.proofs.Blocks.{block_start}
use Rattle.code.proofs.ColumnInterpolation.{column_given, so_far_turn}
use Rattle.code.proofs.unencoding.interpolate_columns.Goals as goal

pub interpolate-requires : goal.interpolate-requires
interpolate-requires c =
    let x = c.args in
    let l = c.loop-t in
    column_given x.q x.columns.now x.word.now c.requires.word_over.0 _ c.requires.padded_ys l.t c.loop-t-test.true _
    c.take-ys.ensures
    l.work l.at l.row l.invariant.1 l.invariant.2 (omega (arith, l.invariant.0, c.requires.word_over.1)) l.invariant.3

pub loop-t-preserved : goal.loop-t-preserved
loop-t-preserved c =
    let x = c.args in
    let l = c.loop-t in
    let e = c.interpolate in
    let last = e.new.row in (
      same_len_mid l.row (l.row + 16 - l.row) l.work last e.auto.row ∙ l.invariant.0,
      block_start x.q l.t l.at (l.at + x.q) l.invariant.1 refl,
      block_start 16 l.t l.row (l.row + 16) l.invariant.2 refl,
      so_far_turn x.q x.columns.now x.word.now c.requires.word_over.0 _ c.requires.padded_ys l.t c.loop-t-test.true _
          c.take-ys.ensures l.work l.at l.row l.invariant.1 l.invariant.2
          (omega (arith, l.invariant.0, c.requires.word_over.1)) l.invariant.3 last e.auto.row e.ensures,
    )
