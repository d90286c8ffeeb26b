-- `code::encoding::write_long_columns` meets its contract: each turn writes the parts of sixteen columns.
-- Assumes nothing.
use mathlib.Core.Path.{◌≡◌, ap, ◌∙◌, subst}
use Prim.Native.Nat.{◌+◌, ◌-◌, ◌*◌, ◌≤◌}
use native.Mathlib.Omega.{arith}
use borrow.Rule.Slice.PartMut.{put_mid, same_len_mid, mid_len}
use lib.ListN.{length}
use Rattle.field.proofs.Curves.{long_curve}
use Rattle.poly.proofs.Parts.{length_part}
use Rattle.points.proofs.Series.{length_columns}
use Rattle.poly.specs.Inner.Ranges.{Blocks}
use Rattle.code.specs.Inner.Encodable.{grid_column}
use Rattle.code.proofs.Stages.{group_staged, group_turn}
use Rattle.code.proofs.encoding.write_long_columns.Goals as goal
use Rattle.code.proofs.encoding.write_long_columns.Goals.{In-loop-part}

columns_long : (c : goal.In-loop-part) → length c.long_columns-columns.result ≡ 64
columns_long c = ap length c.long_columns-columns.ensures ∙ length_columns 8 c.args.series long_curve

-- there are sixteen columns left, and their places are within the word
fits : (c : goal.In-loop-part) → 16 * c.loop-part.part + 16 ≤ 64
fits c = omega (arith, c.loop-part-test.true)

room : (c : goal.In-loop-part) → 8 * (16 * c.loop-part.part + 16) ≤ length c.loop-part.word
room c = let l = c.loop-part in omega (arith, fits (goal.at.In-loop-part c).In-loop-part, l.invariant.1, c.requires.3)

pub write_columns-requires : goal.write_columns-requires
write_columns-requires c =
    let here = (goal.at.write_columns-requires c).In-loop-part in
    let from = 16 * c.loop-part.part in
    let columns = c.long_columns-columns in
    let k = length_part columns.result from (from + 16) (omega arith) (omega (arith, fits here, columns_long here)) in record {
      staged = (
        group_staged 8 c.args.series long_curve columns.result c.args.grid.now from (from + 16) columns.ensures (omega arith) (fits here) (omega arith)
            c.requires.0,
        c.requires.1,
        c.requires.2,
        mid_len (8 * from) (8 * (from + 16)) c.loop-part.word (room here) ∙ omega (arith, k),
      );
      padded_ys = c.padded_long_ys-all.ensures;
    }

pub loop-part-preserved : goal.loop-part-preserved
loop-part-preserved c =
    let here = (goal.at.loop-part-preserved c).In-loop-part in
    let l = c.loop-part in
    let from = 16 * l.part in
    let columns = c.long_columns-columns in
    let e = c.write_columns in
    let last = e.new.word in
    let kept = e.auto.word in
    let next : from + 16 ≡ 16 * (l.part + 1) = omega arith in (
      omega (arith, c.loop-part-test.true),
      same_len_mid (8 * from) (8 * (from + 16) - 8 * from) l.word last kept ∙ l.invariant.1,
      subst (Blocks 8 (grid_column 8 columns.result c.args.n c.args.grid.now) (put_mid (8 * from) (8 * (from + 16) - 8 * from) l.word last)) next
          (group_turn 8 columns.result c.args.n c.args.grid.now l.word last from (from + 16) (omega arith)
          (omega (arith, fits here, columns_long here)) (room here) l.invariant.2
          (kept ∙ mid_len (8 * from) (8 * (from + 16)) l.word (room here)) e.ensures),
    )
