-- `dual::term_sums::sum_long_in_y` meets its contract: each turn sums those of sixteen columns.
-- Assumes nothing.
use mathlib.Core.Path.{◌≡◌, ◌∙◌, subst}
use Prim.Native.Nat.{◌+◌, ◌-◌, ◌*◌, ◌≤◌}
use Rattle.std.proofs.Math.Nat.{mul-mod_right}
use native.Mathlib.Omega.{arith}
use borrow.Rule.Slice.PartMut.{put_mid, same_len_mid}
use lib.ListN.{length}
use Rattle.dual.proofs.LongSums.{LongSummed, group_room, long_more}
use Rattle.dual.proofs.term_sums.sum_long_in_y.Goals as goal
use Rattle.dual.proofs.term_sums.sum_long_in_y.Goals.{In-loop-part}

long : (c : goal.In-loop-part) → length c.loop-part.rows ≡ 512
long c = c.loop-part.invariant.1 ∙ c.requires.rows_len.0

pub loop-part-preserved : goal.loop-part-preserved
loop-part-preserved c =
    let l = c.loop-part in
    let from = 16 * l.part in
    let e = c.sum_in_y in
    let last = e.new.rows in
    let kept = e.auto.rows in
    let fits : from + 16 ≤ 64 = omega (arith, c.loop-part-test.true) in
    let (over, all) = c.requires.word_over in
    let columns = c.args.columns.now in
    let word = c.args.word.now in
    let next : from + 16 ≡ 16 * (l.part + 1) = omega arith in
    let row_long = long (goal.at.loop-part-preserved c).In-loop-part in (
      omega (arith, c.loop-part-test.true),
      same_len_mid (8 * from) (8 * (from + 16) - 8 * from) l.rows last kept ∙ l.invariant.1,
      subst (LongSummed columns word (put_mid (8 * from) (8 * (from + 16) - 8 * from) l.rows last)) next
          (long_more columns word over all from fits l.rows row_long l.invariant.2 last (mul-mod_right 16 l.part)
          (kept ∙ group_room columns word over all from fits l.rows row_long l.invariant.2) e.ensures),
    )
