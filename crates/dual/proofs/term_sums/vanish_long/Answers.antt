-- `dual::term_sums::vanish_long` meets its contract: both stages, over all columns.
-- Assumes nothing.
use mathlib.Core.List.{List}
use mathlib.Core.Path.{◌≡◌, sym, ap, ◌∙◌, subst}
use Prim.Native.Nat.{ℕ}
use lib.ListN.{length, length-replicate}
use Rattle.field.proofs.Curves.{long_curve}
use Rattle.poly.proofs.Entries.{get_or_zeros}
use Rattle.points.proofs.Series.{length_columns}
use Rattle.code.specs.Inner.Readable.{WordOver}
use Rattle.dual.proofs.LongSums.{long_tells}
use Rattle.dual.proofs.term_sums.vanish_long.Goals as goal
use Rattle.dual.proofs.term_sums.vanish_long.Goals.{After-long_columns-columns}

-- the word is over the columns, and there are 64 of them
over : (c : goal.After-long_columns-columns) → WordOver 8 c.long_columns-columns.result c.args.word.now
over c = subst (λ (k : List ℕ). WordOver 8 k c.args.word.now) (sym c.long_columns-columns.ensures) c.requires.0

all : (c : goal.After-long_columns-columns) → length c.long_columns-columns.result ≡ 64
all c = ap length c.long_columns-columns.ensures ∙ length_columns 8 c.args.series long_curve

pub sum_long_in_y-requires : goal.sum_long_in_y-requires
sum_long_in_y-requires c = record {
  word_over = (over (goal.at.sum_long_in_y-requires c).After-long_columns-columns, all (goal.at.sum_long_in_y-requires c).After-long_columns-columns);
  rows_len = (length-replicate {A = ℕ} 512 0, get_or_zeros 512);
}

pub returns : goal.returns
returns c =
    let x = c.args in
    let e = c.sum_long_in_y in
    long_tells _ _ x.word.now e.new.rows c.long_columns-columns.ensures (length_columns 8 x.series long_curve) x.m _ e.ensures.0
    c.long_rows_vanish.ensures
