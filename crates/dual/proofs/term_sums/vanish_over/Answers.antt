-- `dual::term_sums::vanish_over` meets its contract: the sums over sixteen lanes are those over the columns.
-- Assumes nothing.
use native.Mathlib.Omega.{arith}
use Rattle.field.proofs.Curves.{short_sizes}
use Rattle.poly.proofs.Entries.{get_or_zeros}
use Rattle.dual.proofs.StagedSums.{word_staged, lanes_staged, sums_same}
use Rattle.dual.proofs.term_sums.vanish_over.Goals as goal

pub sum_in_y-requires : goal.sum_in_y-requires
sum_in_y-requires c =
    let x = c.args in
    let h = c.requires.0 in record {
      staged = (word_staged x.q x.columns.now x.word.now c.requires.1 h x.word.now h.symbols, c.padded_ys-all.ensures, h.long);
      q_in_bounds = (omega (arith, (short_sizes x.q c.requires.1).high), get_or_zeros 64);
    }

pub returns : goal.returns
returns c =
    let x = c.args in
    let h = c.requires.0 in
    let e = c.sum_in_y in
    let rows = e.new.rows in
    sums_same x.q x.m c.rows_vanish.result _ _
    (lanes_staged x.q x.columns.now x.word.now h.long (omega (arith, h.few, (short_sizes x.q c.requires.1).symbols)) rows e.ensures)
    c.rows_vanish.ensures
