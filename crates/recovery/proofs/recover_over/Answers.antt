-- `recovery::recover_over` meets its contract: the gaps' grids are taken out of the word's, and what is left says it.
-- Assumes nothing.
use mathlib.Core.List.{List}
use mathlib.Core.Path.{◌≡◌, refl, sym, ap, ◌∙◌, subst}
use Prim.Native.Nat.{ℕ, ◌*◌, ◌≤◌}
use native.Mathlib.Omega.{arith}
use lib.ListN.{length, take}
use Rattle.field.proofs.Fields.{field_of}
use Rattle.poly.specs.Inner.Ranges.{Below}
use Rattle.poly.proofs.Entries.{get_or_zeros}
use Rattle.points.specs.Series.{columns_of}
use Rattle.points.proofs.AllColumns.{columns_are}
use Rattle.points.proofs.Series.{length_columns}
use Rattle.code.specs.Recovered.{reading, answer_of}
use Rattle.code.specs.Terms.{size}
use Rattle.code.specs.Word.{word_of}
use Rattle.code.specs.Inner.Recovering.{BrokenOver}
use Rattle.recovery.specs.Inner.Gaps.{KnownGrid}
use Rattle.recovery.proofs.GapAnswers.{broken_0, short_places, count_le, count_fits, lent_long, lent_symbols, rest_answer_lem}
use Rattle.recovery.proofs.recover_over.Goals as goal
use Rattle.recovery.proofs.recover_over.Goals.{After-columns-columns, After-write_short_indicators-count}

-- the columns that are lent are all
all : (c : goal.After-columns-columns) → let x = c.args in take (x.q * x.q) c.columns-columns.result ≡ columns_of x.q x.series
all c = columns_are c.args.q c.args.series c.requires.broken_over.2 (c.args.q * c.args.q) _ refl c.columns-columns.ensures

over : (c : goal.After-columns-columns) → let x = c.args in BrokenOver x.q (take (x.q * x.q) c.columns-columns.result) x.m x.word.now
over c =
    subst (λ (l : List ℕ). BrokenOver c.args.q l c.args.m c.args.word.now) (sym (all (goal.at.After-columns-columns c).After-columns-columns)) c.requires.broken_over.0

full : (c : goal.After-columns-columns) → let q = c.args.q in length (take (q * q) c.columns-columns.result) ≡ q * q
full c =
    ap length (all (goal.at.After-columns-columns c).After-columns-columns) ∙ length_columns c.args.q c.args.series c.requires.broken_over.0.over.curve

-- the gaps' vectors, and the part of them that is lent
lent : (c : goal.After-write_short_indicators-count) → let w = c.write_short_indicators-count in
    (w.result ≤ 64) × (64 * w.result ≤ length w.new.vectors)
    × (length (take (64 * w.result) w.new.vectors) ≡ 64 * w.result)
    × Below (field_of c.args.q).size (take (64 * w.result) w.new.vectors)
lent c =
    let w = c.write_short_indicators-count in
    let v = w.new.vectors in
    let room : 64 * 64 ≤ length v = omega (arith, w.auto.vectors) in
    let h = over (goal.at.After-write_short_indicators-count c).After-columns-columns in
    let few = (short_places _ _ _ _ h c.requires.broken_over.2).0 in (
      count_le _ _ _ _ h (full (goal.at.After-write_short_indicators-count c).After-columns-columns) 64 few w.result w.ensures.value v room w.ensures.indicator_rows,
      count_fits _ _ _ _ h (full (goal.at.After-write_short_indicators-count c).After-columns-columns) 64 few w.result w.ensures.value v room w.ensures.indicator_rows,
      lent_long _ _ _ _ h (full (goal.at.After-write_short_indicators-count c).After-columns-columns) 64 few w.result w.ensures.value v room w.ensures.indicator_rows,
      lent_symbols _ _ _ _ h (full (goal.at.After-write_short_indicators-count c).After-columns-columns) 64 few w.result w.ensures.value v room w.ensures.indicator_rows,
    )

pub write_short_indicators-count-requires : goal.write_short_indicators-count-requires
write_short_indicators-count-requires c =
    let short = c.requires.broken_over.2 in
    let b = over (goal.at.write_short_indicators-count-requires c).After-columns-columns in
    record {
      broken_over = (broken_0 _ _ _ _ b, full (goal.at.write_short_indicators-count-requires c).After-columns-columns, short);
      word_in_bounds = (omega (arith, (short_places _ _ _ _ b short).1), get_or_zeros 4096);
    }

pub overflow_mul-end : goal.overflow_mul-end
overflow_mul-end c = omega (arith, (lent (goal.at.overflow_mul-end c).After-write_short_indicators-count).0)

pub slice_bounds-vectors-end : goal.slice_bounds-vectors-end
slice_bounds-vectors-end c = (lent (goal.at.slice_bounds-vectors-end c).After-write_short_indicators-count).1

pub slice_bounds-eliminate_short-end : goal.slice_bounds-eliminate_short-end
slice_bounds-eliminate_short-end c = sym (lent (goal.at.slice_bounds-eliminate_short-end c).After-write_short_indicators-count).2

pub eliminate_short-rank-requires : goal.eliminate_short-rank-requires
eliminate_short-rank-requires c =
    let b = over (goal.at.eliminate_short-rank-requires c).After-columns-columns in
    let w = lent (goal.at.eliminate_short-rank-requires c).After-write_short_indicators-count in
    record {
      short = (c.requires.broken_over.2, omega (arith, b.order, b.long, (short_places _ _ _ _ b c.requires.broken_over.2).1), w.2, w.3);
      grid_len = (c.requires.known_grid.1, c.requires.known_grid.0.symbols);
    }

pub read_rest-requires : goal.read_rest-requires
read_rest-requires c =
    let b = over (goal.at.read_rest-requires c).After-columns-columns in
    let long = c.eliminate_short-rank.ensures.below.1 in
    (b.over.curve, omega (arith, b.order, b.long, (short_places _ _ _ _ b c.requires.broken_over.2).1, long), omega (arith, long), omega (arith, (lent (goal.at.read_rest-requires c).After-write_short_indicators-count).0), c.requires.broken_over.1)

pub returns : goal.returns
returns c =
    let x = c.args in
    let w = c.write_short_indicators-count in
    let e = c.eliminate_short-rank in
    let v = w.new.vectors in
    let room : 64 * 64 ≤ length v = omega (arith, w.auto.vectors) in
    let known = subst (λ (l : List ℕ). KnownGrid x.q l x.word.now x.grid.now) (sym (all (goal.at.returns c).After-columns-columns)) c.requires.known_grid.0 in
    sym (rest_answer_lem _ _ _ _ (over (goal.at.returns c).After-columns-columns) (full (goal.at.returns c).After-columns-columns) 64 (short_places _ _ _ _ (over (goal.at.returns c).After-columns-columns) c.requires.broken_over.2).0 _ w.ensures.value v room w.ensures.indicator_rows _ known _
    e.new.vectors e.new.grid e.ensures.below.1 e.ensures.eliminated x.message.now
    ∙ ap (λ (l : List ℕ). answer_of (reading (field_of x.q).size (size x.q x.m) (word_of x.q l x.m) x.word.now) x.message.now) (all (goal.at.returns c).After-columns-columns))
    ∙ c.read_rest.ensures
