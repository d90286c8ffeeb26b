-- `recovery::recover_long_over` meets its contract: the gaps' grids, in the lent slice, are taken out of the word's, and what is left says it.
-- Assumes nothing.
use mathlib.Core.List.{List}
use mathlib.Core.Path.{◌≡◌, sym, ap, ◌∙◌, subst}
use Prim.Native.Nat.{ℕ, ◌*◌, ◌≤◌}
use native.Mathlib.Omega.{arith}
use lib.ListN.{length, take}
use Rattle.field.proofs.Fields.{field_of}
use Rattle.field.proofs.Curves.{long_curve}
use Rattle.poly.specs.Inner.Ranges.{Below}
use Rattle.points.proofs.Series.{length_columns}
use Rattle.code.specs.Recovered.{reading, answer_of}
use Rattle.code.specs.Terms.{size}
use Rattle.code.specs.Word.{word_of}
use Rattle.code.specs.Inner.Recovering.{BrokenOver}
use Rattle.recovery.specs.Inner.Gaps.{KnownGrid}
use Rattle.recovery.proofs.GapAnswers.{count_le, count_fits, lent_long, lent_symbols, rest_answer_lem}
use Rattle.recovery.proofs.recover_long_over.Goals as goal
use Rattle.recovery.proofs.recover_long_over.Goals.{After-write_long_indicators-count}

-- the columns that are lent are all
over : (c : goal.After-write_long_indicators-count) → let x = c.args in BrokenOver 8 c.long_columns-columns.result x.m x.word.now
over c =
    subst (λ (l : List ℕ). BrokenOver 8 l c.args.m c.args.word.now) (sym c.long_columns-columns.ensures) c.requires.0

full : (c : goal.After-write_long_indicators-count) → length c.long_columns-columns.result ≡ 8 * 8
full c =
    ap length c.long_columns-columns.ensures
    ∙ length_columns 8 c.args.series long_curve

points : (c : goal.After-write_long_indicators-count) → 8 * length c.long_columns-columns.result ≤ 512
points c = omega (arith, full (goal.at.After-write_long_indicators-count c).After-write_long_indicators-count)

room : (c : goal.After-write_long_indicators-count) → 512 * 512 ≤ length c.write_long_indicators-count.new.vectors
room c = omega (arith, c.write_long_indicators-count.auto.vectors, c.fill.auto.self, c.requires.2)

-- the gaps' vectors, and the part of them that is lent
lent : (c : goal.After-write_long_indicators-count) → let w = c.write_long_indicators-count in
    (w.result ≤ 512) × (512 * w.result ≤ length w.new.vectors)
    × (length (take (512 * w.result) w.new.vectors) ≡ 512 * w.result)
    × Below (field_of 8).size (take (512 * w.result) w.new.vectors)
lent c =
    let w = c.write_long_indicators-count in
    let v = w.new.vectors in (
      count_le 8 _ _ _ (over (goal.at.After-write_long_indicators-count c).After-write_long_indicators-count) (full (goal.at.After-write_long_indicators-count c).After-write_long_indicators-count) 512 (points (goal.at.After-write_long_indicators-count c).After-write_long_indicators-count) w.result w.ensures.value v (room (goal.at.After-write_long_indicators-count c).After-write_long_indicators-count) w.ensures.indicator_rows,
      count_fits 8 _ _ _ (over (goal.at.After-write_long_indicators-count c).After-write_long_indicators-count) (full (goal.at.After-write_long_indicators-count c).After-write_long_indicators-count) 512 (points (goal.at.After-write_long_indicators-count c).After-write_long_indicators-count) w.result w.ensures.value v (room (goal.at.After-write_long_indicators-count c).After-write_long_indicators-count) w.ensures.indicator_rows,
      lent_long 8 _ _ _ (over (goal.at.After-write_long_indicators-count c).After-write_long_indicators-count) (full (goal.at.After-write_long_indicators-count c).After-write_long_indicators-count) 512 (points (goal.at.After-write_long_indicators-count c).After-write_long_indicators-count) w.result w.ensures.value v (room (goal.at.After-write_long_indicators-count c).After-write_long_indicators-count) w.ensures.indicator_rows,
      lent_symbols 8 _ _ _ (over (goal.at.After-write_long_indicators-count c).After-write_long_indicators-count) (full (goal.at.After-write_long_indicators-count c).After-write_long_indicators-count) 512 (points (goal.at.After-write_long_indicators-count c).After-write_long_indicators-count) w.result w.ensures.value v (room (goal.at.After-write_long_indicators-count c).After-write_long_indicators-count) w.ensures.indicator_rows,
    )

pub overflow_mul-end : goal.overflow_mul-end
overflow_mul-end c = omega (arith, (lent (goal.at.overflow_mul-end c).After-write_long_indicators-count).0)

pub slice_bounds-eliminate_long-end : goal.slice_bounds-eliminate_long-end
slice_bounds-eliminate_long-end c = (lent (goal.at.slice_bounds-eliminate_long-end c).After-write_long_indicators-count).1

pub slice_bounds-eliminate_long-end-2 : goal.slice_bounds-eliminate_long-end-2
slice_bounds-eliminate_long-end-2 c = sym (lent (goal.at.slice_bounds-eliminate_long-end-2 c).After-write_long_indicators-count).2

pub eliminate_long-rank-requires : goal.eliminate_long-rank-requires
eliminate_long-rank-requires c =
    let w = lent (goal.at.eliminate_long-rank-requires c).After-write_long_indicators-count in
    let g = c.known_long_grid-grid in
    record {
      m_bound = (omega (arith, c.requires.0.order, length_columns 8 c.args.series long_curve), w.2, w.3);
      grid_len = (g.ensures.1, g.ensures.0.symbols);
    }

pub read_rest-requires : goal.read_rest-requires
read_rest-requires c =
    let b = c.requires.0 in
    let long = c.eliminate_long-rank.auto.grid ∙ c.known_long_grid-grid.ensures.1 in
    (long_curve, omega (arith, b.order, length_columns 8 c.args.series long_curve, long), omega (arith, long), omega (arith, (lent (goal.at.read_rest-requires c).After-write_long_indicators-count).0), c.requires.1)

pub returns : goal.returns
returns c =
    let x = c.args in
    let w = c.write_long_indicators-count in
    let g = c.known_long_grid-grid in
    let e = c.eliminate_long-rank in
    let v = w.new.vectors in
    let l = c.long_columns-columns.ensures in
    let known = subst (λ (l : List ℕ). KnownGrid 8 l x.word.now g.result) (sym l) g.ensures.0 in
    sym (rest_answer_lem 8 _ _ _ (over (goal.at.returns c).After-write_long_indicators-count) (full (goal.at.returns c).After-write_long_indicators-count) 512 (points (goal.at.returns c).After-write_long_indicators-count) _ w.ensures.value v (room (goal.at.returns c).After-write_long_indicators-count) w.ensures.indicator_rows _ known _ e.new.vectors e.new.grid
    (e.auto.grid ∙ g.ensures.1) e.ensures.eliminated x.message.now
    ∙ ap (λ (l : List ℕ). answer_of (reading (field_of 8).size (size 8 x.m) (word_of 8 l x.m) x.word.now) x.message.now) l)
    ∙ c.read_rest.ensures
