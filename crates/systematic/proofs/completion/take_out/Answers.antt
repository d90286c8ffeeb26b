-- `systematic::completion::take_out` meets its contract: the words of the terms are taken out at the places that are marked.
-- Assumes nothing.
use mathlib.Core.List.{◌++◌}
use mathlib.Core.Path.{◌≡◌, sym, ◌∙◌, subst}
use Prim.Native.Nat.{ℕ, ◌≤◌}
use native.Mathlib.Omega.{arith}
use lib.ListN.{length, drop}
use Rattle.field.proofs.Fields.{field_of}
use Rattle.poly.proofs.Entries.{zeros}
use Rattle.poly.proofs.Fronts.{written_long}
use Rattle.linear.specs.Inner.Combinations.{rows_from, Eliminated}
use Rattle.linear.specs.Inner.Eliminating.{marked, Masks}
use Rattle.code.specs.Terms.{size}
use Rattle.recovery.proofs.HeavyMarks.{short_half}
use Rattle.systematic.proofs.TermSystems.{masks, marked_inside, marked_outside, not_solved, pivot_decides}
use Rattle.systematic.proofs.completion.take_out.Goals as goal
use Rattle.systematic.proofs.completion.take_out.Goals.{After-eliminate_short-rank, After-mark_symbols, Start}

-- the word fits the array
few : (c : goal.Start) → length c.args.word.now ≤ 64
few c = c.requires.short.2

-- the marks
marks_long : (c : goal.After-mark_symbols) → let x = c.args in length (c.mark_symbols.new.high ++ drop (length x.word.now) (zeros 64)) ≡ 64
marks_long c = written_long 64 _ (few (goal.at.After-mark_symbols c).Start) _ c.mark_symbols.new.high c.mark_symbols.ensures

marks_are : (c : goal.After-mark_symbols) → let x = c.args in Masks (c.mark_symbols.new.high ++ drop (length x.word.now) (zeros 64))
marks_are c = masks c.args.word.now c.mark_symbols.new.high (few (goal.at.After-mark_symbols c).Start) c.mark_symbols.ensures

-- what elimination leaves, with k for the number of the terms
ended : (c : goal.After-eliminate_short-rank) → let x = c.args in let e = c.eliminate_short-rank in
    let high = c.mark_symbols.new.high ++ drop (length x.word.now) (zeros 64) in
    Eliminated (field_of x.q) (marked high) 64 (size x.q x.m) (rows_from 64 0 x.words.now x.left.now) (size x.q x.m) e.result
    (rows_from 64 (size x.q x.m) e.new.vectors e.new.grid)
ended c =
    let x = c.args in
    let e = c.eliminate_short-rank in
    let high = c.mark_symbols.new.high ++ drop (length x.word.now) (zeros 64) in
    subst (λ (k : ℕ). Eliminated (field_of x.q) (marked high) 64 k (rows_from 64 0 x.words.now x.left.now) k e.result
    (rows_from 64 k e.new.vectors e.new.grid)) c.requires.short.1 e.ensures.eliminated

pub eliminate_short-rank-requires : goal.eliminate_short-rank-requires
eliminate_short-rank-requires c =
    record {
      q_bound = (short_half _ c.requires.short.0, marks_long (goal.at.eliminate_short-rank-requires c).After-mark_symbols, marks_are (goal.at.eliminate_short-rank-requires c).After-mark_symbols);
      vectors_len = c.requires.words_len;
      grid_len = (c.requires.left_len.0, c.requires.left_len.1);
    }

pub returns-then-rank-k : goal.returns-then-rank-k
returns-then-rank-k c =
    let x = c.args in
    let ys = c.mark_symbols.new.high in
    let word = x.word.now in (
      λ columns over terms. not_solved x.q columns x.m word over (few (goal.at.returns-then-rank-k c).Start) x.words.now x.left.now (ys ++ drop (length word) (zeros 64)) terms
          c.requires.left_len.2
          (marked_inside word ys (few (goal.at.returns-then-rank-k c).Start) c.mark_symbols.ensures) (marked_outside word ys (few (goal.at.returns-then-rank-k c).Start) c.mark_symbols.ensures) c.eliminate_short-rank.result
          c.eliminate_short-rank.new.vectors c.eliminate_short-rank.new.grid (ended (goal.at.returns-then-rank-k c).After-eliminate_short-rank) (omega (arith, c.requires.short.1, c.if-rank-k.true)),
      c.eliminate_short-rank.ensures.below.1,
    )

pub pivot-requires : goal.pivot-requires
pivot-requires c =
    (marks_long (goal.at.pivot-requires c).After-mark_symbols ∙ sym c.eliminate_short-rank.ensures.below.1, marks_are (goal.at.pivot-requires c).After-mark_symbols)

pub returns : goal.returns
returns c =
    let x = c.args in
    let ys = c.mark_symbols.new.high in
    let word = x.word.now in (
      λ columns over terms. pivot_decides x.q columns x.m word over (few (goal.at.returns c).Start) x.words.now x.left.now (ys ++ drop (length word) (zeros 64)) terms
          c.requires.left_len.2
          (marked_inside word ys (few (goal.at.returns c).Start) c.mark_symbols.ensures) (marked_outside word ys (few (goal.at.returns c).Start) c.mark_symbols.ensures) c.eliminate_short-rank.result
          c.eliminate_short-rank.new.vectors c.eliminate_short-rank.new.grid (ended (goal.at.returns c).After-eliminate_short-rank) c.pivot.result (omega (arith, c.requires.short.1, c.if-rank-k.false))
          (marks_long (goal.at.returns c).After-mark_symbols) c.pivot.ensures,
      c.eliminate_short-rank.ensures.below.1,
    )
