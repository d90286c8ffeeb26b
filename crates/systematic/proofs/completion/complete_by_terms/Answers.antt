-- `systematic::completion::complete_by_terms` meets its contract: what is left when the words of the terms are taken out makes the word.
-- Assumes nothing.
use mathlib.Core.Bool.{Bool}
use mathlib.Core.List.{◌++◌}
use mathlib.Core.Path.{◌≡◌, sym, ap, ◌∙◌, subst}
use Prim.Native.Nat.{◌*◌, ◌≤◌}
use native.Mathlib.Omega.{arith}
use lib.ListN.{length, take, drop}
use lib.Seq.{length-take-le}
use Rattle.field.specs.Outcomes.{Done}
use Rattle.field.proofs.Fields.{field_of}
use Rattle.field.proofs.FieldLaws.{zero_lt}
use Rattle.poly.proofs.Entries.{zeros, below_zeros}
use Rattle.poly.proofs.Fronts.{written_long, written_inside, written_below}
use Rattle.points.specs.Series.{columns_of}
use Rattle.code.specs.Answers.{answered}
use Rattle.recovery.proofs.GapAnswers.{broken_0, short_places}
use Rattle.recovery.proofs.KnownGrids.{known_lt}
use Rattle.systematic.specs.Inner.Completing.{Solved}
use Rattle.systematic.specs.Inner.TermWords.{TermWords}
use Rattle.systematic.proofs.Completions.{size_short, order_short}
use Rattle.systematic.proofs.TermSystems.{words_lent, word_written, completion_message, completion_other}
use Rattle.systematic.proofs.completion.complete_by_terms.Goals as goal
use Rattle.systematic.proofs.completion.complete_by_terms.Goals.{After-fill, After-take_out, After-write, Start}

-- the word and the words of the terms fit the arrays
few : (c : goal.Start) → length c.args.word.now ≤ 64
few c = (short_places _ _ _ _ c.requires.0 c.requires.1).1

terms_fit : (c : goal.Start) → 64 * c.args.k ≤ 4096
terms_fit c = omega (arith, c.requires.2, size_short _ _ _ _ c.requires.0 c.requires.1)

words_fit : (c : goal.After-write) → 64 * c.args.k ≤ length c.write.new.vectors
words_fit c = omega (arith, terms_fit (goal.at.After-write c).Start, c.write.auto.vectors)

-- what is known of the word, in an array
known_long : (c : goal.After-fill) → length (c.fill.new.out ++ drop (length c.args.word.now) (zeros 64)) ≡ 64
known_long c = written_long 64 _ (few (goal.at.After-fill c).Start) _ c.fill.new.out c.fill.ensures

-- the words of the terms that are lent
words : (c : goal.After-write) → let x = c.args in
    TermWords x.q (columns_of x.q x.series) x.m (take (64 * x.k) c.write.new.vectors)
words c =
    let x = c.args in
    words_lent x.q (columns_of x.q x.series) x.m c.write.new.vectors x.k c.requires.2
    (short_places _ _ _ _ c.requires.0 c.requires.1).0 c.write.ensures

-- what taking the words out answered
solved : (c : goal.After-take_out) (b : Bool) → c.take_out.result ≡ b → let x = c.args in
    Solved x.q (columns_of x.q x.series) x.m x.word.now c.take_out.new.left b
solved c b e =
    let x = c.args in
    subst (Solved x.q (columns_of x.q x.series) x.m x.word.now c.take_out.new.left)
    e (c.take_out.ensures.0 (columns_of x.q x.series) c.requires.0 (words (goal.at.After-take_out c).After-write))

pub write-requires : goal.write-requires
write-requires c =
    let q = c.args.q in
    (c.requires.1, order_short _ _ _ _ c.requires.0 c.requires.1, c.requires.2, terms_fit (goal.at.write-requires c).Start, below_zeros (field_of q).size 4096 (zero_lt (field_of q)))

pub overflow_mul-end : goal.overflow_mul-end
overflow_mul-end c = omega (arith, terms_fit (goal.at.overflow_mul-end c).Start)

pub slice_bounds-words-end : goal.slice_bounds-words-end
slice_bounds-words-end c = words_fit (goal.at.slice_bounds-words-end c).After-write

pub slice_bounds-take_out-end : goal.slice_bounds-take_out-end
slice_bounds-take_out-end c = sym (length-take-le _ c.write.new.vectors (words_fit (goal.at.slice_bounds-take_out-end c).After-write))

pub take_out-requires : goal.take_out-requires
take_out-requires c =
    let x = c.args in
    let F = field_of x.q in
    let word = x.word.now in
    let Known-of = written_inside 64 _ (few (goal.at.take_out-requires c).Start) _ c.fill.new.out c.fill.ensures in record {
      short = (c.requires.1, c.requires.2, few (goal.at.take_out-requires c).Start);
      words_len = (
        length-take-le _ c.write.new.vectors (words_fit (goal.at.take_out-requires c).After-write),
        (words (goal.at.take_out-requires c).After-write).symbols,
      );
      left_len = (
        known_long (goal.at.take_out-requires c).After-fill,
        written_below 64 _ (few (goal.at.take_out-requires c).Start) _ c.fill.new.out c.fill.ensures F.size (zero_lt F) (known_lt x.q (columns_of x.q x.series) word (broken_0 _ _ _ _ c.requires.0)),
        Known-of,
      );
    }

pub returns-then-take_out : goal.returns-then-take_out
returns-then-take_out c =
    let x = c.args in
    let (v, read, is-left) = solved (goal.at.returns-then-take_out c).After-take_out _ c.if-take_out.true in
    let copied = c.copy in
    let added = c.add in
    completion_message _ _ v _ read
    ∙ ap (answered Done)
    (sym (word_written x.q (columns_of x.q x.series) x.m x.word.now v (c.fill.new.out ++ drop (length x.word.now) (zeros 64))
    c.take_out.new.left x.out.now c.requires.0 c.requires.3 (written_inside 64 _ (few (goal.at.returns-then-take_out c).Start) _ c.fill.new.out c.fill.ensures) is-left
    copied.new.dst added.new.dst copied.ensures added.ensures))

pub returns : goal.returns
returns c = completion_other _ _ _ (solved (goal.at.returns c).After-take_out _ c.if-take_out.false)
