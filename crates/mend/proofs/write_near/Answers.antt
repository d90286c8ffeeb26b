-- `mend::write_near` meets its contract: the candidate is encoded, its word compared, and both are copied where it is near.
-- Assumes nothing.
use mathlib.Core.Path.{◌≡◌, refl, sym, ap, ◌∙◌}
use Prim.Native.Nat.{◌≤◌}
use native.Mathlib.Omega.{arith}
use lib.ListN.{length, drop}
use Rattle.poly.proofs.Entries.{copied, zeros}
use Rattle.poly.proofs.Multiples.{stored_all}
use Rattle.poly.proofs.Fronts.{lent_long, front_long, front_fits, front_again, again_long}
use Rattle.points.specs.Series.{columns_of}
use Rattle.code.specs.Word.{word_of}
use Rattle.mend.specs.Mended.{differing, marks_of}
use Rattle.mend.proofs.Menders.{Passed}
use Rattle.mend.proofs.Answering.{passed, word_short, only_encodable, answered_far, count_small, answered_near}
use Rattle.mend.proofs.write_near.Goals as goal
use Rattle.mend.proofs.write_near.Goals.{After-count-count, After-write_word, Start}

-- what the checks say
accepted : (c : goal.Start) → let x = c.args in
    Passed x.q x.series x.m x.word.now (length x.message.now) (length x.codeword.now) (length x.marks.now)
accepted c = let x = c.args in passed x.q x.series x.m x.word.now x.message.now x.codeword.now x.marks.now c.requires.marks_value

short : (c : goal.Start) → length c.args.word.now ≤ 64
short c = let x = c.args in word_short x.q x.series x.m x.word.now x.message.now x.codeword.now x.marks.now c.requires.marks_value

-- the word of the candidate
word_is : (c : goal.After-write_word) → let x = c.args in
    c.write_word.new.word ≡ word_of x.q (columns_of x.q x.series) x.m x.candidate.now
word_is c = c.write_word.ensures

-- the number of places where it differs from the given word
counted : (c : goal.After-count-count) → c.count-count.result ≡ differing c.args.word.now c.write_word.new.word
counted c =
    c.count-count.ensures
    ∙ ap (differing c.args.word.now) (front_again _ c.write_word.new.word _ (front_long 64 _ (short (goal.at.After-count-count c).Start)
    c.write_word.new.word c.write_word.auto.word))

pub slice_bounds-near-end : goal.slice_bounds-near-end
slice_bounds-near-end c = short (goal.at.slice_bounds-near-end c).Start

pub slice_bounds-write_word-end : goal.slice_bounds-write_word-end
slice_bounds-write_word-end c = sym (lent_long 64 _ (short (goal.at.slice_bounds-write_word-end c).Start))

pub write_word-requires : goal.write_word-requires
write_word-requires c =
    let x = c.args in (
      only_encodable x.q x.series x.m x.word.now x.message.now x.codeword.now x.marks.now c.requires.marks_value x.candidate.now
          c.requires.t_value.1 _ (lent_long 64 _ (short (goal.at.write_word-requires c).Start)),
      (accepted (goal.at.write_word-requires c).Start).mendable.curve,
    )

pub slice_bounds-near-end-2 : goal.slice_bounds-near-end-2
slice_bounds-near-end-2 c =
    front_fits _ c.write_word.new.word _ (front_long 64 _ (short (goal.at.slice_bounds-near-end-2 c).Start) c.write_word.new.word c.write_word.auto.word)

pub slice_bounds-count-end : goal.slice_bounds-count-end
slice_bounds-count-end c =
    sym (again_long _ c.write_word.new.word _ (front_long 64 _ (short (goal.at.slice_bounds-count-end c).Start) c.write_word.new.word c.write_word.auto.word))

pub count-count-requires : goal.count-count-requires
count-count-requires c =
    again_long _ c.write_word.new.word _ (front_long 64 _ (short (goal.at.count-count-requires c).Start) c.write_word.new.word c.write_word.auto.word)

pub returns-then-t-count : goal.returns-then-t-count
returns-then-t-count c =
    let x = c.args in
    answered_far x.q x.series x.m x.word.now x.message.now x.codeword.now x.marks.now c.requires.marks_value x.candidate.now
    c.requires.t_value.1 x.t c.requires.t_value.0 _ (word_is (goal.at.returns-then-t-count c).After-write_word) _ (counted (goal.at.returns-then-t-count c).After-count-count) c.if-t-count.true

pub copy-requires : goal.copy-requires
copy-requires c =
    (omega arith, omega (arith, c.requires.t_value.1.0.len, (accepted (goal.at.copy-requires c).Start).message_long))

pub copy-requires-2 : goal.copy-requires-2
copy-requires-2 c = (
  omega (arith, front_fits (length c.args.word.now) c.write_word.new.word (drop (length c.args.word.now) (zeros 64)) (front_long 64 _ (short (goal.at.copy-requires-2 c).Start) c.write_word.new.word c.write_word.auto.word)),
  omega (arith, (accepted (goal.at.copy-requires-2 c).Start).mendable.long, (accepted (goal.at.copy-requires-2 c).Start).codeword_long),
)

pub slice_bounds-near-end-3 : goal.slice_bounds-near-end-3
slice_bounds-near-end-3 c =
    front_fits _ c.write_word.new.word _ (front_long 64 _ (short (goal.at.slice_bounds-near-end-3 c).Start) c.write_word.new.word c.write_word.auto.word)

pub slice_bounds-mark-end : goal.slice_bounds-mark-end
slice_bounds-mark-end c =
    sym (again_long _ c.write_word.new.word _ (front_long 64 _ (short (goal.at.slice_bounds-mark-end c).Start) c.write_word.new.word c.write_word.auto.word))

pub mark-requires : goal.mark-requires
mark-requires c = (
  again_long _ c.write_word.new.word _ (front_long 64 _ (short (goal.at.mark-requires c).Start) c.write_word.new.word c.write_word.auto.word),
  (accepted (goal.at.mark-requires c).Start).marks_long ∙ sym (accepted (goal.at.mark-requires c).Start).mendable.long,
)

pub overflow_cast-result : goal.overflow_cast-result
overflow_cast-result c =
    let x = c.args in
    omega (
      arith,
      count_small x.q x.series x.m x.word.now x.message.now x.codeword.now x.marks.now c.requires.marks_value x.candidate.now
          c.requires.t_value.1 x.t c.requires.t_value.0 _ (word_is (goal.at.overflow_cast-result c).After-write_word) _ (counted (goal.at.overflow_cast-result c).After-count-count) c.if-t-count.false,
    )

pub returns : goal.returns
returns c =
    let x = c.args in
    let near = c.write_word.new.word in
    let kept = c.write_word.auto.word in
    let a = accepted (goal.at.returns c).Start in
    answered_near x.q x.series x.m x.word.now x.message.now x.codeword.now x.marks.now c.requires.marks_value x.candidate.now
    c.requires.t_value.1 x.t c.requires.t_value.0 _ (word_is (goal.at.returns c).After-write_word) _ (counted (goal.at.returns c).After-count-count) c.if-t-count.false _ _ _
    (c.copy.ensures
    ∙ stored_all _ x.candidate.now x.message.now refl (a.message_long ∙ sym c.requires.t_value.1.0.len))
    (c.copy-2.ensures
    ∙ copied _ near _ x.codeword.now (front_long 64 _ (short (goal.at.returns c).Start) near kept) (a.codeword_long ∙ sym a.mendable.long))
    (c.mark.ensures ∙ ap (marks_of x.word.now) (front_again _ near _ (front_long 64 _ (short (goal.at.returns c).Start) near kept)))
