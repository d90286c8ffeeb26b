-- `mend::candidate::read_rest` meets its contract: the message is recovered from the word without the symbols where the locator is 0.
-- Assumes nothing.
use mathlib.Core.Bool.{Bool, true, false}
use mathlib.Core.List.{List}
use mathlib.Core.Path.{◌≡◌, sym, ap, ◌∙◌, subst}
use Prim.Native.Nat.{ℕ, ◌≤◌}
use native.Mathlib.Omega.{arith}
use lib.ListN.{length, take}
use lib.Seq.{length-take-le}
use Rattle.std.specs.Result.{is_ok}
use Rattle.field.proofs.Outcomes.{ok_done, not_ok}
use Rattle.field.proofs.Curves.{sizes, short_curve, short_sizes}
use Rattle.field.proofs.Fields.{field_of}
use Rattle.poly.proofs.Entries.{zeros}
use Rattle.poly.proofs.Fronts.{front_again, again_long}
use Rattle.points.specs.Series.{columns_of}
use Rattle.code.specs.Answers.{answered}
use Rattle.code.specs.Recovered.{answer_of, reading}
use Rattle.code.specs.Terms.{size}
use Rattle.code.specs.Word.{word_of}
use Rattle.code.specs.Inner.Recovering.{BrokenOver}
use Rattle.code.proofs.Recoveries.{reading_of}
use Rattle.recovery.proofs.GapAnswers.{broken_0}
use Rattle.mend.specs.Inner.Candidates.{OnlyNear}
use Rattle.mend.specs.Inner.Locating.{reach, Erased}
use Rattle.mend.proofs.Erasing.{locator_encodable, erased_front, erased_broken}
use Rattle.mend.proofs.Candidates.{recovered_only, recovered_none}
use Rattle.mend.proofs.candidate.read_rest.Goals as goal
use Rattle.mend.proofs.candidate.read_rest.Goals.{After-erase, After-is_ok, After-recover_over, After-write_word, Start}

-- the word fits the array
room : (c : goal.Start) → length c.args.word.now ≤ 64
room c = omega (arith, c.requires.0.long, (short_sizes c.args.q c.requires.0.curve).points)

-- as much as it is long is lent, twice, and comes back
lent : (c : goal.Start) → length (take (length c.args.word.now) (zeros 64)) ≡ length c.args.word.now
lent c = length-take-le (length c.args.word.now) (zeros 64) (room (goal.at.Start c).Start)

encoded_long : (c : goal.After-write_word) → length c.write_word.new.word ≡ length c.args.word.now
encoded_long c = c.write_word.auto.word ∙ lent (goal.at.After-write_word c).Start

erased_long : (c : goal.After-erase) → length c.erase.new.located
    ≡ length c.args.word.now
erased_long c = c.erase.auto.located ∙ again_long _ c.write_word.new.word _ (encoded_long (goal.at.After-erase c).After-write_word)

-- what erasing left is the broken word of the locator
erased : (c : goal.After-erase) → let x = c.args in
    Erased x.q x.series (reach x.q x.m) x.word.now x.locator.now c.erase.new.located
erased c =
    let x = c.args in
    let e = c.write_word in
    erased_front x.q x.series x.m x.word.now c.requires.0 x.s x.locator.now e.new.word _ _ c.requires.1
    (encoded_long (goal.at.After-erase c).After-write_word) e.ensures c.erase.ensures

broken : (c : goal.After-erase) → let x = c.args in
    BrokenOver x.q (columns_of x.q x.series) x.m c.erase.new.located
broken c =
    let x = c.args in
    erased_broken x.q x.series x.m x.word.now c.requires.0 (reach x.q x.m) x.locator.now _ (erased (goal.at.After-erase c).After-erase)

-- what recovery answers of it
answer : (c : goal.After-recover_over) → let x = c.args in
    answer_of (reading_of x.q x.series x.m c.erase.new.located) x.message.now
    ≡ answered c.recover_over.result c.recover_over.new.message
answer c =
    let x = c.args in
    ap (λ (Q : ℕ). answer_of (reading Q (size x.q x.m) (word_of x.q (columns_of x.q x.series) x.m) c.erase.new.located) x.message.now)
    (sym (sizes x.q (short_curve _ c.requires.0.curve)).size)
    ∙ ap (λ (l : List ℕ). answer_of (reading (field_of x.q).size (size x.q x.m) (word_of x.q (columns_of x.q x.series) x.m) l) x.message.now)
    (sym (front_again _ c.erase.new.located _ (erased_long (goal.at.After-recover_over c).After-erase)))
    ∙ c.recover_over.ensures

pub write_word-requires : goal.write_word-requires
write_word-requires c =
    let x = c.args in
    (locator_encodable x.q x.series x.m x.word.now c.requires.0 x.s x.locator.now _ c.requires.1 c.requires.2 (lent (goal.at.write_word-requires c).Start), c.requires.0.curve)

pub known_short_grid-grid-requires : goal.known_short_grid-grid-requires
known_short_grid-grid-requires c =
    let q = c.args.q in let series = c.args.series in
    (subst (BrokenOver q (columns_of q series) 0) (sym (front_again _ c.erase.new.located _ (erased_long (goal.at.known_short_grid-grid-requires c).After-erase))) (broken_0 _ _ _ _ (broken (goal.at.known_short_grid-grid-requires c).After-erase)), c.requires.0.curve)

pub recover_over-requires : goal.recover_over-requires
recover_over-requires c =
    let x = c.args in record {
      broken_over = (
        subst (BrokenOver x.q (columns_of x.q x.series) x.m) (sym (front_again _ c.erase.new.located _ (erased_long (goal.at.recover_over-requires c).After-erase))) (broken (goal.at.recover_over-requires c).After-erase),
        c.requires.3,
        c.requires.0.curve,
      );
      known_grid = c.known_short_grid-grid.ensures;
    }

-- what is read is the only message that can be near, or else none is
read : (c : goal.After-is_ok) (b : Bool) → is_ok c.recover_over.result ≡ b → let x = c.args in
    OnlyNear x.q x.series x.m x.word.now c.recover_over.new.message b
read c true e =
    let x = c.args in
    recovered_only x.q x.series x.m x.word.now c.requires.0 x.locator.now _ c.requires.2 (erased (goal.at.After-is_ok c).After-erase) x.message.now _ _ (answer (goal.at.After-is_ok c).After-recover_over)
    (ok_done c.recover_over.result e)
read c false e =
    let x = c.args in
    recovered_none x.q x.series x.m x.word.now c.requires.0 x.locator.now _ c.requires.2 (erased (goal.at.After-is_ok c).After-erase) x.message.now _ _ (answer (goal.at.After-is_ok c).After-recover_over)
    (not_ok c.recover_over.result e)

pub returns : goal.returns
returns c = read (goal.at.returns c).After-is_ok c.is_ok.result (sym c.is_ok.ensures.value)
