-- `systematic::completion::complete_by_gaps` meets its contract: what recovery reads is encoded.
-- Assumes nothing.
use mathlib.Core.List.{List}
use lib.Dec.{eqb}
use mathlib.Core.Bool.{false}
use mathlib.Core.Path.{◌≡◌, refl, sym, ap, ◌∙◌, subst}
use Prim.Native.Nat.{ℕ, ◌≤◌}
use native.Mathlib.Omega.{arith}
use lib.ListN.{length}
use Rattle.std.specs.Prelude.{Ok, Err}
use Rattle.std.specs.Result.{result_or}
use Rattle.field.specs.Outcomes.{Outcome, Done, number}
use Rattle.field.specs.declared.outcome.Refusal.{Refusal}
use Rattle.field.specs.declared.outcome.Refusal.TheVariants.{NoInformationSet}
use Rattle.field.proofs.Fields.{field_of}
use Rattle.field.proofs.Outcomes.{counted, handed_on, err_not_done}
use Rattle.poly.proofs.Fronts.{lent_long, front_fits, front_again, again_long}
use Rattle.points.specs.Series.{columns_of}
use Rattle.code.specs.Answers.{answered}
use Rattle.code.specs.Recovered.{message, reading}
use Rattle.code.specs.Terms.{size}
use Rattle.code.specs.Word.{word_of}
use Rattle.code.specs.Inner.Encodable.{Encodable}
use Rattle.systematic.proofs.Completions.{size_short, answered_done, answered_refused, read_encodable}
use Rattle.systematic.proofs.TermSystems.{completion_message, completion_other}
use Rattle.systematic.proofs.completion.complete_by_gaps.Goals as goal
use Rattle.systematic.proofs.completion.complete_by_gaps.Goals.{After-recover_over, Start}

-- a message fits the array
few : (c : goal.Start) → c.args.k ≤ 64
few c = omega (arith, c.requires.2, size_short _ _ _ _ c.requires.0 c.requires.1)

-- what comes back is as long as what was lent
read_long : (c : goal.After-recover_over) → length c.recover_over.new.message ≡ c.args.k
read_long c = c.recover_over.auto.message ∙ lent_long 64 _ (few (goal.at.After-recover_over c).Start)

-- what is read, by what recovery answered
done : (c : goal.After-recover_over) → c.recover_over.result ≡ Done → let x = c.args in
    reading (field_of x.q).size (size x.q x.m) (word_of x.q (columns_of x.q x.series) x.m) x.word.now ≡ message c.recover_over.new.message
done c d = answered_done _ _ c.recover_over.new.message c.recover_over.result c.recover_over.ensures d

-- a refusal, whichever, becomes 16
or_done : (o : Outcome) → ◌≡◌ {A = Outcome} (result_or o (Err NoInformationSet)) Done → o ≡ Done
or_done (Ok done) e = refl
or_done (Err r) e = absurd (err_not_done refl e)

or_err : {d : Refusal} (o : Outcome) → ◌≡◌ {A = Outcome} (result_or o (Err NoInformationSet)) (Err d) → (eqb (number o) 0 ≡ false) × (◌≡◌ {A = Outcome} (Err d) (Err NoInformationSet))
or_err (Ok done) e = absurd (err_not_done e refl)
or_err (Err r) e = (counted r, sym e)

pub slice_bounds-message-end : goal.slice_bounds-message-end
slice_bounds-message-end c = few (goal.at.slice_bounds-message-end c).Start

pub slice_bounds-recover_over-end : goal.slice_bounds-recover_over-end
slice_bounds-recover_over-end c = sym (lent_long 64 _ (few (goal.at.slice_bounds-recover_over-end c).Start))

pub recover_over-requires : goal.recover_over-requires
recover_over-requires c =
    record {
      broken_over = (c.requires.0, lent_long 64 _ (few (goal.at.recover_over-requires c).Start) ∙ c.requires.2, c.requires.1);
      known_grid = c.known_short_grid-grid.ensures;
    }

pub returns-in_err-or : goal.returns-in_err-or
returns-in_err-or c =
    let p = or_err c.recover_over.result (sym c.or.ensures ∙ c.in_err-or.was) in
    let e : c.from_residual.result ≡ Err NoInformationSet = handed_on _ _ c.from_residual.ensures.1 c.in_err-or.was ∙ c.in_err-or.was ∙ p.1 in
    rw e (completion_other _ _ _ (answered_refused _ _ c.recover_over.new.message c.recover_over.result c.recover_over.ensures p.0))

pub slice_bounds-message-end-2 : goal.slice_bounds-message-end-2
slice_bounds-message-end-2 c = front_fits _ c.recover_over.new.message _ (read_long (goal.at.slice_bounds-message-end-2 c).After-recover_over)

pub slice_bounds-write_word-end : goal.slice_bounds-write_word-end
slice_bounds-write_word-end c = sym (again_long _ c.recover_over.new.message _ (read_long (goal.at.slice_bounds-write_word-end c).After-recover_over))

pub write_word-requires : goal.write_word-requires
write_word-requires c =
    let x = c.args in (
      subst (λ (l : List ℕ). Encodable x.q (columns_of x.q x.series) x.m l x.out.now) (sym (front_again _ c.recover_over.new.message _ (read_long (goal.at.write_word-requires c).After-recover_over)))
          (read_encodable x.q (columns_of x.q x.series) x.m x.word.now c.requires.0 _ (done (goal.at.write_word-requires c).After-recover_over (or_done c.recover_over.result (sym c.or.ensures ∙ c.in_ok-or.was))) x.out.now c.requires.3),
      c.requires.1,
    )

pub returns : goal.returns
returns c =
    let x = c.args in
    let w = c.write_word in
    completion_message _ _ c.recover_over.new.message _ (done (goal.at.returns c).After-recover_over (or_done c.recover_over.result (sym c.or.ensures ∙ c.in_ok-or.was)))
    ∙ ap (answered Done) (sym (w.ensures ∙ ap (word_of x.q (columns_of x.q x.series) x.m) (front_again _ c.recover_over.new.message _ (read_long (goal.at.returns c).After-recover_over))))
