-- `job::Job::carry_on` meets its contract: a job that passes the test is brought on; else it is handed back as it came.
-- Assumes nothing.
use mathlib.Core.Bool.{Bool, true, false, not, false≢true}
use mathlib.Core.List.{List}
use mathlib.Core.Logic.{inl}
use mathlib.Core.Path.{◌≡◌, refl, sym, ap, ◌∙◌}
use Prim.Native.Nat.{ℕ}
use native.Mathlib.Omega.{arith}
use borrow.Author.Rules.{rules}
use lib.ListN.{length}
use lib.Seq.{length-take-le}
use Rattle.field.specs.declared.curve.Curve.{Curve}
use Rattle.job.specs.declared.Job.{Job}
use Rattle.job.specs.Task.{stored_word, task_of}
use Rattle.job.specs.Inner.Bringing.{Tested}
use Rattle.job.proofs.Openings.{open_curve}
use Rattle.job.proofs.Calls.{carried_room}
use Rattle.job.proofs.Carrying.{Given, Left, sound_tested, places_fit, candidate_fits, whole_fits, asked, short, next_fits, rows_fit, copy_fits, copies, copies_long, sound_by, gives_message, gives_other, writes_message}
use Rattle.job.proofs.Tellings.{not_refused}
use Rattle.job.proofs.Job.carry_on.Goals as goal
use Rattle.job.proofs.Job.carry_on.Goals.{Start, Then-usable, After-at-curve, After-bring-r}

opposite : (a b : Bool) → a ≡ not b → b ≡ not a
opposite a true e = sym (ap not e)
opposite a false e = sym (ap not e)

-- the lengths of a job's arrays
places_long : (c : goal.Start) → length c.args.self.places ≡ 64
places_long c = search rules

candidate_long : (c : goal.Start) → length c.args.self.candidate ≡ 64
candidate_long c = search rules

whole_long : (c : goal.Start) → length c.args.self.whole ≡ 64
whole_long c = search rules

-- the job passed the test
passed : (c : goal.Then-usable) → let j = c.args.self in
    Tested j.q j.series j.m j.places j.next j.work j.candidate j.complete j.clash
passed c = c.usable.ensures.0 c.if-usable.true

-- what is known of it once k and n are
module _ (c : goal.After-at-curve) where
  abbrev job : Job
  job = c.args.self

  abbrev k : ℕ
  k = c.size-k.result

  abbrev n : ℕ
  n = c.at-curve.result.points

  given : Given job k n
  given =
      record {
        is_k = c.size-k.ensures;
        is_n = ap (λ (v : Curve). v.points) c.at-curve.ensures;
        places_long = places_long (goal.at.After-at-curve c).Start;
        candidate_long = candidate_long (goal.at.After-at-curve c).Start;
        whole_long = whole_long (goal.at.After-at-curve c).Start;
        tested = passed (goal.at.After-at-curve c).Then-usable;
      }

-- what bringing symbols in left
module _ (c : goal.After-bring-r) where
  abbrev at : goal.After-at-curve
  at = (goal.at.After-bring-r c).After-at-curve

  abbrev work : List ℕ
  work = c.bring-r.new.work

  abbrev candidate : List ℕ
  candidate = c.bring-r.new.candidate

  abbrev whole : List ℕ
  whole = c.bring-r.new.whole

  abbrev budget : ℕ
  budget = c.args.budget

  left : Left (job at) (k at) (n at) budget work candidate whole c.bring-r.result
  left =
      record {
        candidate_kept = c.bring-r.auto.candidate;
        whole_kept = c.bring-r.auto.whole;
        brings = c.bring-r.ensures;
      }

pub size-k-requires : goal.size-k-requires
size-k-requires c = open_curve _ _ _ (stored_word c.args.self) (passed (goal.at.size-k-requires c).Then-usable).passes

pub at-curve-requires : goal.at-curve-requires
at-curve-requires c = open_curve _ _ _ (stored_word c.args.self) (passed (goal.at.at-curve-requires c).Then-usable).passes

pub slice_bounds-places-end : goal.slice_bounds-places-end
slice_bounds-places-end c = let a = (goal.at.slice_bounds-places-end c).After-at-curve in places_fit (job a) (k a) (n a) (given a)

pub slice_bounds-bring-end : goal.slice_bounds-bring-end
slice_bounds-bring-end c =
    let a = (goal.at.slice_bounds-bring-end c).After-at-curve in
    sym (length-take-le _ _ (places_fit (job a) (k a) (n a) (given a)))

pub slice_bounds-candidate-end : goal.slice_bounds-candidate-end
slice_bounds-candidate-end c =
    let a = (goal.at.slice_bounds-candidate-end c).After-at-curve in
    candidate_fits (job a) (k a) (n a) (given a)

pub slice_bounds-bring-end-then-message-k : goal.slice_bounds-bring-end-then-message-k
slice_bounds-bring-end-then-message-k c =
    let a = (goal.at.slice_bounds-bring-end-then-message-k c).After-at-curve in
    sym (length-take-le _ _ (candidate_fits (job a) (k a) (n a) (given a)))

pub slice_bounds-whole-end : goal.slice_bounds-whole-end
slice_bounds-whole-end c = let a = (goal.at.slice_bounds-whole-end c).After-at-curve in whole_fits (job a) (k a) (n a) (given a)

pub slice_bounds-bring-end-then-message-k-2 : goal.slice_bounds-bring-end-then-message-k-2
slice_bounds-bring-end-then-message-k-2 c =
    let a = (goal.at.slice_bounds-bring-end-then-message-k-2 c).After-at-curve in
    sym (length-take-le _ _ (whole_fits (job a) (k a) (n a) (given a)))

pub bring-r-requires : goal.bring-r-requires
bring-r-requires c =
    let a = (goal.at.bring-r-requires c).After-at-curve in
    let all = asked (job a) (k a) (n a) (given a) in
    record { short = all.0; candidate_len = all.1 }

pub overflow_cast-self : goal.overflow_cast-self
overflow_cast-self c =
    let b = (goal.at.overflow_cast-self c).After-bring-r in
    let a = at b in
    omega (arith, next_fits (job a) (k a) (n a) (given a) (budget b) (work b) (candidate b) (whole b) b.bring-r.result (left b))

pub complete_after-requires : goal.complete_after-requires
complete_after-requires c = let a = at (goal.at.complete_after-requires c).After-bring-r in (short (job a) (k a) (n a) (given a), search rules)

pub tell-said-requires : goal.tell-said-requires
tell-said-requires c =
    let b = (goal.at.tell-said-requires c).After-bring-r in
    let a = at b in (
      omega (arith, short (job a) (k a) (n a) (given a)),
      rows_fit (job a) (k a) (n a) (given a) (budget b) (work b) (candidate b) (whole b)
          b.bring-r.result (left b),
    )

pub slice_bounds-candidate-end-then-is_message : goal.slice_bounds-candidate-end-then-is_message
slice_bounds-candidate-end-then-is_message c =
    let b = (goal.at.slice_bounds-candidate-end-then-is_message c).After-bring-r in
    let a = at b in
    copy_fits (job a) (k a) (n a) (given a) (budget b) (work b) (candidate b) (whole b) b.bring-r.result (left b)

pub slice_bounds-copy_from_slice-end : goal.slice_bounds-copy_from_slice-end
slice_bounds-copy_from_slice-end c =
    let b = (goal.at.slice_bounds-copy_from_slice-end c).After-bring-r in
    let a = at b in
    sym (copies_long (job a) (k a) (n a) (given a) (budget b) (work b) (candidate b) (whole b) b.bring-r.result (left b))

pub copy_from_slice-requires : goal.copy_from_slice-requires
copy_from_slice-requires c =
    let b = (goal.at.copy_from_slice-requires c).After-bring-r in
    let a = at b in
    c.if-message-k.true ∙ sym (copies_long (job a) (k a) (n a) (given a) (budget b) (work b) (candidate b) (whole b) b.bring-r.result (left b))

pub returns-then-is_message : goal.returns-then-is_message
returns-then-is_message c =
    let b = (goal.at.returns-then-is_message c).After-bring-r in
    let a = at b in
    let said = c.tell-said in
    let d = c.is_message.ensures.0 c.if-is_message.true in
    let room = c.if-message-k.true in
    let slice = c.args.message.now in
    let out = c.copy_from_slice.new.self in
    let copied = c.copy_from_slice.ensures.after
    ∙ copies (job a) (k a) (n a) (given a) (budget b) (work b) (candidate b) (whole b) b.bring-r.result (left b) in
    record {
      written_only_with_message =
          writes_message (job a) (k a) (n a) (given a) (budget b) (work b) (candidate b) (whole b) b.bring-r.result (left b) said.result slice out
          said.ensures d copied;
      job_value = λ f. absurd (not_refused (k a) (n a) b.bring-r.result (sym said.ensures ∙ f));
      sound = λ h. (
        sound_by (job a) (k a) (n a) (given a) (budget b) (work b) (candidate b) (whole b) b.bring-r.result (left b) h _ _ _ _ _ c.complete_after.ensures (opposite _ _ c.is_none.ensures),
        gives_message (job a) (k a) (n a) (given a) (budget b) (work b) (candidate b) (whole b) b.bring-r.result (left b) h slice room
            said.result out said.ensures d copied,
      );
    }

pub returns-else-is_message : goal.returns-else-is_message
returns-else-is_message c =
    let b = (goal.at.returns-else-is_message c).After-bring-r in
    let a = at b in
    let said = c.tell-said in
    let room = c.if-message-k.true in
    let slice = c.args.message.now in
    record {
      written_only_with_message = inl refl;
      job_value = λ f. absurd (not_refused (k a) (n a) b.bring-r.result (sym said.ensures ∙ f));
      sound = λ h. (
        sound_by (job a) (k a) (n a) (given a) (budget b) (work b) (candidate b) (whole b) b.bring-r.result (left b) h _ _ _ _ _ c.complete_after.ensures (opposite _ _ c.is_none.ensures),
        gives_other (job a) (k a) (n a) (given a) (budget b) (work b) (candidate b) (whole b) b.bring-r.result (left b) h slice room
            said.result said.ensures
            (λ f. false≢true (sym c.if-is_message.false ∙ c.is_message.ensures.1 f)),
      );
    }

pub returns-else-message-k : goal.returns-else-message-k
returns-else-message-k c =
    record {
      written_only_with_message = inl refl;
      job_value = λ e. refl;
      sound = λ h. (h, carried_room (task_of c.args.self) _ c.args.message.now (λ e. c.if-message-k.false (e ∙ sym c.size-k.ensures)));
    }

pub returns-else-usable : goal.returns-else-usable
returns-else-usable c =
    record {
      written_only_with_message = inl refl;
      job_value = λ e. refl;
      sound = λ h. absurd (false≢true (sym c.if-usable.false
          ∙ c.usable.ensures.1 (sound_tested c.args.self h (places_long (goal.at.returns-else-usable c).Start))));
    }
