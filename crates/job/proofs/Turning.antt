-- A list of calls from an accepted opening, each lent the slice that the one before it left: it keeps what `Carries` says, and a call that
-- brings in all that remains then answers what recovery in one go does.
-- Assumes nothing.
use mathlib.Core.Bool.{false}
use mathlib.Core.List.{List}
use mathlib.Core.Logic.{◌⊎◌, inl, inr, ⊎_elim}
use mathlib.Core.Path.{◌≡◌, refl, sym, ap, ◌∙◌, subst}
use Prim.Native.Nat.{ℕ, ◌+◌, ◌-◌, ◌≤◌}
use native.Mathlib.Decide.{ℕ_discrete}
use native.Mathlib.Omega.{arith}
use lib.Dec.{eqb}
use lib.ListN.{length}
use Rattle.field.specs.Outcomes.{Outcome, Done, number}
use Rattle.field.proofs.Curves.{short_sizes}
use Rattle.points.proofs.Series.{full_places}
use Rattle.code.specs.Terms.{size}
use Rattle.code.specs.Answers.{Answer, answered}
use Rattle.code.specs.Recovered.{Reading, nothing, message, several, answer_of, recovered}
use Rattle.code.proofs.Recoveries.{reading_of}
use Rattle.job.specs.declared.Job.{Job}
use Rattle.job.specs.declared.Reply.{Reply}
use Rattle.job.specs.declared.Reply.TheVariants.{Finished}
use Rattle.job.specs.Symbols.{arrived_in}
use Rattle.job.specs.Task.{Task, stored_word, task_of}
use Rattle.job.specs.Opened.{open_checks, Opened, opened}
use Rattle.job.specs.Replies.{outcome_of}
use Rattle.job.specs.Carried.{Result, onward, carried}
use Rattle.job.specs.Claim.{Called}
use Rattle.job.specs.Sound.{Sound}
use Rattle.job.specs.Inner.Turns.{GivesMessage, Carries}
use Rattle.job.proofs.Symbols.{arrived_length, below_within}
use Rattle.job.proofs.Openings.{opened_outcome, opened_done, refused_alike, open_block, open_curve, open_broken, recovers, recovers_room}
use Rattle.job.proofs.Calls.{smaller_right, carried_task, carried_within, called}

-- a call that starts from the job j with a slice, and hands back j' and another slice
pub record Step (j : Job) (budget : ℕ) (slice : List ℕ) (j' : Job) (brought : ℕ) (reply : Reply) (slice' : List ℕ) : Type 0 where
  pub sound : Sound j'
  pub result : carried (task_of j) budget slice ≡ record { task = task_of j'; brought = brought; reply = reply; slice = slice' }

pub carries_none : (j : Job) (slice : List ℕ) → Sound j → Carries j.q j.series j.m (stored_word j) slice j slice
carries_none j slice h =
    record { sound = h; task = refl; within = below_within (stored_word j) j.next h.within; long = refl; kept = inl refl }

module _ (q series m : ℕ) (word : List ℕ) (accepted : open_checks q series m word ≡ Done) where
  -- where recovery is done, it gives a message
  gives : (slice : List ℕ) → length slice ≡ size q m → (recovered q series m word slice).outcome ≡ Done → (v : List ℕ) × GivesMessage q series m word v
  unfolding answer_of
  gives slice e d = go (reading_of q series m word) refl (ap (λ (a : Answer). a.outcome) (sym (recovers q series m word accepted slice e)) ∙ d)
    where
      go : (x : Reading) → reading_of q series m word ≡ x → (answer_of (reading_of q series m word) slice).outcome ≡ Done → (v : List ℕ) × GivesMessage q series m word v
      go nothing r o = let f = ap (λ (y : Reading). (answer_of y slice).outcome) (sym r) ∙ o in let z : ◌≡◌ {A = ℕ} 0 1 = cc in absurd (omega arith)
      go (message v) r o = (v, λ x l. recovers q series m word accepted x l ∙ ap (λ (y : Reading). answer_of y x) r)
      go (several n) r o = let f = ap (λ (y : Reading). (answer_of y slice).outcome) (sym r) ∙ o in let z : ◌≡◌ {A = ℕ} 0 1 = cc in absurd (omega arith)

  module _ (before : List ℕ) (j : Job) (slice : List ℕ) (h : Carries q series m word before j slice) (budget : ℕ) where
    abbrev done : ℕ
    done = (task_of j).done

    abbrev Kept : Type 0
    Kept = (slice ≡ before) ⊎ ((length slice ≡ size q m) × ((v : List ℕ) × GivesMessage q series m word v))

    abbrev at : Task
    at = record { q = q; series = series; m = m; word = word; done = done }

    -- the call by q, m and the word
    result : carried (task_of j) budget slice ≡ carried at budget slice
    result = ap (λ (t : Task). carried t budget slice) h.task

    claims : Called q series m word at done budget slice (carried at budget slice)
    claims = called q series m word accepted done h.within budget slice

    module _ (j' : Job) (brought : ℕ) (reply : Reply) (slice' : List ℕ) (s : Step j budget slice j' brought reply slice') where
      abbrev after : Result
      after = record { task = task_of j'; brought = brought; reply = reply; slice = slice' }

      is_after : carried at budget slice ≡ after
      is_after = sym result ∙ s.result

      calls : Called q series m word at done budget slice after
      calls = subst (Called q series m word at done budget slice) is_after claims

      next_task : task_of j' ≡ onward at brought
      next_task = ap (λ (u : Result). u.task) (sym is_after) ∙ carried_task at budget slice
          ∙ ap (λ (u : Result). onward at u.brought) is_after

      next_within : done + brought ≤ arrived_in word
      next_within = subst (λ (u : Result). done + u.brought ≤ arrived_in word) is_after (carried_within at budget slice h.within)

      room : length slice' ≡ length slice → (reply ≡ Finished Done) → length slice ≡ size q m
      room l e = elim (ℕ_discrete (length slice) (size q m)) [
        | yes k ↦ k
        | no d ↦
            let r = ap (λ (u : Result). u.reply) (calls.room d) in
            let f = sym r ∙ e in let z : ◌≡◌ {A = ℕ} 0 1 = cc in absurd (omega arith)
      ]

      pub carries_more : length slice' ≡ length slice → Carries q series m word before j' slice'
      carries_more l =
          let d : (task_of j').done ≡ done + brought = ap (λ (t : Task). t.done) next_task in
          record {
            sound = s.sound;
            task = next_task ∙ ap (λ (x : ℕ). record { q = q; series = series; m = m; word = word; done = x }) (sym d);
            within = omega (arith, next_within);
            long = l ∙ h.long;
            kept = ⊎_elim (λ e. subst (λ (x : List ℕ). (x ≡ before) ⊎ ((length x ≡ size q m) × ((v : List ℕ) × GivesMessage q series m word v))) (sym e)
                h.kept) (λ e.
                let k = room l e in
                let o = calls.ends (calls.finished Done e) in
                inr (l ∙ k, gives slice k (sym o.0.1 ∙ ap outcome_of e))) calls.kept;
          }

      -- the last call, with a budget that is enough
      pub carries_all : arrived_in word ≤ budget → recovered q series m word before ≡ answered (outcome_of reply) slice'
      carries_all enough = elim (ℕ_discrete (length slice) (size q m)) [
        | no d ↦
            let u = calls.room d in
            let b : length before ≡ size q m → ⊥ = λ e. d (h.long ∙ e) in
            recovers_room q series m word accepted before b
            ∙ ap (λ (x : Outcome). answered x before) (sym (ap (λ (u : Result). outcome_of u.reply) u))
            ∙ ap (λ (x : List ℕ). answered (outcome_of reply) x) (sym (ap (λ (u : Result). u.slice) u ∙ same d h.kept))
        | yes k ↦
            let b = calls.brings k in
            let all : done + brought ≡ arrived_in word =
            omega (arith, b.0, smaller_right budget (arrived_in word - done) (omega arith), h.within) in
            let o = calls.ends all in
            told k h.kept ∙ ap (λ (x : Outcome). answered x (recovered q series m word slice).slice) (sym o.0.1)
            ∙ ap (answered (outcome_of reply)) (sym o.1)
      ]
        where
          same : (length slice ≡ size q m → ⊥) → Kept → slice ≡ before
          same d (inl e) = e
          same d (inr g) = absurd (d g.0)

          told : length slice ≡ size q m → Kept → recovered q series m word before ≡ recovered q series m word slice
          told k (inl e) = ap (recovered q series m word) (sym e)
          told k (inr g) = g.1.1 before (sym h.long ∙ k) ∙ sym (g.1.1 slice k)

-- ---- from an opening

-- 255 is more than can remain
pub budget_enough : (q series m : ℕ) (word : List ℕ) → open_checks q series m word ≡ Done → arrived_in word ≤ 255
budget_enough q series m word accepted =
    omega (
      arith,
      arrived_length word,
      (open_broken q series m word accepted).long,
      full_places q series (open_curve q series m word accepted),
      (short_sizes q (open_block q series m word accepted)).points,
    )

module _ (q series m : ℕ) (word : List ℕ) (o : Outcome) (slice : List ℕ) where
  -- the job of an accepted opening is of its arguments
  pub of_arguments : (start : Job) → opened q series m word ≡ record { task = task_of start; outcome = o } → o ≡ Done
      → recovered q series m word slice ≡ recovered start.q start.series start.m (stored_word start) slice
  of_arguments start e d =
      let accepted : open_checks q series m word ≡ Done = sym (opened_outcome q series m word) ∙ ap (λ (u : Opened). u.outcome) e ∙ d in
      let t = sym (opened_done q series m word accepted) ∙ ap (λ (u : Opened). u.task) e in
      ap (λ (x : Task). recovered x.q x.series x.m x.word slice) t

  -- a refused opening answers as recovery does
  pub refused_opening : (t : Task) → opened q series m word ≡ record { task = t; outcome = o } → eqb (number o) 0 ≡ false
      → recovered q series m word slice ≡ answered o slice
  refused_opening t e n =
      let f : open_checks q series m word ≡ o = sym (opened_outcome q series m word) ∙ ap (λ (u : Opened). u.outcome) e in
      refused_alike q series m word (ap (λ (x : Outcome). eqb (number x) 0) f ∙ n) slice ∙ ap (λ (x : Outcome). answered x slice) f
