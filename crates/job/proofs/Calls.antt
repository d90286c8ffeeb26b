-- THE THEOREM: the claim holds of every list of calls.
-- Assumes nothing.
use mathlib.Core.Bool.{false, false≢true}
use mathlib.Core.List.{List, [], ◌∷◌}
use mathlib.Core.Logic.{◌⊎◌, inl, inr}
use mathlib.Core.Path.{◌≡◌, refl, sym, ap, ◌∙◌, subst}
use Prim.Native.Nat.{ℕ, ◌+◌, ◌-◌, ◌≤◌, ◌<◌}
use native.Mathlib.Decide.{ℕ_discrete, dec_lt, dec_le}
use native.Mathlib.Omega.{arith}
use borrow.Author.Tests.{eq-eqb, ne_eqb, lt-ltb, le-ltb, le-leb, lt-leb}
use lib.ListN.{length}
use Rattle.field.specs.Outcomes.{Done, Says}
use Rattle.field.proofs.Outcomes.{says}
use Rattle.code.specs.Terms.{size}
use Rattle.code.specs.Answers.{Answer}
use Rattle.code.specs.Recovered.{Reading, nothing, message, several, answer_of, recovered}
use Rattle.code.proofs.Recoveries.{reading_of}
use Rattle.job.specs.declared.Reply.{Reply}
use Rattle.job.specs.declared.Reply.TheVariants.{Refused, Finished}
use Rattle.job.specs.Symbols.{arrived_in}
use Rattle.job.specs.Task.{Task}
use Rattle.job.specs.Opened.{open_checks, opened}
use Rattle.job.specs.Replies.{still_working}
use Rattle.job.specs.Carried.{standing, leaves, smaller, share, onward, refusal, working, ending, replied, carried}
use Rattle.job.specs.Claim.{Call, task_after, total, StillWorking, Called, Claim}
use Rattle.job.proofs.Symbols.{brought_all}
use Rattle.job.proofs.Openings.{opened_outcome, opened_done, open_curve, open_broken, recovers, recovers_room}
use Rattle.job.proofs.Counts.{says_none, says_left}

-- ---- the smaller of two numbers

module _ (a b : ℕ) where
  pub smaller_left : a ≤ b → smaller a b ≡ a
  smaller_left l = rw (le-leb a b l)

  pub smaller_right : b ≤ a → smaller a b ≡ b
  smaller_right l = elim (dec_le a b) [ yes k ↦ rw (le-leb a b k) (omega arith) | no k ↦ rw (lt-leb a b (omega arith)) ]

  smaller_le : smaller a b ≤ b
  smaller_le = elim (dec_le a b) [ yes k ↦ omega (arith, smaller_left k) | no k ↦ omega (arith, smaller_right (omega arith)) ]

-- ---- the replies

still : (r : Reading) → StillWorking (leaves r)
unfolding leaves
still nothing = refl
still (message v) = refl
still (several n) = refl

-- so they are no reply that isn't 'still working'
apart : {A : Type 0} (r : Reading) (s : Reply) → leaves r ≡ s → still_working s ≡ false → A
apart r s e f = absurd (false≢true (sym f ∙ sym (ap still_working e) ∙ still r))

answer_kept : (r : Reading) (slice : List ℕ) → ((answer_of r slice).slice ≡ slice) ⊎ (Finished (answer_of r slice).outcome ≡ Finished Done)
unfolding answer_of
answer_kept nothing slice = inl refl
answer_kept (message v) slice = inr refl
answer_kept (several n) slice = inl refl

answer_outcome : (r : Reading) (a b : List ℕ) → (answer_of r a).outcome ≡ (answer_of r b).outcome
unfolding answer_of
answer_outcome nothing a b = refl
answer_outcome (message v) a b = refl
answer_outcome (several n) a b = refl

answer_message : (r : Reading) (a b : List ℕ) → (answer_of r b).outcome ≡ Done → (answer_of r a).slice ≡ (answer_of r b).slice
unfolding answer_of
answer_message nothing a b e = let z : ◌≡◌ {A = ℕ} 0 1 = cc in absurd (omega arith)
answer_message (message v) a b e = refl
answer_message (several n) a b e = let z : ◌≡◌ {A = ℕ} 0 1 = cc in absurd (omega arith)

-- ---- one call

pub stays : (t : Task) → onward t 0 ≡ t
stays t = let e : t.done + 0 ≡ t.done = omega arith in ap (λ (d : ℕ). record { q = t.q; series = t.series; m = t.m; word = t.word; done = d }) e

module _ (t : Task) (n : ℕ) (slice : List ℕ) where
  pub replied_more : t.done < arrived_in t.word → replied t n slice ≡ working t n slice
  unfolding replied
  replied_more l = rw (lt-ltb t.done (arrived_in t.word) l)

  pub replied_all : arrived_in t.word ≤ t.done → replied t n slice ≡ ending t n slice
  unfolding replied
  replied_all l = rw (le-ltb t.done (arrived_in t.word) l)

module _ (t : Task) (budget : ℕ) (slice : List ℕ) where
  pub carried_room : (length slice ≡ size t.q t.m → ⊥) → carried t budget slice ≡ refusal t slice
  unfolding carried
  carried_room d = rw (ne_eqb (length slice) (size t.q t.m) d)

  pub carried_takes : length slice ≡ size t.q t.m → carried t budget slice ≡ replied (onward t (share t budget)) (share t budget) slice
  unfolding carried
  carried_takes e = rw (eq-eqb (length slice) (size t.q t.m) e)

  -- nothing remains before it
  ends_again : length slice ≡ size t.q t.m → arrived_in t.word ≤ t.done → carried t budget slice ≡ ending t 0 slice
  ends_again e l =
      let z : share t budget ≡ 0 = smaller_right budget (arrived_in t.word - t.done) (omega arith) ∙ omega arith in
      carried_takes e ∙ ap (λ (k : ℕ). replied (onward t k) k slice) z ∙ ap (λ (s : Task). replied s 0 slice) (stays t) ∙ replied_all t 0 slice l

  -- its three ways
  pub data Way : Type 0 where
    refuses : (length slice ≡ size t.q t.m → ⊥) → carried t budget slice ≡ refusal t slice → Way
    goes_on : length slice ≡ size t.q t.m → t.done + share t budget < arrived_in t.word
        → carried t budget slice ≡ working (onward t (share t budget)) (share t budget) slice → Way
    ends : length slice ≡ size t.q t.m → arrived_in t.word ≤ t.done + share t budget
        → carried t budget slice ≡ ending (onward t (share t budget)) (share t budget) slice → Way

  pub way : Way
  way = elim (ℕ_discrete (length slice) (size t.q t.m)) [
    | no d ↦ refuses d (carried_room d)
    | yes e ↦ elim (dec_lt (t.done + share t budget) (arrived_in t.word)) [
      | yes l ↦ goes_on e l (carried_takes e ∙ replied_more (onward t (share t budget)) (share t budget) slice l)
      | no l ↦ ends e (omega arith) (carried_takes e ∙ replied_all (onward t (share t budget)) (share t budget) slice (omega arith))
    ]
  ]

  -- the job goes on by the number brought in
  pub carried_task : (carried t budget slice).task ≡ onward t (carried t budget slice).brought
  carried_task = go way
    where
      go : Way → (carried t budget slice).task ≡ onward t (carried t budget slice).brought
      go (refuses d e) = rw e (sym (stays t))
      go (goes_on l b e) = rw e
      go (ends l b e) = rw e

  pub carried_within : t.done ≤ arrived_in t.word → t.done + (carried t budget slice).brought ≤ arrived_in t.word
  carried_within h = go way
    where
      go : Way → t.done + (carried t budget slice).brought ≤ arrived_in t.word
      go (refuses d e) = rw e (omega arith)
      go (goes_on l b e) = rw e (omega arith)
      go (ends l b e) = rw e (omega (arith, smaller_le budget (arrived_in t.word - t.done)))

-- ---- lists of calls

after_total : (calls : List Call) (t : Task) → task_after t calls ≡ onward t (total t calls)
unfolding task_after total
after_total [] t = sym (stays t)
after_total (c ∷ rest) t =
    let u = carried t c.budget c.slice in
    after_total rest u.task ∙ ap (λ (s : Task). onward s (total u.task rest)) (carried_task t c.budget c.slice)
    ∙ (let e : t.done + u.brought + total u.task rest ≡ t.done + (u.brought + total u.task rest) = omega arith in
    ap (λ (d : ℕ). record { q = t.q; series = t.series; m = t.m; word = t.word; done = d }) e)

total_within : (calls : List Call) (t : Task) → t.done ≤ arrived_in t.word → t.done + total t calls ≤ arrived_in t.word
unfolding total
total_within [] t h = omega arith
total_within (c ∷ rest) t h =
    let u = carried t c.budget c.slice in
    let e = carried_task t c.budget c.slice in
    let w : u.task.word ≡ t.word = ap (λ (s : Task). s.word) e in
    let d : u.task.done ≡ t.done + u.brought = ap (λ (s : Task). s.done) e in
    let a : arrived_in u.task.word ≡ arrived_in t.word = ap arrived_in w in
    let b = carried_within t c.budget c.slice h in
    omega (arith, total_within rest u.task (omega arith))

-- ---- the claim

module _ (q series m : ℕ) (word : List ℕ) (accepted : open_checks q series m word ≡ Done) where
  abbrev at : ℕ → Task
  at d = record { q = q; series = series; m = m; word = word; done = d }

  -- a finished job tells what recovery does
  tells : (d : ℕ) → arrived_in word ≤ d → (slice : List ℕ) → length slice ≡ size q m → answer_of (standing (at d)) slice ≡ recovered q series m word slice
  tells d l slice e =
      ap (λ (w : List ℕ). answer_of (reading_of q series m w) slice) (brought_all word d l) ∙ sym (recovers q series m word accepted slice e)

  module _ (d : ℕ) (h : d ≤ arrived_in word) (budget : ℕ) (slice : List ℕ) where
    abbrev n : ℕ
    n = smaller budget (arrived_in word - d)

    on_refusal : (length slice ≡ size q m → ⊥) → Called q series m word (at d) d budget slice (refusal (at d) slice)
    on_refusal x =
        record {
          room = λ y. refl;
          meets = λ y e. x e;
          brings = λ e. absurd (x e);
          works = λ e. absurd (x e);
          left = λ s. absurd (false≢true s);
          says_none = λ s. absurd (false≢true s);
          says_left = λ s. absurd (false≢true s);
          kept = inl refl;
          rests = λ e. (refl, refl);
          again = λ o e. let z : ◌≡◌ {A = ℕ} 0 1 = cc in absurd (omega arith);
          finished = λ o e. let z : ◌≡◌ {A = ℕ} 0 1 = cc in absurd (omega arith);
          ends = λ e. let r = recovers_room q series m word accepted slice x in
              ((refl, sym (ap (λ (a : Answer). a.outcome) r)), sym (ap (λ (a : Answer). a.slice) r));
        }

    on_working : length slice ≡ size q m → d + n < arrived_in word → Called q series m word (at d) d budget slice (working (at (d + n)) n slice)
    on_working e l =
        record {
          room = λ x. absurd (x e);
          meets = λ y z. apart (standing (at (d + n))) Refused y refl;
          brings = λ x. (refl, refl);
          works = λ x. (λ s. l, λ k. still (standing (at (d + n))));
          left = λ s. refl;
          says_none = λ s. says_none q series m (open_curve q series m word accepted) word (open_broken q series m word accepted) (d + n);
          says_left = λ s. says_left q series m (open_curve q series m word accepted) word (open_broken q series m word accepted) (d + n);
          kept = inl refl;
          rests = λ x. absurd (omega arith);
          again = λ o x. apart (standing (at (d + n))) (Finished o) x refl;
          finished = λ o x. apart (standing (at (d + n))) (Finished o) x refl;
          ends = λ x. absurd (omega arith);
        }

    on_ending : length slice ≡ size q m → arrived_in word ≤ d + n → Called q series m word (at d) d budget slice (ending (at (d + n)) n slice)
    on_ending e l =
        let le = smaller_le budget (arrived_in word - d) in
        let o = (answer_of (standing (at (d + n))) slice).outcome in
        let r = tells (d + n) l slice e in
        record {
          room = λ x. absurd (x e);
          meets = λ y x. let z : ◌≡◌ {A = ℕ} 0 1 = cc in absurd (omega arith);
          brings = λ x. (refl, refl);
          works = λ x. (λ s. absurd (false≢true s), λ k. absurd (omega arith));
          left = λ s. absurd (false≢true s);
          says_none = λ s. absurd (false≢true s);
          says_left = λ s. absurd (false≢true s);
          kept = answer_kept (standing (at (d + n))) slice;
          rests = λ x. let z : n ≡ 0 = omega arith in (z, ap (λ (k : ℕ). at (d + k)) z ∙ stays (at d));
          again = λ p x budget' slice' k.
              let f : o ≡ p = cc in
              rw (ends_again (at (d + n)) budget' slice' k l)
              (record {
                none_brought = refl;
                same_task = refl;
                same_reply = ap Finished (answer_outcome (standing (at (d + n))) slice' slice ∙ f);
                same_message = λ y. answer_message (standing (at (d + n))) slice' slice (f ∙ y);
              });
          finished = λ o x. omega arith;
          ends = λ x. ((refl, ap (λ (a : Answer). a.outcome) r), ap (λ (a : Answer). a.slice) r);
        }

    pub called : Called q series m word (at d) d budget slice (carried (at d) budget slice)
    called = go (way (at d) budget slice)
      where
        go : Way (at d) budget slice → Called q series m word (at d) d budget slice (carried (at d) budget slice)
        go (refuses x e) = subst (Called q series m word (at d) d budget slice) (sym e) (on_refusal x)
        go (goes_on x l e) = subst (Called q series m word (at d) d budget slice) (sym e) (on_working x l)
        go (ends x l e) = subst (Called q series m word (at d) d budget slice) (sym e) (on_ending x l)

  abbrev start : Task
  start = (opened q series m word).task

  same : (calls : List Call) → task_after start calls ≡ at (total start calls)
  same calls =
      after_total calls start ∙ ap (λ (s : Task). onward s (total start calls)) (opened_done q series m word accepted)
      ∙ (let e : 0 + total start calls ≡ total start calls = omega arith in ap at e)

  within : (calls : List Call) → total start calls ≤ arrived_in word
  within calls =
      let e = opened_done q series m word accepted in
      let w : start.word ≡ word = ap (λ (s : Task). s.word) e in
      let d : start.done ≡ 0 = ap (λ (s : Task). s.done) e in
      let a : arrived_in start.word ≡ arrived_in word = ap arrived_in w in
      omega (arith, total_within calls start (omega arith))

  claim : (calls : List Call) → Claim q series m word calls
  claim calls =
      record {
        same = same calls;
        within = within calls;
        next = λ budget slice.
            subst (λ (t : Task). Called q series m word t (total start calls) budget slice (carried t budget slice)) (sym (same calls))
            (called (total start calls) (within calls) budget slice);
      }

-- of every list of calls on the job of an accepted opening
pub jobs : (q series m : ℕ) (word : List ℕ) → Says (opened q series m word).outcome 0 0 → (calls : List Call) → Claim q series m word calls
jobs q series m word accepted calls =
    claim q series m word (sym (opened_outcome q series m word) ∙ (says (opened q series m word).outcome Done).0 accepted) calls
