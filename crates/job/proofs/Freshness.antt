-- Jobs of which nothing has been brought in: how they are made, what their task is, and that they are sound where the opening is accepted.
-- Assumes nothing.
use mathlib.Core.Bool.{Bool, true, false}
use mathlib.Core.List.{List, [], ◌++◌}
use mathlib.Core.Path.{◌≡◌, refl, sym, ap, ◌∙◌, subst}
use Prim.Native.Nat.{ℕ, ◌-◌, ◌*◌, ◌≤◌}
use native.Mathlib.Omega.{arith}
use lib.Dec.{eqb}
use lib.ListN.{length, take, drop, replicate, length-replicate}
use Rattle.std.proofs.lemmas.List.{drop-replicate}
use lib.Seq.{take-append_seam}
use Rattle.field.specs.Curve.{is_short}
use Rattle.field.specs.Outcomes.{Outcome, Done, number}
use Rattle.field.proofs.Curves.{short_sizes}
use Rattle.field.proofs.Fields.{field_of}
use Rattle.poly.proofs.Entries.{get_or_zeros}
use Rattle.linear.specs.Inner.Systems.{flat, rank}
use Rattle.linear.proofs.WellFormed.{blank_formed, blank_rank}
use Rattle.points.specs.Series.{columns_of}
use Rattle.code.specs.Terms.{size}
use Rattle.code.proofs.Checks.{call_done}
use Rattle.equations.specs.Inner.Collecting.{Collected}
use Rattle.equations.proofs.Collecting.{collected_none}
use Rattle.job.specs.declared.Job.{Job}
use Rattle.job.specs.Symbols.{arrived_in}
use Rattle.job.specs.Task.{Task, stored_word, task_of}
use Rattle.job.specs.Opened.{fresh, open_checks, Opened, opened}
use Rattle.job.specs.Sound.{Standing, Sound}
use Rattle.job.specs.Inner.Bringing.{Fresh}
use Rattle.job.proofs.Openings.{blank_accepted, opened_outcome, opened_done, opened_refused, open_block, open_short}

-- ---- how one is made

-- a word in the front of missing places
gaps_after : (word : List ℕ) → word ++ drop (length word) (replicate 64 255) ≡ word ++ replicate (64 - length word) 255
gaps_after word = ap (λ (rest : List ℕ). word ++ rest) (drop-replicate (length word) 64 255)

pub made_fresh : (q series m : ℕ) (word places candidate whole : List ℕ) → places ≡ word ++ drop (length word) (replicate 64 255)
    → Fresh q series m word (record {
      work = replicate 4096 0;
      places = places;
      candidate = candidate;
      whole = whole;
      q = q;
      series = series;
      m = m;
      next = 0;
      complete = false;
      clash = false;
    })
made_fresh q series m word places candidate whole e =
    record {
      curve = refl;
      listed = refl;
      order = refl;
      places = e ∙ gaps_after word;
      area = length-replicate {A = ℕ} 4096 0;
      zeros = get_or_zeros 4096;
      next = refl;
      complete = refl;
      clash = refl;
    }

-- ---- what one is of

-- a task by its parts
same_task : (q series m : ℕ) (word : List ℕ) (a s b : ℕ) (w : List ℕ) (d : ℕ) → a ≡ q → s ≡ series → b ≡ m → w ≡ word → d ≡ 0
    → ◌≡◌ {A = Task} record { q = a; series = s; m = b; word = w; done = d } (fresh q series m word)
same_task q series m word a s b w d ea es eb ew ed = rw (ea, es, eb, ew, ed)

none_arrived : (word : List ℕ) (p : ℕ) → p ≡ 0 → arrived_in (take p word) ≡ 0
unfolding arrived_in
none_arrived word p e = rw e

-- word is what stands in the first places of a fresh job of `given`
module _ (q series m : ℕ) (given word : List ℕ) (front : take (q * q * q) (given ++ replicate (64 - length given) 255) ≡ word)
    (accepted : open_checks q series m word ≡ Done) (j : Job) (h : Fresh q series m given j) where
  stored_is : stored_word j ≡ word
  stored_is = ap (λ (x : ℕ). take (x * x * x) j.places) h.curve ∙ ap (take (q * q * q)) h.places ∙ front

  fresh_task : task_of j ≡ fresh q series m word
  fresh_task =
      same_task q series m word j.q j.series j.m (stored_word j) (arrived_in (take j.next (stored_word j))) h.curve h.listed h.order stored_is
      (none_arrived (stored_word j) j.next h.next)

  begins : Collected q (columns_of q series) m word j.work 0 (rank (size q m) (flat 64 (size q m) j.work))
  begins =
      let formed = blank_formed (field_of q) 64 (size q m) j.work h.zeros (open_short q series m word accepted) h.area in
      subst (λ (r : ℕ). Collected q (columns_of q series) m word j.work 0 r) (sym (blank_rank (field_of q) 64 (size q m) j.work h.zeros))
      (collected_none q (columns_of q series) m word j.work formed h.zeros)

  stands_at : (a s b : ℕ) (w : List ℕ) (p : ℕ) (complete clash : Bool) → a ≡ q → s ≡ series → b ≡ m → w ≡ word → p ≡ 0 → complete ≡ false → clash ≡ false
      → Standing a s b w j.work (take (size a b) j.candidate) (take (length w) j.whole) p complete clash
  stands_at a s b w p complete clash ea es eb ew ep ed ec = rw (ec, ed, ep, ew, eb, es, ea) begins

  accepted_at : (a s b : ℕ) (w : List ℕ) → a ≡ q → s ≡ series → b ≡ m → w ≡ word → open_checks a s b w ≡ Done
  accepted_at a s b w ea es eb ew = rw (ew, eb, es, ea) accepted

  fresh_sound : Sound j
  fresh_sound =
      record {
        passes = accepted_at j.q j.series j.m (stored_word j) h.curve h.listed h.order stored_is;
        within = omega (arith, h.next);
        stands =
            stands_at j.q j.series j.m (stored_word j) j.next j.complete j.clash h.curve h.listed h.order stored_is h.next h.complete
            h.clash;
      }

-- ---- what an opening hands back

same_opening : (t : Task) (u : Opened) (o : Outcome) → u.task ≡ t → u.outcome ≡ o → u ≡ record { task = t; outcome = o }
same_opening t u o e f = rw (← e, ← f)

module _ (q series m : ℕ) (word : List ℕ) (o : Outcome) (said : o ≡ open_checks q series m word) where
  abbrev Opens : Job → Type 0
  Opens j = (opened q series m word ≡ record { task = task_of j; outcome = o }) × Sound j

  module _ (done : o ≡ Done) where
    accepted : open_checks q series m word ≡ Done
    accepted = sym said ∙ done

    word_long : length word ≡ q * q * q
    word_long = (call_done (is_short q) true true q series m word (size q m) accepted).2.long

    pub word_short : length word ≤ 64
    word_short = omega (arith, word_long, (short_sizes q (open_block q series m word accepted)).points)

    pub opens_fresh : (j : Job) → Fresh q series m word j → Opens j
    opens_fresh j h =
        let rest : List ℕ = replicate (64 - length word) 255 in
        let front : take (q * q * q) (word ++ rest) ≡ word = ap (λ (n : ℕ). take n (word ++ rest)) (sym word_long) ∙ take-append_seam word rest in (
          same_opening (task_of j) (opened q series m word) o (opened_done q series m word accepted ∙ sym (fresh_task q series m word word front accepted j h))
              (opened_outcome q series m word ∙ sym said),
          fresh_sound q series m word word front accepted j h,
        )

  pub opens_blank : eqb (number o) 0 ≡ false → (j : Job) → Fresh 2 1 0 [] j → Opens j
  opens_blank refused j h = (
    same_opening (task_of j) (opened q series m word) o
        (opened_refused q series m word (ap (λ (x : Outcome). eqb (number x) 0) (sym said) ∙ refused)
        ∙ sym (fresh_task 2 1 0 [] (replicate 8 255) refl blank_accepted j h))
        (opened_outcome q series m word ∙ sym said),
    fresh_sound 2 1 0 [] (replicate 8 255) refl blank_accepted j h,
  )
