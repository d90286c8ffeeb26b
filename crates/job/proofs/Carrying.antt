-- A call that brings symbols in: what it asks of a job that passed its test, the job that it hands back, and its answer.
-- Assumes nothing.
use mathlib.Core.Bool.{Bool, true, false}
use mathlib.Core.List.{List, ◌++◌}
use mathlib.Core.Logic.{inr}
use mathlib.Core.Path.{◌≡◌, refl, sym, ap, ◌∙◌, subst}
use Prim.Native.Nat.{ℕ, ◌*◌, ◌≤◌, ◌<◌}
use native.Mathlib.Omega.{arith}
use Rattle.std.specs.Prelude.{Option, Some, None, is_none, IfSome}
use lib.ListN.{length, take, drop}
use lib.Seq.{length-take-le, length_front, take_at}
use Rattle.field.specs.Curve.{IsShort}
use Rattle.field.specs.Outcomes.{Done}
use Rattle.field.proofs.Curves.{sizes, short_sizes, short_curve}
use Rattle.poly.specs.Messages.{Vector}
use Rattle.points.specs.Series.{columns_of}
use Rattle.code.specs.Terms.{size}
use Rattle.code.specs.Inner.Recovering.{BrokenOver}
use Rattle.job.specs.declared.bringing.Progress.{Progress}
use Rattle.job.specs.declared.Job.{Job}
use Rattle.job.specs.declared.Reply.{Reply}
use Rattle.job.specs.declared.Reply.TheVariants.{Finished}
use Rattle.job.specs.Task.{stored_word, task_of}
use Rattle.job.specs.Opened.{open_checks}
use Rattle.job.specs.Carried.{Result, onward, replied, carried, WrittenOnlyWithMessage}
use Rattle.job.specs.Sound.{Standing, Sound}
use Rattle.job.specs.Inner.Bringing.{Usable, Tested, Brings, is_complete, complete_after, reply_by}
use Rattle.job.proofs.Openings.{open_block, open_order, open_broken, open_short}
use Rattle.job.proofs.Calls.{carried_takes}
use Rattle.job.proofs.Tellings.{gives}
use Rattle.job.proofs.Results.{done_after, stopped_more, share_brought, replied_message, replied_other}

-- ---- a sound job passes the test

stored_long : (j : Job) → length j.places ≡ 64 → open_checks j.q j.series j.m (stored_word j) ≡ Done → length (stored_word j) ≡ j.q * j.q * j.q
stored_long j long passes =
    length-take-le (j.q * j.q * j.q) j.places (omega (arith, (short_sizes j.q (open_block j.q j.series j.m (stored_word j) passes)).points))

pub sound_tested : (j : Job) → Sound j → length j.places ≡ 64
    → Tested j.q j.series j.m j.places j.next j.work j.candidate j.complete j.clash
sound_tested j h long =
    record {
      passes = h.passes;
      within = omega (arith, h.within, stored_long j long h.passes);
      usable = go j.complete j.clash h.stands;
    }
  where
    go : (complete clash : Bool)
        → Standing j.q j.series j.m (stored_word j) j.work (take (size j.q j.m) j.candidate) (take (length (stored_word j)) j.whole)
        j.next
        complete clash
        → Usable j.q j.m j.work (take (size j.q j.m) j.candidate) complete clash
    go complete true s = tt
    go true false s = s.symbols
    go false false s = s.formed

-- ---- what the call asks

-- a job that passed the test, with k and n as the call has them
pub record Given (j : Job) (k n : ℕ) : Type 0 where
  pub is_k : k ≡ size j.q j.m
  pub is_n : n ≡ j.q * j.q * j.q
  pub places_long : length j.places ≡ 64
  pub candidate_long : length j.candidate ≡ 64
  pub whole_long : length j.whole ≡ 64
  pub tested : Tested j.q j.series j.m j.places j.next j.work j.candidate j.complete j.clash

-- what `bring` leaves of it
pub record Left (j : Job) (k n budget : ℕ) (work candidate whole : List ℕ) (r : Progress) : Type 0 where
  pub candidate_kept : length candidate ≡ length (take k j.candidate)
  pub whole_kept : length whole ≡ length (take n j.whole)
  pub brings : Brings j.q j.series j.m (take n j.places) budget j.work (take k j.candidate) (take n j.whole) j.next j.complete
      j.clash
      work candidate whole r

module _ (j : Job) (k n : ℕ) (g : Given j k n) where
  pub block : IsShort j.q
  block = open_block j.q j.series j.m (stored_word j) g.tested.passes

  order : j.m < j.q * j.q * j.q
  order = open_order j.q j.series j.m (stored_word j) g.tested.passes

  pub short : k < 64
  short = omega (arith, g.is_k, open_short j.q j.series j.m (stored_word j) g.tested.passes)

  pub few : n ≤ 64
  few = omega (arith, g.is_n, (short_sizes j.q block).points)

  pub places_fit : n ≤ length j.places
  places_fit = omega (arith, g.places_long, few)

  pub candidate_fits : k ≤ length j.candidate
  candidate_fits = omega (arith, g.candidate_long, short)

  pub whole_fits : n ≤ length j.whole
  whole_fits = omega (arith, g.whole_long, few)

  word_is : take n j.places ≡ stored_word j
  word_is = ap (λ (x : ℕ). take x j.places) g.is_n

  word_long : length (stored_word j) ≡ n
  word_long = stored_long j g.places_long g.tested.passes ∙ sym g.is_n

  candidate_taken : length (take k j.candidate) ≡ k
  candidate_taken = length-take-le k j.candidate candidate_fits

  whole_taken : length (take n j.whole) ≡ n
  whole_taken = length-take-le n j.whole whole_fits

  pub asked : (IsShort j.q × (j.m < j.q * j.q * j.q) × BrokenOver j.q (columns_of j.q j.series) j.m (take n j.places)
      × (k ≡ size j.q j.m) × (j.next ≤ length (take n j.places)))
      × ((length (take k j.candidate) ≡ size j.q j.m) × (length (take n j.whole) ≡ length (take n j.places))
      × Usable j.q j.m j.work (take k j.candidate) j.complete j.clash)
  asked = (
    (
      block,
      order,
      subst (BrokenOver j.q (columns_of j.q j.series) j.m) (sym word_is) (open_broken j.q j.series j.m (stored_word j) g.tested.passes),
      g.is_k,
      omega (arith, g.is_n, g.tested.within, ap length word_is, word_long),
    ),
    (
      candidate_taken ∙ g.is_k,
      whole_taken ∙ sym (ap length word_is ∙ word_long),
      subst (λ (x : ℕ). Usable j.q j.m j.work (take x j.candidate) j.complete j.clash) (sym g.is_k) g.tested.usable,
    ),
  )

  -- ---- what it leaves

  module _ (budget : ℕ) (work candidate whole : List ℕ) (r : Progress) (left : Left j k n budget work candidate whole r) where
    abbrev after_by : Bool → Bool → Job
    after_by complete clash =
        record {
          work = work;
          places = j.places;
          candidate = candidate ++ drop k j.candidate;
          whole = whole ++ drop n j.whole;
          q = j.q;
          series = j.series;
          m = j.m;
          next = r.next;
          complete = complete;
          clash = clash;
        }

    abbrev after : Job
    after = after_by (is_complete k r.rank) (is_none r.rank)

    -- by k and n themselves
    brought : Brings j.q j.series j.m (stored_word j) budget j.work (take (size j.q j.m) j.candidate) (take (length (stored_word j))
        j.whole)
        j.next j.complete j.clash work candidate whole r
    brought =
        subst (λ (x : ℕ). Brings j.q j.series j.m (stored_word j) budget j.work (take (size j.q j.m) j.candidate) (take x j.whole)
        j.next
        j.complete j.clash work candidate whole r) (sym word_long)
        (subst (λ (x : ℕ). Brings j.q j.series j.m (stored_word j) budget j.work (take x j.candidate) (take n j.whole) j.next j.complete
        j.clash work candidate whole r) g.is_k
        (subst (λ (x : List ℕ). Brings j.q j.series j.m x budget j.work (take k j.candidate) (take n j.whole) j.next j.complete j.clash
        work candidate whole r) word_is left.brings))

    -- the array of the candidate has its length again, and k of it can be copied
    pub candidate_again : 64 ≡ length (candidate ++ drop k j.candidate)
    candidate_again = sym (length_front j.candidate candidate k left.candidate_kept ∙ g.candidate_long)

    pub copy_fits : k ≤ length (candidate ++ drop k j.candidate)
    copy_fits = omega (arith, candidate_again, short)

    pub next_fits : r.next ≤ 64
    next_fits = omega (arith, brought.counts.within, word_long, few)

    pub rows_fit : IfSome r.rank (λ rows. rows ≤ k)
    rows_fit = go r.rank brought.rows
      where
        go : (rank : Option ℕ) → ((rows : ℕ) → rank ≡ Some rows → rows ≤ size j.q j.m) → IfSome rank (λ rows. rows ≤ k)
        go None h = tt
        go (Some rows) h = omega (arith, g.is_k, h rows refl)

    module _ (h : Sound j) where
      stands : Standing j.q j.series j.m (stored_word j) work candidate whole r.next (is_complete (size j.q j.m) r.rank) (is_none r.rank)
      stands = brought.stands h.stands

      -- after a clash the flag `complete` is not read
      stands_by : (rows : Option ℕ) (complete was found : Bool) (rank : ℕ) → complete ≡ complete_after (size j.q j.m) was found rank rows
          → Standing j.q j.series j.m (stored_word j) work candidate whole r.next (is_complete (size j.q j.m) rows) (is_none rows)
          → Standing j.q j.series j.m (stored_word j) work candidate whole r.next complete (is_none rows)
      stands_by None complete was found rank e s = s
      stands_by (Some rows) complete was found rank e s =
          subst (λ (x : Bool). Standing j.q j.series j.m (stored_word j) work candidate whole r.next x false) (sym e) s

      pub sound_by : (complete clash was found : Bool) (rank : ℕ) → complete ≡ complete_after k was found rank r.rank → clash ≡ is_none r.rank
          → Sound (after_by complete clash)
      sound_by complete clash was found rank e f =
          record {
            passes = h.passes;
            within = brought.counts.within;
            stands =
                subst (λ (x : List ℕ). Standing j.q j.series j.m (stored_word j) work x (take (length (stored_word j)) (whole ++ drop n j.whole))
                r.next complete clash) (sym (take_at candidate (drop k j.candidate) (size j.q j.m) (left.candidate_kept
                ∙ candidate_taken ∙ g.is_k)))
                (subst (λ (x : List ℕ). Standing j.q j.series j.m (stored_word j) work candidate x r.next complete clash)
                (sym (take_at whole (drop n j.whole) (length (stored_word j)) (left.whole_kept ∙ whole_taken ∙ sym word_long)))
                (subst (λ (x : Bool). Standing j.q j.series j.m (stored_word j) work candidate whole r.next complete x) (sym f)
                (stands_by r.rank complete was found rank (e ∙ ap (λ (x : ℕ). complete_after x was found rank r.rank) g.is_k) stands)));
          }

      module _ (slice : List ℕ) (room : length slice ≡ k) where
        -- the task goes on by the number brought in
        goes_on : carried (task_of j) budget slice ≡ replied (task_of after) r.brought slice
        goes_on =
            let c = brought.counts in
            carried_takes (task_of j) budget slice (room ∙ g.is_k)
            ∙ ap (λ (b : ℕ). replied (onward (task_of j) b) b slice)
            (share_brought (stored_word j) budget j.next r.next r.brought c brought.stops)
            ∙ ap (λ (d : ℕ). replied (record { q = j.q; series = j.series; m = j.m; word = stored_word j; done = d }) r.brought slice)
            (done_after (stored_word j) budget j.next r.next r.brought c)

        abbrev answer : Reply → List ℕ → Result
        answer reply after_slice = record { task = task_of after; brought = r.brought; reply = reply; slice = after_slice }

        same_reply : reply_by (size j.q j.m) (length (stored_word j)) r ≡ reply_by k n r
        same_reply = ap (λ (x : ℕ). reply_by x (length (stored_word j)) r) (sym g.is_k) ∙ ap (λ (x : ℕ). reply_by k x r) word_long

        pub gives_message : (reply : Reply) (out : List ℕ) → reply ≡ reply_by k n r → reply ≡ Finished Done → out ≡ candidate
            → carried (task_of j) budget slice ≡ answer reply out
        gives_message reply out e d o =
            let given = gives k n r (sym e ∙ d) in
            let all : r.next ≡ length (stored_word j) = omega (arith, given.all, word_long, brought.counts.within) in
            goes_on
            ∙ replied_message j.q j.series j.m (stored_word j) h.passes work candidate whole r brought.counts.within brought.rows
            brought.fewer
            stands r.brought slice given.rows all given.clear (omega (arith, given.full, g.is_k))
            ∙ ap (λ (x : Reply). answer x candidate) (sym d) ∙ ap (answer reply) (sym o)

        pub gives_other : (reply : Reply) → reply ≡ reply_by k n r → (reply ≡ Finished Done → ⊥) → carried (task_of j) budget slice ≡ answer reply slice
        gives_other reply e d =
            goes_on
            ∙ replied_other j.q j.series j.m (stored_word j) h.passes work candidate whole r brought.counts.within brought.rows brought.fewer
            stands r.brought slice
            (stopped_more (stored_word j) budget j.next r.next r.brought brought.counts brought.stops)
            (λ f. d (e ∙ sym same_reply ∙ f))
            ∙ ap (λ (x : Reply). answer x slice) (same_reply ∙ sym e)

    -- what is written is a message
    pub writes_message : (reply : Reply) (before slice : List ℕ) → reply ≡ reply_by k n r → reply ≡ Finished Done → slice ≡ candidate
        → WrittenOnlyWithMessage j.q j.m reply before slice
    writes_message reply before slice e d s =
        let given = gives k n r (sym e ∙ d) in
        let full : given.rows ≡ size j.q j.m = omega (arith, given.full, g.is_k, brought.rows given.rows given.clear) in
        inr (
          d,
          subst (λ (x : List ℕ). Vector (j.q * j.q) (size j.q j.m) x) (sym s)
              (subst (λ (Q : ℕ). Vector Q (size j.q j.m) candidate) (sizes j.q (short_curve j.q block)).size
              (brought.message (given.clear ∙ ap (λ (n : ℕ). Some n) full))),
        )

    pub copies : take k (candidate ++ drop k j.candidate) ≡ candidate
    copies = take_at candidate (drop k j.candidate) k (left.candidate_kept ∙ candidate_taken)

    pub copies_long : length (take k (candidate ++ drop k j.candidate)) ≡ k
    copies_long = ap length copies ∙ left.candidate_kept ∙ candidate_taken
