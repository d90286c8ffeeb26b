-- What a call answers, by what `bring` leaves of a sound job.
-- Assumes nothing.
use mathlib.Core.List.{List}
use mathlib.Core.Logic.{inl, inr}
use mathlib.Core.Path.{◌≡◌, refl, sym, ap, ◌∙◌}
use Prim.Native.Nat.{ℕ, ◌+◌, ◌-◌, ◌≤◌, ◌<◌}
use native.Mathlib.Decide.{dec_lt}
use native.Mathlib.Omega.{arith}
use borrow.Author.Tests.{eq-eqb, ne_eqb}
use Rattle.std.specs.Prelude.{Some, None, is_none}
use lib.ListN.{length, take}
use Rattle.field.specs.Outcomes.{Done}
use Rattle.linear.specs.Inner.Systems.{flat, rank}
use Rattle.code.specs.Terms.{size}
use Rattle.code.specs.Recovered.{Reading, nothing, message, several, answer_of}
use Rattle.job.specs.declared.bringing.Progress.{Progress}
use Rattle.job.specs.declared.Reply.{Reply}
use Rattle.job.specs.declared.Reply.TheVariants.{NoneFits, Leaves, Finished}
use Rattle.job.specs.Symbols.{arrived_in}
use Rattle.job.specs.Task.{Task}
use Rattle.job.specs.Opened.{open_checks}
use Rattle.job.specs.Carried.{Result, smaller, leaves, standing, replied}
use Rattle.job.specs.Sound.{Standing}
use Rattle.job.specs.Inner.Bringing.{Counted, Stopped, is_complete, reply_by}
use Rattle.job.proofs.Symbols.{count_symbol, below_within, below_all}
use Rattle.job.proofs.Openings.{open_curve, open_broken}
use Rattle.job.proofs.Calls.{smaller_left, smaller_right, replied_more, replied_all}
use Rattle.job.proofs.SeenWords.{seen_none, seen_only, seen_several}
use Rattle.job.proofs.Tellings.{Way, none, leaves as leaves_way, clashes, several as several_way, message as message_way, way}
use Rattle.job.proofs.Standings.{stands_none, stands_only, stands_collected}

-- ---- the number brought in

module _ (word : List ℕ) (budget p₀ p b : ℕ) (counts : Counted word budget p₀ 0 p b) where
  pub done_after : arrived_in (take p₀ word) + b ≡ arrived_in (take p word)
  done_after = omega (arith, counts.counted)

  -- some remain where a place is left, and none where none is
  pub stopped_more : Stopped word budget p b → p < length word → arrived_in (take p word) < arrived_in word
  stopped_more (inl e) l = absurd (omega arith)
  stopped_more (inr s) l =
      omega (arith, count_symbol word p (arrived_in (take p word)) l refl s.1, below_within word (p + 1) (omega arith))

  pub share_brought : Stopped word budget p b → smaller budget (arrived_in word - arrived_in (take p₀ word)) ≡ b
  share_brought (inl e) =
      smaller_right budget (arrived_in word - arrived_in (take p₀ word)) (omega (arith, done_after, below_all word p (omega arith), counts.few))
      ∙ (let z : arrived_in word - arrived_in (take p₀ word) ≡ b = omega (arith, done_after, below_all word p (omega arith)) in z)
  share_brought (inr s) =
      smaller_left budget (arrived_in word - arrived_in (take p₀ word)) (omega (arith, done_after, below_within word p counts.within))
      ∙ sym s.2

-- ---- the reply and the slice

module _ (q series m : ℕ) (word : List ℕ) (accepted : open_checks q series m word ≡ Done) (work candidate whole : List ℕ) (r : Progress)
    (within : r.next ≤ length word) (rows : (n : ℕ) → r.rank ≡ Some n → n ≤ size q m)
    (fewer : (n : ℕ) → r.rank ≡ Some n → n < size q m → n ≡ rank (size q m) (flat 64 (size q m) work))
    (stands : Standing q series m word work candidate whole r.next (is_complete (size q m) r.rank) (is_none r.rank)) where
  abbrev after : Task
  after = record { q = q; series = series; m = m; word = word; done = arrived_in (take r.next word) }

  abbrev k : ℕ
  k = size q m

  abbrev result : ℕ → Reply → List ℕ → Result
  result b reply slice = record { task = after; brought = b; reply = reply; slice = slice }

  reads_none : r.rank ≡ None → standing after ≡ nothing
  reads_none e =
      seen_none q series m word (open_broken q series m word accepted) r.next within (open_curve q series m word accepted)
      (stands_none q series m word work candidate whole r.next (is_complete k r.rank) (is_none r.rank) (ap (is_none {T = ℕ}) e) stands)

  reads_several : (n : ℕ) → r.rank ≡ Some n → n < k → standing after ≡ several (k - n)
  reads_several n e l =
      let c = stands_collected q series m word work candidate whole r.next (is_complete k r.rank) (is_none r.rank)
      (ap (is_complete k) e ∙ ne_eqb n k (λ x. omega arith)) (ap (is_none {T = ℕ}) e) stands in
      let z = fewer n e l in
      seen_several q series m word (open_broken q series m word accepted) r.next within (open_curve q series m word accepted) work (rank k (flat 64 k work)) c
      (omega arith)
      ∙ ap (λ (x : ℕ). several (k - x)) (sym z)

  reads_message : (n : ℕ) → r.rank ≡ Some n → k ≤ n → standing after ≡ message candidate
  reads_message n e l =
      seen_only q series m word (open_broken q series m word accepted) r.next within (open_curve q series m word accepted) candidate whole
      (stands_only q series m word work candidate whole r.next (is_complete k r.rank) (is_none r.rank)
      (ap (is_complete k) e ∙ eq-eqb n k (omega (arith, rows n e))) (ap (is_none {T = ℕ}) e) stands)

  module _ (b : ℕ) (slice : List ℕ) where
    -- the task after the call tells by its reading
    tells_more : (x : Reading) (reply : Reply) → standing after ≡ x → leaves x ≡ reply → arrived_in (take r.next word) < arrived_in word
        → replied after b slice ≡ result b reply slice
    tells_more x reply e f l = replied_more after b slice l ∙ ap (λ (y : Reply). result b y slice) (ap leaves e ∙ f)

    tells_all : (x : Reading) → standing after ≡ x → arrived_in word ≤ arrived_in (take r.next word)
        → replied after b slice ≡ result b (Finished (answer_of x slice).outcome) (answer_of x slice).slice
    tells_all x e l =
        replied_all after b slice l ∙ ap (λ (y : Reading). result b (Finished (answer_of y slice).outcome) (answer_of y slice).slice) e

    -- a message, where the reply says so
    pub replied_message : (n : ℕ) → r.next ≡ length word → r.rank ≡ Some n → k ≤ n → replied after b slice ≡ result b (Finished Done) candidate
    unfolding answer_of
    replied_message n a e l = tells_all (message candidate) (reads_message n e l) (omega (arith, below_all word r.next (omega arith)))

    -- and else the slice stays
    pub replied_other : (r.next < length word → arrived_in (take r.next word) < arrived_in word)
        → (reply_by k (length word) r ≡ Finished Done → ⊥) → replied after b slice ≡ result b (reply_by k (length word) r) slice
    unfolding answer_of leaves
    replied_other more d = go (way k (length word) r)
      where
        go : Way k (length word) r → replied after b slice ≡ result b (reply_by k (length word) r) slice
        go (none l e f) = rw f (tells_more nothing NoneFits (reads_none e) refl (more l))
        go (leaves_way n l e f) = elim (dec_lt n k) [
          | yes h ↦ rw f (tells_more (several (k - n)) (Leaves (k - n)) (reads_several n e h) refl (more l))
          | no h ↦
              let z : 0 ≡ k - n = omega arith in
              rw f (tells_more (message candidate) (Leaves (k - n)) (reads_message n e (omega arith)) (ap Leaves z) (more l))
        ]
        go (clashes l e f) = rw f (tells_all nothing (reads_none e) (omega (arith, below_all word r.next l)))
        go (several_way n l e h f) = rw f (tells_all (several (k - n)) (reads_several n e h) (omega (arith, below_all word r.next l)))
        go (message_way n l e h f) = absurd (d f)
