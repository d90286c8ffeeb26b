-- Replies: how the tests of the code decide them.
-- Assumes nothing.
use mathlib.Core.Path.{◌≡◌, refl, sym, ◌∙◌}
use Prim.Native.Nat.{ℕ, ◌-◌, ◌≤◌, ◌<◌}
use native.Mathlib.Decide.{dec_lt}
use native.Mathlib.Omega.{arith}
use borrow.Author.Tests.{lt-ltb, le-ltb}
use Rattle.std.specs.Prelude.{Option, Some, None, Err}
use Rattle.field.specs.Outcomes.{Done}
use Rattle.field.specs.declared.outcome.Refusal.TheVariants.{NoMessage, Several}
use Rattle.job.specs.declared.bringing.Progress.{Progress}
use Rattle.job.specs.declared.Reply.TheVariants.{Refused, NoneFits, Leaves, Finished}
use Rattle.job.specs.Inner.Bringing.{reply_by}

module _ (k n : ℕ) (r : Progress) where
  pub by_none : r.next < n → r.rank ≡ None → reply_by k n r ≡ NoneFits
  unfolding reply_by
  by_none l e = rw (lt-ltb r.next n l, e)

  pub by_leaves : (rows : ℕ) → r.next < n → r.rank ≡ Some rows → reply_by k n r ≡ Leaves (k - rows)
  unfolding reply_by
  by_leaves rows l e = rw (lt-ltb r.next n l, e)

  pub by_clash : n ≤ r.next → r.rank ≡ None → reply_by k n r ≡ Finished (Err NoMessage)
  unfolding reply_by
  by_clash l e = rw (le-ltb r.next n l, e)

  pub by_several : (rows : ℕ) → n ≤ r.next → r.rank ≡ Some rows → rows < k → reply_by k n r ≡ Finished (Err (Several (k - rows)))
  unfolding reply_by
  by_several rows l e h = rw (le-ltb r.next n l, e, lt-ltb rows k h)

  pub by_message : (rows : ℕ) → n ≤ r.next → r.rank ≡ Some rows → k ≤ rows → reply_by k n r ≡ Finished Done
  unfolding reply_by
  by_message rows l e h = rw (le-ltb r.next n l, e, le-ltb rows k h)

  -- its five ways
  pub data Way : Type 0 where
    none : r.next < n → r.rank ≡ None → reply_by k n r ≡ NoneFits → Way
    leaves : (rows : ℕ) → r.next < n → r.rank ≡ Some rows → reply_by k n r ≡ Leaves (k - rows) → Way
    clashes : n ≤ r.next → r.rank ≡ None → reply_by k n r ≡ Finished (Err NoMessage) → Way
    several : (rows : ℕ) → n ≤ r.next → r.rank ≡ Some rows → rows < k → reply_by k n r ≡ Finished (Err (Several (k - rows))) → Way
    message : (rows : ℕ) → n ≤ r.next → r.rank ≡ Some rows → k ≤ rows → reply_by k n r ≡ Finished Done → Way

  pub way : Way
  way = go r.rank refl
    where
      go : (b : Option ℕ) → r.rank ≡ b → Way
      go None e = elim (dec_lt r.next n) [ yes l ↦ none l e (by_none l e) | no l ↦ clashes (omega arith) e (by_clash (omega arith) e) ]
      go (Some rows) e = elim (dec_lt r.next n) [
        | yes l ↦ leaves rows l e (by_leaves rows l e)
        | no l ↦ elim (dec_lt rows k) [
          | yes h ↦ several rows (omega arith) e h (by_several rows (omega arith) e h)
          | no h ↦ message rows (omega arith) e (omega arith) (by_message rows (omega arith) e (omega arith))
        ]
      ]

  -- a reply that gives a message
  pub record Gives : Type 0 where
    pub all : n ≤ r.next
    pub rows : ℕ
    pub clear : r.rank ≡ Some rows
    pub full : k ≤ rows

  pub gives : reply_by k n r ≡ Finished Done → Gives
  gives d = go way
    where
      go : Way → Gives
      go (none l e f) = let g = sym f ∙ d in let z : ◌≡◌ {A = ℕ} 0 1 = cc in absurd (omega arith)
      go (leaves w l e f) = let g = sym f ∙ d in let z : ◌≡◌ {A = ℕ} 0 1 = cc in absurd (omega arith)
      go (clashes l e f) = let g = sym f ∙ d in let z : ◌≡◌ {A = ℕ} 0 1 = cc in absurd (omega arith)
      go (several w l e h f) = let g = sym f ∙ d in let z : ◌≡◌ {A = ℕ} 0 1 = cc in absurd (omega arith)
      go (message w l e h f) = record { all = l; rows = w; clear = e; full = h }

  pub not_refused : reply_by k n r ≡ Refused → ⊥
  not_refused d = go way
    where
      go : Way → ⊥
      go (none l e f) = let g = sym f ∙ d in let z : ◌≡◌ {A = ℕ} 0 1 = cc in omega arith
      go (leaves w l e f) = let g = sym f ∙ d in let z : ◌≡◌ {A = ℕ} 0 1 = cc in omega arith
      go (clashes l e f) = let g = sym f ∙ d in let z : ◌≡◌ {A = ℕ} 0 1 = cc in omega arith
      go (several w l e h f) = let g = sym f ∙ d in let z : ◌≡◌ {A = ℕ} 0 1 = cc in omega arith
      go (message w l e h f) = let g = sym f ∙ d in let z : ◌≡◌ {A = ℕ} 0 1 = cc in omega arith
