-- How recovery of long blocks goes past its checks, and when its work slice is kept; and what holds of short blocks holds of long ones.
-- Assumes nothing.
use mathlib.Core.Bool.{true, ◌||◌, false≢true}
use mathlib.Core.List.{List}
use mathlib.Core.Path.{◌≡◌, refl, sym, ap, ◌∙◌}
use Prim.Native.Nat.{ℕ}
use borrow.Author.Tests.{eq-eqb, ne_eqb}
use lib.Dec.{eqb}
use lib.ListN.{length}
use Rattle.std.specs.Prelude.{Err}
use Rattle.field.specs.Outcomes.{Outcome, Done, number}
use Rattle.field.specs.declared.outcome.Refusal.TheVariants.{BadWork}
use Rattle.field.proofs.Curves.{long_curve}
use Rattle.field.proofs.Outcomes.{row_refused, row_passed}
use Rattle.code.specs.Answers.{Answer, answered}
use Rattle.code.specs.Checks.{call_checks}
use Rattle.code.specs.Recovered.{Reading, nothing, message, several, answer_of}
use Rattle.code.specs.RecoveredLong.{work_length, long_checks, recovered_long, KeptUnlessWorked}
use Rattle.code.proofs.Answers.{Refused, refused, not_refused, entry_refused}
use Rattle.code.proofs.Checks.{call_follows}
use Rattle.code.proofs.Facts.{Facts, facts}
use Rattle.code.proofs.Recoveries.{reading_of}

module _ (series m : ℕ) (broken slice : List ℕ) (work : ℕ) where
  abbrev row : Outcome → Outcome
  row = call_checks true true true 8 series m broken (length slice)

  module _ (o : Outcome) (e : o ≡ row Done) where
    -- refused by 17, 2, 3, 4 or 5
    pub long_refused : Refused o → recovered_long series m broken slice work ≡ answered o slice
    unfolding recovered_long
    long_refused r = entry_refused (long_checks series m broken slice work) o slice _ (row_refused row (call_follows true true true 8 series m broken (length slice)) o e _ r) r

    module _ (d : o ≡ Done) where
      -- refused by 14
      pub long_work : (work ≡ work_length → ⊥) → recovered_long series m broken slice work ≡ answered (Err BadWork) slice
      unfolding recovered_long
      long_work n =
          refused (long_checks series m broken slice work) (Err BadWork) slice _
          (row_passed row (call_follows true true true 8 series m broken (length slice)) o e _ d ∙ rw (ne_eqb work work_length n) refl) refl

      pub long_passed : work ≡ work_length → recovered_long series m broken slice work ≡ answer_of (reading_of 8 series m broken) slice
      unfolding recovered_long
      long_passed f =
          not_refused (long_checks series m broken slice work) slice _
          (row_passed row (call_follows true true true 8 series m broken (length slice)) o e _ d ∙ rw (eq-eqb work work_length f) refl)

-- what a reading answers is success, 9 or 10, after which the work slice is left open
open_answer : (r : Reading) (slice : List ℕ) → let n = number (answer_of r slice).outcome in (eqb n 0 || (eqb n 9 || eqb n 10)) ≡ true
unfolding answer_of
open_answer nothing slice = refl
open_answer (message v) slice = refl
open_answer (several r) slice = refl

pub kept_open : (r : Reading) (slice : List ℕ) (o : Outcome) (v before after : List ℕ) → answer_of r slice ≡ answered o v → KeptUnlessWorked o before after
kept_open r slice o v before after e k =
    absurd (false≢true (sym k ∙ ap (λ (a : Answer). let n = number a.outcome in (eqb n 0 || (eqb n 9 || eqb n 10))) (sym e) ∙ open_answer r slice))

-- "all that encode, unencode and recover assure for a short block holds for a long one": 0 or a power of 64 messages fit, and m + 1 places decide
pub long_facts : (series m : ℕ) → Facts 8 series m
long_facts series m = facts 8 series m long_curve
