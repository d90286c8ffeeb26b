-- How recovery goes past its checks, and what its answer tells of the reading.
-- Assumes nothing.
use mathlib.Core.Bool.{false, cond}
use mathlib.Core.List.{List}
use mathlib.Core.Logic.{◌↔◌}
use mathlib.Core.Path.{◌≡◌, refl, ◌∙◌}
use Prim.Native.Nat.{ℕ, ◌*◌}
use lib.Dec.{eqb}
use Rattle.std.specs.Prelude.{Err}
use Rattle.field.specs.Outcomes.{Outcome, Done, number, second}
use Rattle.field.specs.declared.outcome.Refusal.TheVariants.{NoMessage, Several}
use Rattle.points.specs.Series.{columns_of}
use Rattle.code.specs.Terms.{size}
use Rattle.code.specs.Word.{word_of}
use Rattle.code.specs.Answers.{answered}
use Rattle.code.specs.Recovered.{Reading, nothing, message, several, reading, answer_of, recover_checks, recovered}
use Rattle.code.proofs.Answers.{refused, not_refused}

-- the reading past the checks
abbrev pub reading_of : ℕ → ℕ → ℕ → List ℕ → Reading
reading_of q series m broken = reading (q * q) (size q m) (word_of q (columns_of q series) m) broken

module _ (q series m : ℕ) (broken slice : List ℕ) where
  -- a refusal leaves the slice as it was
  pub recovered_refused : (o : Outcome) → recover_checks q series m broken slice ≡ o → eqb (number o) 0 ≡ false
      → recovered q series m broken slice ≡ answered o slice
  unfolding recovered
  recovered_refused o = refused (recover_checks q series m broken slice) o slice (answer_of (reading_of q series m broken) slice)

  pub recovered_answer : recover_checks q series m broken slice ≡ Done → recovered q series m broken slice ≡ answer_of (reading_of q series m broken) slice
  unfolding recovered
  recovered_answer = not_refused (recover_checks q series m broken slice) slice (answer_of (reading_of q series m broken) slice)

-- ---- the answer determines the reading

abbrev reading_from : Outcome → List ℕ → Reading
reading_from o slice = cond (eqb (number o) 0) (message slice) (cond (eqb (number o) 9) nothing (several (second o)))

reading_of_lem : (r : Reading) (slice : List ℕ) → r ≡ reading_from (answer_of r slice).outcome (answer_of r slice).slice
unfolding answer_of
reading_of_lem nothing slice = refl
reading_of_lem (message v) slice = refl
reading_of_lem (several n) slice = refl

pub answer_nothing : (r : Reading) (slice : List ℕ) → ((answer_of r slice).outcome ≡ Err NoMessage) ↔ (r ≡ nothing)
unfolding answer_of
answer_nothing r slice = (λ h. reading_of_lem r slice ∙ rw h, λ h. rw h)

pub answer_message : (r : Reading) (slice v : List ℕ) → (((answer_of r slice).outcome ≡ Done) × ((answer_of r slice).slice ≡ v)) ↔ (r ≡ message v)
unfolding answer_of
answer_message r slice v = (λ h. reading_of_lem r slice ∙ rw (h.0, h.1), λ h. rw h (refl, refl))

pub answer_several : (r : Reading) (slice : List ℕ) (n : ℕ) → ((answer_of r slice).outcome ≡ Err (Several n)) ↔ (r ≡ several n)
unfolding answer_of
answer_several r slice n = (λ h. reading_of_lem r slice ∙ rw h, λ h. rw h)
