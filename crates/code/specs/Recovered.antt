-- Recovery of short blocks, for every argument.
use Rattle.std.specs.Prelude.{true, List, [], ◌∷◌, ℕ, length}
use Rattle.field.specs.Curve.{is_short, curve_of}
use Rattle.std.specs.Prelude.{Err}
use Rattle.field.specs.Outcomes.{Outcome, Done}
use Rattle.field.specs.declared.outcome.Refusal.TheVariants.{NoMessage, Several}
use Rattle.points.specs.Series.{columns_of}
use Rattle.code.specs.Terms.{size}
use Rattle.code.specs.Word.{word_of}
use Rattle.code.specs.Exponent.{exponent}
use Rattle.code.specs.Fitting.{fitting}
use Rattle.code.specs.Checks.{call_checks}
use Rattle.code.specs.Answers.{Answer, answered, unless_refused}

-- what the list of all messages that fit says: none, this one, or several, with the r for which its length is Q^r
pub data Reading : Type 0 where
  nothing : Reading
  message : List ℕ → Reading
  several : ℕ → Reading

unfoldable pub read : ℕ → List (List ℕ) → Reading
read Q [] = nothing
read Q (v ∷ []) = message v
read Q (v ∷ w ∷ rest) = several (exponent Q (length (v ∷ w ∷ rest)))

unfoldable pub reading : (Q k : ℕ) → (List ℕ → List ℕ) → List ℕ → Reading
reading Q k word broken = read Q (fitting Q k word broken)

-- "9. No message fits. 10. Two or more messages fit; the second number is r, where exactly Q to the power r fit."
unfoldable pub answer_of : Reading → List ℕ → Answer
answer_of nothing slice = answered (Err NoMessage) slice
answer_of (message v) slice = answered Done v
answer_of (several r) slice = answered (Err (Several r)) slice

-- 1, 17, 2, 3, 4 (255 allowed), 5
abbrev pub recover_checks : ℕ → ℕ → ℕ → List ℕ → List ℕ → Outcome
recover_checks q series m broken slice = call_checks (is_short q) true true q series m broken (length slice) Done

unfoldable pub recovered : ℕ → ℕ → ℕ → List ℕ → List ℕ → Answer
recovered q series m broken slice =
    unless_refused (recover_checks q series m broken slice) slice (answer_of (reading (curve_of q).symbols (size q m) (word_of q (columns_of q series) m) broken) slice)
