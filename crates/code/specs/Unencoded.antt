-- Unencoding, for every argument: "the joined polynomial is the message only if it has no term of weight above m", said by the
-- messages: it gives the message whose word the word is, and refuses exactly where there is none.
use Rattle.std.specs.Prelude.{true, false, List, [], ◌∷◌, ℕ, length}
use Rattle.field.specs.Curve.{is_curve, curve_of}
use Rattle.std.specs.Prelude.{Err}
use Rattle.field.specs.Outcomes.{Outcome, Done}
use Rattle.field.specs.declared.outcome.Refusal.TheVariants.{NoMessage}
use Rattle.points.specs.Series.{columns_of}
use Rattle.code.specs.Terms.{size}
use Rattle.code.specs.Word.{word_of}
use Rattle.code.specs.Fitting.{fitting}
use Rattle.code.specs.Checks.{call_checks}
use Rattle.code.specs.Answers.{Answer, answered, unless_refused}

-- 1, 17, 2, 3, 4 (255 is a bad value here), 5
abbrev pub unencode_checks : ℕ → ℕ → ℕ → List ℕ → List ℕ → Outcome
unencode_checks q series m word slice = call_checks (is_curve q) false true q series m word (length slice) Done

-- of the messages that have the word (never two), the one
abbrev pub the_message : List (List ℕ) → List ℕ → Answer
the_message [] slice = answered (Err NoMessage) slice
the_message (message ∷ rest) slice = answered Done message

unfoldable pub unencoded : ℕ → ℕ → ℕ → List ℕ → List ℕ → Answer
unencoded q series m word slice =
    unless_refused (unencode_checks q series m word slice) slice (the_message (fitting (curve_of q).symbols (size q m) (word_of q (columns_of q series) m) word) slice)
