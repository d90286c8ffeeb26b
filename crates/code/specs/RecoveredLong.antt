-- Recovery of long blocks, for every argument: "Recovery on this curve is a call of its own, with no curve number and with a lent work slice of
-- 262,144 bytes" (T-09).
use Rattle.std.specs.Prelude.{true, false, not, ◌||◌, List, ◌≡◌, ℕ, eqb, length}
use Rattle.field.specs.Curve.{curve_of}
use Rattle.field.specs.Outcomes.{Outcome, Done, number, refuse}
use Rattle.field.specs.declared.outcome.Refusal.TheVariants.{BadWork}
use Rattle.points.specs.Series.{columns_of}
use Rattle.code.specs.Terms.{size}
use Rattle.code.specs.Word.{word_of}
use Rattle.code.specs.Checks.{call_checks}
use Rattle.code.specs.Answers.{Answer, unless_refused}
use Rattle.code.specs.Recovered.{reading, answer_of}

abbrev pub work_length : ℕ
work_length = 262144

-- 17, 2, 3, 4 (255 allowed), 5, and "14: work slice of another length, after 5"
abbrev pub long_checks : ℕ → ℕ → List ℕ → List ℕ → ℕ → Outcome
long_checks series m broken slice work = call_checks true true true 8 series m broken (length slice) (refuse (not (eqb work work_length)) BadWork Done)

-- the length of the work slice is work
unfoldable pub recovered_long : ℕ → ℕ → List ℕ → List ℕ → ℕ → Answer
recovered_long series m broken slice work =
    unless_refused (long_checks series m broken slice work) slice (answer_of (reading (curve_of 8).symbols (size 8 m) (word_of 8 (columns_of 8 series) m) broken) slice)

-- the work slice, "whose content afterwards is left open: success and refusals 9 and 10 may change it, other refusals not"
abbrev pub KeptUnlessWorked : Outcome → List ℕ → List ℕ → Type 0
KeptUnlessWorked outcome before after =
    (eqb (number outcome) 0 || (eqb (number outcome) 9 || eqb (number outcome) 10)) ≡ false → after ≡ before
