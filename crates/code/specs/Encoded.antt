-- Encoding, for every argument.
use Rattle.std.specs.Prelude.{false, List, ℕ, length}
use Rattle.field.specs.Curve.{is_curve}
use Rattle.field.specs.Outcomes.{Outcome, Done}
use Rattle.points.specs.Series.{columns_of}
use Rattle.code.specs.Word.{word_of}
use Rattle.code.specs.Checks.{call_checks}
use Rattle.code.specs.Answers.{Answer, answered, unless_refused}

-- 1, 17, 2, 3, 4, 5
abbrev pub encode_checks : ℕ → ℕ → ℕ → List ℕ → List ℕ → Outcome
encode_checks q series m message word = call_checks (is_curve q) false false q series m message (length word) Done

unfoldable pub encoded : ℕ → ℕ → ℕ → List ℕ → List ℕ → Answer
encoded q series m message word = unless_refused (encode_checks q series m message word) word (answered Done (word_of q (columns_of q series) m message))
