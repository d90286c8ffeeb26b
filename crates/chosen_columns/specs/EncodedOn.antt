-- Encoding over chosen columns, for every argument: "places counted anew from 0 in series 1 order" (T-12), that of the list, y ascending.
use Rattle.std.specs.Prelude.{false, List, ℕ, length}
use Rattle.field.specs.Outcomes.{Done}
use Rattle.code.specs.Word.{word_of}
use Rattle.code.specs.Answers.{Answer, answered, unless_refused}
use Rattle.chosen_columns.specs.ColumnLists.{on_checks}

unfoldable pub encoded_on : ℕ → List ℕ → ℕ → List ℕ → List ℕ → Answer
encoded_on q columns m message word =
    unless_refused (on_checks false false q columns m message (length word)) word (answered Done (word_of q columns m message))
