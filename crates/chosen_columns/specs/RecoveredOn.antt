-- Recovery over chosen columns (T-12), for every argument.
use Rattle.std.specs.Prelude.{true, List, ℕ, length}
use Rattle.field.specs.Curve.{curve_of}
use Rattle.code.specs.Terms.{size}
use Rattle.code.specs.Word.{word_of}
use Rattle.code.specs.Answers.{Answer, unless_refused}
use Rattle.code.specs.Recovered.{reading, answer_of}
use Rattle.chosen_columns.specs.ColumnLists.{on_checks}

unfoldable pub recovered_on : ℕ → List ℕ → ℕ → List ℕ → List ℕ → Answer
recovered_on q columns m broken slice =
    unless_refused (on_checks true true q columns m broken (length slice)) slice
    (answer_of (reading (curve_of q).symbols (size q m) (word_of q columns m) broken) slice)
