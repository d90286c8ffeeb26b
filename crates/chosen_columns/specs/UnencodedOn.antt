-- Unencoding over chosen columns (T-12), for every argument: it gives the message whose word the word is, and refuses exactly where there is
-- none; 255 is a bad value here.
use Rattle.std.specs.Prelude.{true, false, List, ℕ, length}
use Rattle.field.specs.Curve.{curve_of}
use Rattle.code.specs.Terms.{size}
use Rattle.code.specs.Word.{word_of}
use Rattle.code.specs.Fitting.{fitting}
use Rattle.code.specs.Answers.{Answer, unless_refused}
use Rattle.code.specs.Unencoded.{the_message}
use Rattle.chosen_columns.specs.ColumnLists.{on_checks}

unfoldable pub unencoded_on : ℕ → List ℕ → ℕ → List ℕ → List ℕ → Answer
unencoded_on q columns m word slice =
    unless_refused (on_checks false true q columns m word (length slice)) slice
    (the_message (fitting (curve_of q).symbols (size q m) (word_of q columns m) word) slice)
