-- "a strictly ascending list of c column values x, at least one" (T-12), and the checks of a call over such a list.
use Rattle.std.specs.Prelude.{Bool, not, ◌&&◌, cond, List, ℕ, ◌*◌, eqb, leb, length}
use Rattle.field.specs.Curve.{is_short, curve_of}
use Rattle.field.specs.Outcomes.{Outcome, Done, refuse}
use Rattle.field.specs.declared.outcome.Refusal.TheVariants.{BadCurve, BadColumns, BadOrder}
use Rattle.poly.specs.Ascending.{is_ascending_below}
use Rattle.code.specs.Terms.{size}
use Rattle.code.specs.Checks.{slice_checks}

-- not "18: a column list that is empty, not ascending, or holds a value of Q or more"
unfoldable pub is_column_list : ℕ → List ℕ → Bool
is_column_list Q columns = not (eqb (length columns) 0) && is_ascending_below Q columns

-- 1, 18, 2 to 5, "n being q × c", of a call that decodes, which takes a word and writes a message, or encodes
unfoldable pub on_checks : Bool → Bool → ℕ → List ℕ → ℕ → List ℕ → ℕ → Outcome
on_checks gaps decodes q columns m input room =
    let n = q * length columns in
    let k = size q m in
    refuse (not (is_short q)) BadCurve
    (refuse (not (is_column_list (curve_of q).symbols columns)) BadColumns
    (refuse (leb n m) BadOrder
    (slice_checks gaps (curve_of q).symbols (cond decodes n k) input (cond decodes k n) room
    Done)))
