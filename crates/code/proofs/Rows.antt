-- Each symbol of a word is the value of its place's linear form at the message.
-- Assumes nothing.
use mathlib.Core.List.{List}
use mathlib.Core.Path.{◌≡◌, sym, ap, ◌∙◌}
use Prim.Native.Nat.{ℕ, ◌*◌, ◌/◌, ◌%◌, ◌<◌}
use native.Mathlib.Nat.{div-add-mod, mod-lt}
use native.Mathlib.Omega.{arith}
use lib.ListN.{length, get_or}
use Rattle.field.proofs.Fields.{field_of}
use Rattle.field.proofs.Curves.{sizes}
use Rattle.poly.specs.Inner.Linear.{entry, dot}
use Rattle.points.specs.Inner.Columns.{Columns}
use Rattle.points.proofs.Places.{column_of}
use Rattle.code.specs.Terms.{size}
use Rattle.code.specs.Word.{value_at, word_of}
use Rattle.code.specs.Inner.Rows.{row_of}
use Rattle.code.proofs.WordColumns.{word_at}

pub row_lt : (q : ℕ) (columns : List ℕ) (m p n : ℕ) → row_of q columns m p n < (field_of q).size
unfolding row_of
row_lt q columns m p n = (field_of q).times_lt _ _

pub word_dot : (q : ℕ) (columns : List ℕ) → Columns q columns → (m : ℕ) (v : List ℕ) (p : ℕ) → p < q * length columns
    → get_or (word_of q columns m v) p 0 ≡ dot (field_of q) (size q m) (row_of q columns m p) (entry v)
unfolding value_at dot row_of
word_dot q columns over m v p l =
    let pos : 0 < q = omega (arith, (sizes q over.curve).low) in
    let column = column_of q pos (length columns) p l in
    ap (λ (i : ℕ). get_or (word_of q columns m v) i 0) (sym (div-add-mod p q))
    ∙ word_at q m over.curve v columns over.small (p / q) (p % q) column (mod-lt p pos)
