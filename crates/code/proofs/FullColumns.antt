-- What the checks say of a call over different columns, and over all columns in the order of a series.
-- Assumes nothing.
use mathlib.Core.Bool.{true, false}
use mathlib.Core.List.{List}
use mathlib.Core.Logic.{inl, inr, ⊎_elim}
use mathlib.Core.Path.{◌≡◌, sym, ◌∙◌, subst}
use Prim.Native.Nat.{ℕ, suc, ◌*◌, ◌<◌}
use native.Mathlib.Decide.{dec_lt}
use native.Mathlib.Omega.{arith}
use lib.ListN.{length, get_or, get_or-eq_default}
use Rattle.field.specs.Curve.{IsCurve, IsShort}
use Rattle.field.proofs.Fields.{field_of}
use Rattle.field.proofs.FieldLaws.{zero_lt}
use Rattle.field.proofs.Curves.{each_short, sizes}
use Rattle.poly.specs.Inner.Ranges.{Below}
use Rattle.points.specs.Passing.{passing}
use Rattle.points.specs.Points.{points_on}
use Rattle.points.specs.Series.{columns_of}
use Rattle.points.specs.Inner.Columns.{Columns}
use Rattle.points.proofs.ColumnPoints.{columns_few}
use Rattle.points.proofs.Points.{length_points}
use Rattle.points.proofs.Series.{full_columns, full_places}
use Rattle.points.proofs.Passing.{place_le}
use Rattle.code.specs.Terms.{is_term, size}
use Rattle.code.specs.Inner.Encodable.{Encodable}
use Rattle.code.specs.Inner.Recovering.{BrokenOver}
use Rattle.code.specs.Inner.Readable.{Readable}
use Rattle.code.proofs.Checks.{Accepted, symbol_of_good, value_of_good}

pub full_points : (q series : ℕ) → IsCurve q → length (points_on q (columns_of q series)) ≡ q * q * q
full_points q series curve =
    length_points q curve (columns_of q series) (full_columns q series curve).small ∙ full_places q series curve

-- the values of an accepted message or whole word are symbols
pub accepted_symbols : (q : ℕ) → IsCurve q → (takes : ℕ) (input : List ℕ) (writes room : ℕ) → Accepted false (q * q) takes input writes room
    → Below (field_of q).size input
accepted_symbols q curve takes input writes room h i = elim (dec_lt i (length input)) [
  | yes l ↦ omega (arith, symbol_of_good (q * q) (get_or input i 0) (h.good i l), (sizes q curve).size)
  | no d ↦ rw (get_or-eq_default input 0 {n = i} (omega arith)) (zero_lt (field_of q))
]

-- over different columns
module _ (q : ℕ) (columns : List ℕ) (over : Columns q columns) (m : ℕ) (order : m < q * length columns) where
  pub encodable_over : (message word : List ℕ) → Accepted false (q * q) (size q m) message (q * length columns) (length word) → Encodable q columns m message word
  encodable_over message word h =
      record {
        over = over;
        few = columns_few q columns over;
        order = order;
        long = h.long;
        symbols = accepted_symbols q over.curve (size q m) message (q * length columns) (length word) h;
        room = h.fits;
      }

  pub readable_over : (word message : List ℕ) → Accepted false (q * q) (q * length columns) word (size q m) (length message) → Readable q columns m word message
  readable_over word message h =
      record {
        whole = record {
          over = over;
          few = columns_few q columns over;
          long = h.long;
          symbols = accepted_symbols q over.curve (q * length columns) word (size q m) (length message) h;
        };
        order = order;
        room = h.fits;
      }

  pub recoverable_over : (word : List ℕ) (writes room : ℕ) → Accepted true (q * q) (q * length columns) word writes room → BrokenOver q columns m word
  recoverable_over word writes room h =
      record {
        over = over;
        few = columns_few q columns over;
        order = order;
        long = h.long;
        value = λ p b. ⊎_elim inl (λ k. inr (omega (arith, (sizes q over.curve).size))) (value_of_good (q * q) (get_or word p 0) (h.good p b));
      }

-- over all columns
pub encodable : (q series m : ℕ) (message word : List ℕ) → IsCurve q → m < q * q * q → Accepted false (q * q) (size q m) message (q * q * q) (length word)
    → Encodable q (columns_of q series) m message word
encodable q series m message word curve l h =
    let n = full_places q series curve in
    encodable_over q (columns_of q series) (full_columns q series curve) m (omega arith) message word
    (subst (λ (x : ℕ). Accepted false (q * q) (size q m) message x (length word)) (sym n) h)

pub broken_over : (q series m : ℕ) (word : List ℕ) (writes room : ℕ) → IsCurve q → m < q * q * q → Accepted true (q * q) (q * q * q) word writes room
    → BrokenOver q (columns_of q series) m word
broken_over q series m word writes room curve l h =
    let n = full_places q series curve in
    recoverable_over q (columns_of q series) (full_columns q series curve) m (omega arith) word writes room
    (subst (λ (x : ℕ). Accepted true (q * q) x word writes room) (sym n) h)

pub readable : (q series m : ℕ) (word message : List ℕ) → IsCurve q → m < q * q * q → Accepted false (q * q) (q * q * q) word (size q m) (length message)
    → Readable q (columns_of q series) m word message
readable q series m word message curve l h =
    let n = full_places q series curve in
    readable_over q (columns_of q series) (full_columns q series curve) m (omega arith) word message
    (subst (λ (x : ℕ). Accepted false (q * q) x word (size q m) (length message)) (sym n) h)

-- k of a short block is less than 64
pub size_short : (q : ℕ) → IsShort q → (m : ℕ) → m < q * q * q → size q m < 64
unfolding passing
size_short =
    each_short (λ q. (m : ℕ) → m < q * q * q → size q m < 64)
    (λ m l. omega (arith, place_le (is_term 2) (suc m) 8 l)) (λ m l. omega (arith, place_le (is_term 4) (suc m) 64 l))
