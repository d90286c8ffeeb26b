-- The table of the y of all columns: its rule from two computed tests. What it says of the points is `PointTables`.
-- Assumes nothing.
use mathlib.Core.List.{List}
use mathlib.Core.Path.{◌≡◌, sym, ap, ap₂, ◌∙◌}
use Prim.Native.Nat.{ℕ, ◌+◌, ◌*◌, ◌/◌, ◌%◌, ◌≤◌, ◌<◌}
use native.Mathlib.Nat.{mul-suc, mul-le-mul_left}
use native.Mathlib.Omega.{arith}
use lib.Dec.{T}
use lib.ListN.{length, get_or}
use lib.Seq.{ext_get_or}
use Rattle.field.specs.Curve.{IsCurve}
use Rattle.field.proofs.Fields.{field_of}
use Rattle.field.proofs.FieldLaws.{zero_lt}
use Rattle.field.proofs.Table.{agrees, entry, all_below, below_entry}
use Rattle.field.proofs.Curves.{sizes}
use Rattle.poly.specs.Inner.Lanes.{lanes}
use Rattle.poly.proofs.LaneLaws.{lanes_at, lanes_below}
use Rattle.poly.specs.Inner.Ranges.{Below, part}
use Rattle.poly.proofs.Parts.{part_at, length_part}
use Rattle.poly.proofs.Blocks.{block_fits}
use Rattle.points.specs.Points.{ys_of}
use Rattle.points.specs.Inner.Columns.{Ys, PaddedYs}
use Rattle.points.proofs.Traces.{ys_8, fast_y}
use Rattle.points.proofs.ColumnPoints.{length_ys}
use Rattle.points.proofs.Places.{quotient, remainder}

-- the y at place p
abbrev pub y_at : ℕ → ℕ → ℕ
y_at q p = get_or (ys_of q (p / q)) (p % q) 0

-- f is the y at each place, by a formula that is quickly worked out
pub ys_table : (q : ℕ) → IsCurve q → (n : ℕ) (f : ℕ → ℕ) → ((p : ℕ) → p < q * q * q → f p ≡ y_at q p) → q * q * q ≤ n → (list : List ℕ)
    → length list ≡ n → T (agrees f 0 (q * q * q) list) → T (all_below (field_of q).size list) → Ys q list
ys_table q curve n f same points list long test small =
    record { long = omega arith; column = column; symbols = below_entry (field_of q).size list (zero_lt (field_of q)) small }
  where
    within : (x : ℕ) → x < q * q → q * x + q ≤ q * q * q
    within x l = omega (arith, (sizes q curve).grid, mul-suc q x, mul-le-mul_left q l)

    column : (x : ℕ) → x < q * q → part list (q * x) (q * x + q) ≡ ys_of q x
    column x l =
        let long_part : length (part list (q * x) (q * x + q)) ≡ q
        = length_part list (q * x) (q * x + q) (omega arith) (omega (arith, within x l)) ∙ omega arith in
        let pos : 0 < q = omega (arith, (sizes q curve).low) in
        ext_get_or 0 (part list (q * x) (q * x + q)) (ys_of q x) (long_part ∙ sym (length_ys q curve x l))
        (λ t b.
        let k : t < q = omega arith in
        part_at list (q * x) (q * x + q) t (omega arith)
        ∙ entry f (q * q * q) list test (q * x + t) (omega (arith, within x l)) ∙ same (q * x + t) (omega (arith, within x l))
        ∙ ap₂ (λ (u v : ℕ). get_or (ys_of q u) v 0) (quotient q pos x t k) (remainder q pos x t k))

-- of the long curve, without a product
pub fast_is : (p : ℕ) → p < 512 → fast_y p ≡ y_at 8 p
fast_is p l = let k : p / 8 < 64 = omega arith in ap (λ (ys : List ℕ). get_or ys (p % 8) 0) (sym (ys_8 (p / 8) k))

-- the y number s of column x in a table
pub table_fits : (q : ℕ) → IsCurve q → (x s : ℕ) → x < q * q → s < q → q * x + s < q * q * q
table_fits q curve x s l b = omega (arith, (sizes q curve).grid, block_fits q x (q * q) l)

pub table_at : (q : ℕ) (list : List ℕ) → Ys q list → (x s : ℕ) → x < q * q → s < q → get_or list (q * x + s) 0 ≡ get_or (ys_of q x) s 0
table_at q list h x s l b = sym (part_at list (q * x) (q * x + q) s (omega arith)) ∙ ap (λ (u : List ℕ). get_or u s 0) (h.column x l)

-- a table, and zeros after it
pub padded_table : (q : ℕ) (list padded : List ℕ) → Ys q list → q * q * q + 16 ≤ length padded → ((p : ℕ) → get_or padded p 0 ≡ get_or list p 0) → PaddedYs q padded
padded_table q list padded h long same =
    record {
      long = long;
      at = λ x s l b. same (q * x + s) ∙ table_at q list h x s l b;
      symbols = λ p. rw (same p) (h.symbols p);
    }

-- sixteen symbols from the y of column x on
module _ (q x : ℕ) (all ys : List ℕ) (h : PaddedYs q all) (e : ys ≡ lanes (λ s. get_or all (q * x + s) 0)) where
  pub taken_below : Below (field_of q).size ys
  taken_below = rw e (lanes_below (λ s. get_or all (q * x + s) 0) (field_of q).size (λ s l. h.symbols (q * x + s)))

  pub taken_at : IsCurve q → x < q * q → (s : ℕ) → s < q → get_or ys s 0 ≡ get_or (ys_of q x) s 0
  taken_at curve l s b =
      ap (λ (l : List ℕ). get_or l s 0) e ∙ lanes_at (λ s. get_or all (q * x + s) 0) s (omega (arith, (sizes q curve).high)) ∙ h.at x s l b
