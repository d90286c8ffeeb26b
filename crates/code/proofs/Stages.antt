-- The two stages of encoding: what their turns leave, and that they leave the word.
-- Assumes nothing.
use mathlib.Core.List.{List}
use mathlib.Core.Path.{◌≡◌, refl, sym, ap, ◌∙◌}
use Prim.Native.Nat.{ℕ, zero, suc, ◌+◌, ◌-◌, ◌*◌, ◌/◌, ◌≤◌, ◌<◌}
use native.Mathlib.Nat.{mul-suc, mul_comm, mul-le-mul_left, div-add-mod, mod-lt, div-lt_iff_lt-mul}
use native.Mathlib.Numerals.{add-one}
use native.Mathlib.Decide.{dec_lt}
use native.Mathlib.Omega.{arith}
use borrow.Rule.Slice.PartMut.{put_mid}
use lib.ListN.{length, get_or, get_or-eq_default}
use Rattle.field.specs.Curve.{IsCurve, IsShort}
use Rattle.field.proofs.Fields.{field_of}
use Rattle.field.proofs.FieldLaws.{zero_lt}
use Rattle.field.proofs.Curves.{sizes, short_sizes}
use Rattle.poly.specs.Inner.Polynomials.{value, Terms}
use Rattle.poly.specs.Inner.Linear.{entry}
use Rattle.poly.specs.Inner.Rows.{stored}
use Rattle.poly.specs.Inner.Lanes.{lanes}
use Rattle.poly.specs.Inner.Ranges.{Below, Blocks, part}
use Rattle.poly.proofs.Values.{value_cong, value_lt, value_extend}
use Rattle.poly.proofs.Multiples.{length_stored, stored_in}
use Rattle.poly.proofs.LaneLaws.{lanes_at}
use Rattle.poly.proofs.Bools.{true_or_false}
use Rattle.poly.proofs.Entries.{zeros, padded, below_set, below_zeros}
use Rattle.poly.proofs.Parts.{part_at, length_part, below_part, below_back}
use Rattle.poly.proofs.Blocks.{blocks_none, blocks_more, blocks_group, blocks_ext}
use mathlib.Core.Logic.{inl, inr}
use Rattle.points.specs.Points.{ys_of}
use Rattle.points.specs.Series.{columns_of}
use Rattle.points.specs.Inner.Columns.{Columns, column_y}
use Rattle.points.proofs.ColumnPoints.{length_ys, y_symbol}
use Rattle.points.proofs.Series.{full_columns, length_columns}
use Rattle.code.specs.Terms.{is_term}
use Rattle.code.specs.Word.{value_at, word_of}
use Rattle.code.specs.Inner.Grid.{entry_of, rank, scatter_below, scatter}
use Rattle.code.specs.Inner.Encodable.{Encodable, Staged, Rowed, row_value, in_y, column_value, grid_column}
use Rattle.code.proofs.GridEntries.{scatter_zero, scatter_term, scatter_none}
use Rattle.code.proofs.GridLaw.{two_stages}
use Rattle.code.proofs.WordColumns.{word_at, word_length}

pub columns_below : (q : ℕ) (columns : List ℕ) → Columns q columns → Below (field_of q).size columns
columns_below q columns h t = elim (dec_lt t (length columns)) [
  | yes l ↦ omega (arith, h.small t l, (sizes q h.curve).size)
  | no d ↦ rw (get_or-eq_default columns 0 {n = t} (omega arith)) (zero_lt (field_of q))
]

-- the places of columns are among those of the curve
pub columns_points : (q : ℕ) (columns : List ℕ) → Columns q columns → length columns ≤ q * q → q * length columns ≤ q * q * q
columns_points q columns h few = omega (arith, mul-le-mul_left q few, (sizes q h.curve).grid)

pub columns_short : (q : ℕ) (columns : List ℕ) → Columns q columns → IsShort q → length columns ≤ q * q → q * length columns ≤ 64
columns_short q columns h short few = omega (arith, columns_points q columns h few, (short_sizes q short).points)

pub symbols_scatter : (q n : ℕ) (message : List ℕ) → Below (field_of q).size message → (w : ℕ) → Below (field_of q).size (scatter_below q n message w)
symbols_scatter q n message s zero = rw (scatter_zero q n message) (below_zeros (field_of q).size n (zero_lt (field_of q)))
symbols_scatter q n message s (suc w) =
    elim (true_or_false (is_term q w)) [
      | inl t ↦ rw (scatter_term q n message w t)
          (below_set (field_of q).size (scatter_below q n message w) (entry_of q w) (get_or message (rank q w) 0)
          (symbols_scatter q n message s w) (s (rank q w)))
      | inr t ↦ rw (scatter_none q n message w t) (symbols_scatter q n message s w)
    ]

module _ (q : ℕ) (columns : List ℕ) where
  -- the places of the first stage are the columns, and zeros
  module _ (few : length columns ≤ 16) (places : List ℕ) (e : places ≡ stored (length columns) columns (zeros 16)) where
    pub places_at : (t : ℕ) → get_or places t 0 ≡ get_or columns t 0
    places_at t = ap (λ (x : List ℕ). get_or x t 0) e ∙ padded 16 (length columns) columns (omega arith) few t

    pub places_below : Below (field_of q).size columns → Below (field_of q).size places
    places_below h t = rw (places_at t) (h t)

  pub rows_none : (n : ℕ) (grid rows : List ℕ) → Below (field_of q).size rows → Rowed q columns n grid rows 0
  rows_none n grid rows small = record { values = blocks_none 16 (row_value q columns n grid) rows; symbols = small }

  -- one row more: k coefficients are left without the zeros at the end
  pub rows_turn : (n : ℕ) (grid rows places row last : List ℕ) (j k at : ℕ) → Rowed q columns n grid rows j → at ≡ 16 * j → at + 16 ≤ length rows
      → ((t : ℕ) → get_or places t 0 ≡ get_or columns t 0) → Terms (λ i. get_or grid (q * i + j) 0) n k
      → row ≡ lanes (λ t. value (field_of q) k (λ i. get_or grid (q * i + j) 0) (entry places t)) → last ≡ stored 16 row (part rows at (at + 16))
      → Rowed q columns n grid (put_mid at (at + 16 - at) rows last) (j + 1)
  rows_turn n grid rows places row last j k at h is_at fits same left is_row e =
      record {
        values = blocks_more 16 (row_value q columns n grid) rows last j at (at + 16) h.values is_at refl fits long new;
        symbols = below_back (field_of q).size rows last at (at + 16) (omega arith) fits (long ∙ omega arith) h.symbols small;
      }
    where
      f : ℕ → ℕ
      f i = get_or grid (q * i + j) 0

      part_long : length (part rows at (at + 16)) ≡ 16
      part_long = length_part rows at (at + 16) (omega arith) fits ∙ omega arith

      long : length last ≡ 16
      long = ap length e ∙ length_stored 16 row (part rows at (at + 16)) ∙ part_long

      new : (t : ℕ) → t < 16 → get_or last t 0 ≡ row_value q columns n grid j t
      new t l =
          ap (λ (x : List ℕ). get_or x t 0) e ∙ stored_in 16 row (part rows at (at + 16)) t l (omega (arith, part_long))
          ∙ ap (λ (x : List ℕ). get_or x t 0) is_row ∙ lanes_at (λ t. value (field_of q) k f (entry places t)) t l
          ∙ ap (value (field_of q) k f) (same t)
          ∙ sym (value_extend (field_of q) k n f (get_or columns t 0) left.within left.zeros)

      small : Below (field_of q).size last
      small t = elim (dec_lt t 16) [
        | yes l ↦ rw (new t l) (value_lt (field_of q) n f (get_or columns t 0))
        | no d ↦ rw (get_or-eq_default last 0 {n = t} (omega (arith, long))) (zero_lt (field_of q))
      ]

  pub rows_all : (n : ℕ) (grid rows : List ℕ) (j : ℕ) → q ≤ j → Rowed q columns n grid rows j → Rowed q columns n grid rows q
  rows_all n grid rows j l h = record { values = record { at = λ i t a b. h.values.at i t (omega arith) b }; symbols = h.symbols }

  -- the second stage: one column more
  pub columns_turn : (rows word ys last : List ℕ) (t at : ℕ) → Blocks q (column_value q columns rows) word t → at ≡ q * t → at + q ≤ length word
      → length last ≡ q → ((s : ℕ) → s < q → entry last s ≡ in_y q rows t (entry ys s)) → ((s : ℕ) → s < q → entry ys s ≡ column_y q columns t s)
      → Blocks q (column_value q columns rows) (put_mid at (at + q - at) word last) (t + 1)
  columns_turn rows word ys last t at h is_at fits long new same =
      blocks_more q (column_value q columns rows) word last t at (at + q) h is_at refl fits long (λ s b. new s b ∙ ap (in_y q rows t) (same s b))

-- a column's part of the word, where the first q of sixteen values are stored
pub column_stored : (q : ℕ) → IsCurve q → (rows ys : List ℕ) (t : ℕ) (values before after : List ℕ) → values ≡ lanes (λ s. in_y q rows t (entry ys s))
    → length before ≡ q → after ≡ stored (length before) values before → (s : ℕ) → s < q → entry after s ≡ in_y q rows t (entry ys s)
column_stored q curve rows ys t values before after is_values long e s b =
    ap (λ (x : List ℕ). entry x s) e ∙ stored_in (length before) values before s (omega arith) (omega arith)
    ∙ ap (λ (x : List ℕ). entry x s) is_values ∙ lanes_at (λ s. in_y q rows t (entry ys s)) s (omega (arith, (sizes q curve).high))

-- the rows of the grid that a message of order m can have
pub rows_fit : (q m c : ℕ) → 0 < q → m < q * c → m / q + 1 ≤ c
rows_fit q m c pos l = rw (add-one (m / q)) ((div-lt_iff_lt-mul {x = m} {y = c} pos).1 (rw (mul_comm q c) at l))

rows_enough : (q m : ℕ) → 0 < q → m < q * (m / q + 1)
rows_enough q m pos = omega (arith, ap (λ (x : ℕ). q * x) (add-one (m / q)), mul-suc q (m / q), div-add-mod m q, mod-lt m pos)

-- both stages: the polynomial of the grid at each point
pub columns_grid : (q : ℕ) (columns : List ℕ) → length columns ≤ 16 → (n : ℕ) (grid rows word : List ℕ) → Rowed q columns n grid rows q
    → Blocks q (column_value q columns rows) word (length columns) → Blocks q (grid_column q columns n grid) word (length columns)
columns_grid q columns few n grid rows word first second =
    record {
      at = λ t s a b. second.at t s a b
          ∙ value_cong (field_of q) q (λ j. get_or rows (16 * j + t) 0) (λ j. row_value q columns n grid j t) (column_y q columns t s)
          (λ j k. first.values.at j t k (omega arith));
    }

-- which is the word, where the grid is that of a message
pub stages : (q : ℕ) (columns : List ℕ) (m : ℕ) (message word : List ℕ) → Encodable q columns m message word → (size n : ℕ) (grid new : List ℕ)
    → q * length columns ≤ size → n ≡ m / q + 1 → grid ≡ scatter q size m message
    → length new ≡ length word → Blocks q (grid_column q columns n grid) new (length columns) → new ≡ word_of q columns m message
stages q columns m message word h size n grid new fits is_n is_grid long values =
    blocks_ext q pos (length columns) f new (word_of q columns m message) (long ∙ h.room)
    (word_length q m h.over.curve message columns h.over.small)
    (record { at = λ t s a b. values.at t s a b ∙ value_at_lem t (column_y q columns t s) a })
    (record { at = λ t s a b. word_at q m h.over.curve message columns h.over.small t s a b })
  where
    pos : 0 < q
    pos = omega (arith, (sizes q h.over.curve).low)

    f : ℕ → ℕ → ℕ
    f t s = value_at q m message (get_or columns t 0) (get_or (ys_of q (get_or columns t 0)) s 0)

    value_at_lem : (t y : ℕ) → t < length columns → value (field_of q) q (λ j. row_value q columns n grid j t) y ≡ value_at q m message (get_or columns t 0) y
    value_at_lem t y l =
        let x = get_or columns t 0 in
        ap (λ (g : List ℕ). value (field_of q) q (λ j. row_value q columns n g j t) y) is_grid
        ∙ sym (two_stages q pos n size m message x y
        (omega (arith, ap (λ (k : ℕ). q * k) is_n, rows_enough q m pos))
        (omega (arith, fits, mul-le-mul_left q (rows_fit q m (length columns) pos h.order), ap (λ (k : ℕ). q * k) is_n)))

-- sixteen columns of more
pub group_turn : (q : ℕ) (columns : List ℕ) (n : ℕ) (grid word last : List ℕ) (from to : ℕ) → from ≤ to → to ≤ length columns → q * to ≤ length word
    → Blocks q (grid_column q columns n grid) word from → length last ≡ q * to - q * from
    → Blocks q (grid_column q (part columns from to) n grid) last (length (part columns from to))
    → Blocks q (grid_column q columns n grid) (put_mid (q * from) (q * to - q * from) word last) to
group_turn q columns n grid word last from to le fits room before long group =
    blocks_group q (grid_column q columns n grid) word last from to le room before long
    (λ t s a b.
    let k : from + t < to = omega arith in
    group.at t s (omega (arith, length_part columns from to le fits)) b
    ∙ ap (λ (x : ℕ). value (field_of q) q (λ j. value (field_of q) n (λ i. get_or grid (q * i + j) 0) x) (get_or (ys_of q x) s 0)) (part_at columns from to t k))

-- the y of a column are symbols
pub ys_below : (q : ℕ) → IsCurve q → (x : ℕ) → x < q * q → Below (field_of q).size (ys_of q x)
ys_below q curve x l t = elim (dec_lt t q) [
  | yes k ↦ y_symbol q curve x t l k
  | no d ↦ rw (get_or-eq_default (ys_of q x) 0 {n = t} (omega (arith, length_ys q curve x l))) (zero_lt (field_of q))
]

-- a curve of short blocks
pub not_long_short : (q : ℕ) → IsCurve q → (q ≡ 8 → ⊥) → IsShort q
not_long_short q (inl e) d = inl e
not_long_short q (inr (inl e)) d = inr e
not_long_short q (inr (inr e)) d = absurd (d e)

pub short_narrow : (q c : ℕ) → IsCurve q → c ≤ q * q → (q ≡ 8 → ⊥) → (q ≤ 4) × (c ≤ 16)
short_narrow q c curve few d = let z = short_sizes q (not_long_short q curve d) in (z.high, omega (arith, z.symbols))

-- the grid of a message, as the stages ask for it
module _ (q : ℕ) (columns : List ℕ) (m : ℕ) (message word : List ℕ) (h : Encodable q columns m message word) where
  pub encodable_word : Encodable q columns m message (word_of q columns m message)
  encodable_word =
      record {
        over = h.over;
        few = h.few;
        order = h.order;
        long = h.long;
        symbols = h.symbols;
        room = word_length q m h.over.curve message columns h.over.small;
      }

  pub grid_below : (size : ℕ) (grid : List ℕ) → grid ≡ scatter q size m message → Below (field_of q).size grid
  grid_below size grid e = rw e (symbols_scatter q size message h.symbols (suc m))

  pub grid_rows : (n : ℕ) → n ≡ m / q + 1 → (n ≤ q * q) × (q * n ≤ q * length columns)
  grid_rows n is_n =
      let some = rows_fit q m (length columns) (omega (arith, (sizes q h.over.curve).low)) h.order in
      (omega (arith, h.few, is_n, some), omega (arith, ap (λ (k : ℕ). q * k) is_n, mul-le-mul_left q some))

  pub short_staged : IsShort q → (size : ℕ) (grid : List ℕ) → grid ≡ scatter q size m message → Staged q columns grid
  short_staged short size grid e =
      record {
        curve = h.over.curve;
        columns_below = columns_below q columns h.over;
        few = omega (arith, h.few, (short_sizes q short).symbols);
        symbols = grid_below size grid e;
      }

-- sixteen of all columns
pub group_staged : (q series : ℕ) → IsCurve q → (columns grid : List ℕ) (from to : ℕ) → columns ≡ columns_of q series → from ≤ to → to ≤ q * q → to ≤ from + 16
    → Below (field_of q).size grid → Staged q (part columns from to) grid
group_staged q series curve columns grid from to e le fits few small =
    record {
      curve = curve;
      columns_below = below_part (field_of q).size columns from to (rw e (columns_below q (columns_of q series) (full_columns q series curve)));
      few = omega (arith, length_part columns from to le (omega (arith, ap length e, length_columns q series curve, fits)));
      symbols = small;
    }
