-- The word with 0 at its gaps, the entries of a weight above m, and the loop that writes a row for each gap.
-- Assumes nothing.
use mathlib.Core.Bool.{Bool, true}
use mathlib.Core.List.{List, [], ◌∷◌, ◌++◌}
use mathlib.Core.Path.{◌≡◌, refl, sym, ap, ap₂, ◌∙◌, subst}
use Prim.Native.Nat.{ℕ, suc, ◌+◌, ◌-◌, ◌*◌, ◌/◌, ◌%◌, ◌≤◌, ◌<◌}
use native.Mathlib.Nat.{mul-suc, mul-zero}
use native.Mathlib.Numerals.{add-one}
use native.Mathlib.Decide.{ℕ_discrete, dec_lt}
use native.Mathlib.Omega.{arith}
use borrow.Author.Tests.{lt-ltb, le-ltb, eq-eqb, ne_eqb}
use borrow.Rule.Slice.PartMut.{put_mid}
use lib.Dec.{eqb}
use lib.ListN.{length, get_or, get_or-append, get_or-eq_default}
use lib.Seq.{get_or-append_seam}
use Rattle.field.specs.Curve.{IsCurve}
use Rattle.field.proofs.Fields.{field_of}
use Rattle.field.proofs.FieldLaws.{zero_lt}
use Rattle.field.proofs.Curves.{sizes}
use Rattle.poly.specs.Lists.{one_if}
use Rattle.poly.specs.Inner.Ranges.{Below, Blocks, part, put}
use Rattle.poly.specs.Inner.Linear.{entry}
use Rattle.poly.proofs.Blocks.{block_fits}
use Rattle.poly.proofs.Parts.{length_part, part_at, put_is, length_put, put_low, put_in, put_high, below_back}
use Rattle.points.specs.Passing.{passing}
use Rattle.points.specs.Inner.Columns.{column_y}
use Rattle.points.proofs.Passing.{passing_true, passing_false, place_true, place_bound}
use Rattle.recovery.specs.Inner.Gaps.{point_term, gaps_of, known, heavy, IndicatorRows}
use Rattle.recovery.specs.Inner.Indicators.{blocks_of}

-- ---- the word with 0 at its gaps

pub known_gap : (word : List ℕ) (p : ℕ) → entry word p ≡ 255 → 0 ≡ known word p
known_gap word p e = rw (eq-eqb (entry word p) 255 e) refl

pub known_symbol : (word : List ℕ) (p : ℕ) → (entry word p ≡ 255 → ⊥) → entry word p ≡ known word p
known_symbol word p d = rw (ne_eqb (entry word p) 255 d) refl

-- ---- the entries of a weight above m, r being the remainder of an entry

pub heavy_one : (q m e r : ℕ) → r ≡ e % q → m < e + q * r → 255 ≡ 255 * one_if (heavy q m e)
heavy_one q m e r is l = rw (lt-ltb m (e + q * (e % q)) (rw is at l)) refl

pub heavy_none : (q m e r : ℕ) → r ≡ e % q → e + q * r ≤ m → 0 ≡ 255 * one_if (heavy q m e)
heavy_none q m e r is l = rw (le-ltb m (e + q * (e % q)) (rw is at l)) refl

-- ---- a row for each gap

-- the rows of the gaps below p are written, count of them, and the rest is 0
pub record RowsBelow (q : ℕ) (columns word : List ℕ) (stride : ℕ) (vectors₀ vectors : List ℕ) (count at p : ℕ) : Type 0 where
  pub within : p ≤ length word
  pub long : length vectors ≡ length vectors₀
  pub counted : count ≡ length (passing (λ p. eqb (entry word p) 255) p)
  pub is_at : at ≡ stride * count
  pub rows : IndicatorRows q columns (passing (λ p. eqb (entry word p) 255) p) stride vectors
  pub rest : (i : ℕ) → at ≤ i → entry vectors i ≡ 0

module _ (q : ℕ) (columns word : List ℕ) (stride : ℕ) (vectors₀ : List ℕ) where
  abbrev gap : ℕ → Bool
  gap p = eqb (entry word p) 255

  pub rows_none : ((i : ℕ) → entry vectors₀ i ≡ 0) → RowsBelow q columns word stride vectors₀ vectors₀ 0 0 0
  unfolding passing
  rows_none zeros =
      record {
        within = omega arith;
        long = refl;
        counted = refl;
        is_at = sym (mul-zero stride);
        rows = record {
          symbols = λ i. rw (zeros i) (zero_lt (field_of q));
          at = λ p i j l. absurd (omega arith);
          zeros = λ p i l. absurd (omega arith);
        };
        rest = λ i l. zeros i;
      }

  module _ (vectors : List ℕ) (count at p : ℕ) (h : RowsBelow q columns word stride vectors₀ vectors count at p) (l : p < length word)
      (room : stride * length word ≤ length vectors₀) where
    -- no gap
    pub rows_same : (entry word p ≡ 255 → ⊥) → RowsBelow q columns word stride vectors₀ vectors count at (p + 1)
    rows_same d =
        let e : passing gap p ≡ passing gap (p + 1) =
        sym (ap (passing gap) (add-one p) ∙ passing_false gap p (ne_eqb (entry word p) 255 d)) in
        record {
          within = omega arith;
          long = h.long;
          counted = h.counted ∙ ap length e;
          is_at = h.is_at;
          rows = subst (λ (gaps : List ℕ). IndicatorRows q columns gaps stride vectors) e h.rows;
          rest = h.rest;
        }

    -- the next row is within the list, and zeros
    pub row_within : (at + stride ≤ length vectors) × (length (part vectors at (at + stride)) ≡ stride)
        × ((i : ℕ) → entry (part vectors at (at + stride)) i ≡ 0) × (count < length word)
    row_within =
        let few : count < length word = omega (arith, h.counted, place_bound gap p) in
        let fits : at + stride ≤ length vectors = omega (arith, h.is_at, h.long, block_fits stride count (length word) few) in
        let long : length (part vectors at (at + stride)) ≡ stride = length_part vectors at (at + stride) (omega arith) fits ∙ omega arith in
        let zero : (i : ℕ) → entry (part vectors at (at + stride)) i ≡ 0 = λ i. elim (dec_lt i stride) [
          | yes b ↦ part_at vectors at (at + stride) i (omega arith) ∙ h.rest (at + i) (omega arith)
          | no d ↦ get_or-eq_default (part vectors at (at + stride)) 0 {n = i} (omega (arith, long))
        ] in
        (fits, long, zero, few)

    -- a gap: its row is written
    pub rows_more : IsCurve q → length columns ≡ q * q → 16 * blocks_of q ≤ stride → entry word p ≡ 255 → (x y : ℕ)
        → x ≡ get_or columns (p / q) 0 → y ≡ column_y q columns (p / q) (p % q) → (row : List ℕ) → length row ≡ stride
        → Blocks q (point_term q x y) row (q * q) → Below (field_of q).size row → ((i : ℕ) → q * q * q ≤ i → entry row i ≡ 0)
        → RowsBelow q columns word stride vectors₀ (put_mid at (at + stride - at) vectors row) (count + 1) (at + stride) (p + 1)
    rows_more curve full wide e x y is_x is_y row long blocks small zeros =
        record {
          within = omega arith;
          long = ap length back ∙ length_put vectors at (at + stride) row (omega arith) fits row_long ∙ h.long;
          counted = add-one count ∙ ap suc h.counted ∙ sym (place_true gap p t) ∙ ap (λ (n : ℕ). length (passing gap n)) (sym (add-one p));
          is_at = omega (arith, h.is_at, ap (λ (n : ℕ). stride * n) (add-one count), mul-suc stride count);
          rows = subst (λ (gaps : List ℕ). IndicatorRows q columns gaps stride new) next
              record {
                symbols = below_back (field_of q).size vectors row at (at + stride) (omega arith) fits row_long h.rows.symbols small;
                at = λ r i j a b k. ap (λ (v : List ℕ). entry v (stride * r + (q * i + j))) back ∙ go r i j a b k (ℕ_discrete r count);
                zeros = λ r i a b k. ap (λ (v : List ℕ). entry v (stride * r + i)) back ∙ past r i a b k (ℕ_discrete r count);
              };
          rest = λ i b.
              ap (λ (v : List ℕ). entry v i) back ∙ put_high vectors at (at + stride) row (omega arith) fits row_long i b
              ∙ h.rest i (omega arith);
        }
      where
        t : gap p ≡ true
        t = eq-eqb (entry word p) 255 e

        fits : at + stride ≤ length vectors
        fits = row_within.0

        row_long : length row ≡ at + stride - at
        row_long = long ∙ omega arith

        new : List ℕ
        new = put_mid at (at + stride - at) vectors row

        back : new ≡ put vectors at (at + stride) row
        back = put_is vectors at (at + stride) row (omega arith)

        next : passing gap p ++ (p ∷ []) ≡ passing gap (p + 1)
        next = sym (ap (passing gap) (add-one p) ∙ passing_true gap p t)

        counted_next : length (passing gap p ++ (p ∷ [])) ≡ suc count
        counted_next = ap length (sym (passing_true gap p t)) ∙ place_true gap p t ∙ ap suc (sym h.counted)

        -- the gap of row r
        earlier : (r : ℕ) → r < count → entry (passing gap p ++ (p ∷ [])) r ≡ entry (passing gap p) r
        earlier r b = get_or-append (passing gap p) (p ∷ []) 0 r (omega (arith, h.counted))

        latest : (r : ℕ) → r ≡ count → entry (passing gap p ++ (p ∷ [])) r ≡ p
        latest r b = rw (b, h.counted) (get_or-append_seam (passing gap p) p [] 0)

        before : (r i : ℕ) → r < count → i < stride → stride * r + i < at
        before r i b k = omega (arith, h.is_at, block_fits stride r count b)

        entry_fits : (i j : ℕ) → i < length columns → j < q → q * i + j < stride
        entry_fits i j a b = omega (arith, block_fits q i (length columns) a, ap (λ (n : ℕ). q * n) full, (sizes q curve).grid)

        go : (r i j : ℕ) → r < length (passing gap p ++ (p ∷ [])) → i < length columns → j < q → Dec (r ≡ count)
            → entry (put vectors at (at + stride) row) (stride * r + (q * i + j))
            ≡ point_term q (get_or columns (entry (passing gap p ++ (p ∷ [])) r / q) 0)
            (column_y q columns (entry (passing gap p ++ (p ∷ [])) r / q) (entry (passing gap p ++ (p ∷ [])) r % q)) i j
        go r i j a b k (yes d) =
            let place : stride * r + (q * i + j) ≡ at + (q * i + j) = omega (arith, h.is_at, ap (λ (n : ℕ). stride * n) d) in
            ap (λ (n : ℕ). entry (put vectors at (at + stride) row) n) place
            ∙ put_in vectors at (at + stride) row (omega arith) fits row_long (q * i + j) (omega (arith, entry_fits i j b k))
            ∙ blocks.at i j (omega arith) k
            ∙ ap₂ (λ (u v : ℕ). point_term q u v i j) is_x is_y
            ∙ ap (λ (g : ℕ). point_term q (get_or columns (g / q) 0) (column_y q columns (g / q) (g % q)) i j) (sym (latest r d))
        go r i j a b k (no d) =
            let lt : r < count = omega (arith, counted_next) in
            put_low vectors at (at + stride) row (omega arith) fits row_long (stride * r + (q * i + j)) (before r (q * i + j) lt (entry_fits i j b k))
            ∙ h.rows.at r i j (omega (arith, h.counted)) b k
            ∙ ap (λ (g : ℕ). point_term q (get_or columns (g / q) 0) (column_y q columns (g / q) (g % q)) i j) (sym (earlier r lt))

        past : (r i : ℕ) → r < length (passing gap p ++ (p ∷ [])) → q * length columns ≤ i → i < stride → Dec (r ≡ count)
            → entry (put vectors at (at + stride) row) (stride * r + i) ≡ 0
        past r i a b k (yes d) =
            let place : stride * r + i ≡ at + i = omega (arith, h.is_at, ap (λ (n : ℕ). stride * n) d) in
            ap (λ (n : ℕ). entry (put vectors at (at + stride) row) n) place
            ∙ put_in vectors at (at + stride) row (omega arith) fits row_long i (omega arith)
            ∙ zeros i (omega (arith, ap (λ (n : ℕ). q * n) full, (sizes q curve).grid))
        past r i a b k (no d) =
            let lt : r < count = omega (arith, counted_next) in
            put_low vectors at (at + stride) row (omega arith) fits row_long (stride * r + i) (before r i lt k)
            ∙ h.rows.zeros r i (omega (arith, h.counted)) b k

  -- at the end
  pub rows_all : (vectors : List ℕ) (count at p : ℕ) → RowsBelow q columns word stride vectors₀ vectors count at p → length word ≤ p
      → (count ≡ length (gaps_of word)) × IndicatorRows q columns (gaps_of word) stride vectors
  rows_all vectors count at p h l =
      let e : p ≡ length word = omega (arith, h.within) in (
        h.counted ∙ ap (λ (n : ℕ). length (passing gap n)) e,
        subst (λ (n : ℕ). IndicatorRows q columns (passing gap n) stride vectors) e h.rows,
      )
