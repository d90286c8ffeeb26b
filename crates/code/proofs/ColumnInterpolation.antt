-- The first stage of unencoding, column by column: the y of a column are roots of y^q + y + a, for one a; what a turn leaves.
-- Assumes nothing.
use mathlib.Core.List.{List}
use mathlib.Core.Path.{◌≡◌, sym, ap, ◌∙◌, subst}
use Prim.Native.Nat.{ℕ, suc, ◌+◌, ◌-◌, ◌*◌, ◌≤◌, ◌<◌}
use native.Mathlib.Decide.{dec_lt, ℕ_discrete}
use native.Mathlib.Omega.{arith}
use borrow.Author.Tests.{eqb-true}
use borrow.Rule.Slice.PartMut.{put_mid}
use lib.ListN.{length, get_or}
use Rattle.field.specs.Plus.{plus}
use Rattle.field.specs.Power.{power}
use Rattle.field.proofs.Fields.{field_of}
use Rattle.field.proofs.FieldLaws.{zero_lt}
use Rattle.field.proofs.Curves.{sizes, curve_even}
use Rattle.poly.specs.Inner.Polynomials.{value}
use Rattle.poly.specs.Inner.Ranges.{Below, part, put}
use Rattle.poly.specs.Inner.Lanes.{lanes}
use Rattle.poly.specs.Inner.RootInterpolation.{Summable, TrinomialRoots, RootInterpolated}
use Rattle.poly.proofs.Lists.{mem_get_or, nodup_get_or}
use Rattle.poly.proofs.Values.{value_cong}
use Rattle.poly.proofs.Parts.{part_at, length_part, below_part, put_is, put_low, put_in, put_high, below_back}
use Rattle.poly.proofs.Blocks.{block_fits}
use Rattle.points.specs.Points.{ys_of}
use Rattle.points.specs.Inner.Columns.{PaddedYs, column_y}
use Rattle.points.proofs.ColumnPoints.{length_ys}
use Rattle.points.proofs.Points.{of_mem_ys, nodup_ys}
use Rattle.points.proofs.YsTables.{taken_below, taken_at}
use Rattle.code.specs.Inner.Readable.{WordOver, InterpolatedInY}

-- the first t columns are interpolated
pub record InterpolatedSoFar (q : ℕ) (columns word work : List ℕ) (t : ℕ) : Type 0 where
  pub symbols : Below (field_of q).size work
  pub is : (i s : ℕ) → i < t → s < q → value (field_of q) q (λ j. get_or work (16 * i + j) 0) (column_y q columns i s) ≡ get_or word (q * i + s) 0
  pub zeros : (i j : ℕ) → q ≤ j → j < 16 → get_or work (16 * i + j) 0 ≡ 0

module _ (q : ℕ) (columns word : List ℕ) (w : WordOver q columns word) where
  pub so_far_none : (work : List ℕ) → ((i : ℕ) → get_or work i 0 ≡ 0) → InterpolatedSoFar q columns word work 0
  so_far_none work h =
      record {
        symbols = λ i. rw (h i) (zero_lt (field_of q));
        is = λ i s a b. absurd (omega arith);
        zeros = λ i j a b. h (16 * i + j);
      }

  pub so_far_all : (work : List ℕ) (t : ℕ) → length columns ≤ t → InterpolatedSoFar q columns word work t → InterpolatedInY q columns word work
  so_far_all work t l h = record { symbols = h.symbols; is = λ i s a b. h.is i s (omega arith) b; zeros = λ i j a b c. h.zeros i j b c }

  -- sixteen numbers from the first y of column t on
  module _ (all : List ℕ) (p : PaddedYs q all) (t : ℕ) (l : t < length columns) where
    pub lanes_fit : q * get_or columns t 0 + 16 ≤ length all
    lanes_fit =
        let c = sizes q w.over.curve in
        omega (arith, c.grid, p.long, block_fits q (get_or columns t 0) (q * q) (w.over.small t l))

    module _ (ys : List ℕ) (is_ys : ys ≡ lanes (λ s. get_or all (q * get_or columns t 0 + s) 0)) where
      y_at_lem : (s : ℕ) → s < q → get_or ys s 0 ≡ column_y q columns t s
      y_at_lem = taken_at q (get_or columns t 0) all ys p is_ys w.over.curve (w.over.small t l)

      root : (s : ℕ) → s < q → plus (power (field_of q) (get_or ys s 0) q) (get_or ys s 0) ≡ power (field_of q) (get_or columns t 0) (suc q)
      root s b =
          ap (λ (z : ℕ). plus (power (field_of q) z q) z) (y_at_lem s b)
          ∙ eqb-true _ _ (of_mem_ys q (get_or columns t 0) (column_y q columns t s)
          (mem_get_or (ys_of q (get_or columns t 0)) 0 s (omega (arith, length_ys q w.over.curve (get_or columns t 0) (w.over.small t l))))).1

      y_roots : TrinomialRoots (field_of q) q ys
      y_roots =
          let long = length_ys q w.over.curve (get_or columns t 0) (w.over.small t l) in
          record {
            different = λ s u a b e.
                nodup_get_or (ys_of q (get_or columns t 0)) 0 (nodup_ys q (get_or columns t 0)) s u (omega arith) (omega arith)
                (sym (y_at_lem s a) ∙ e ∙ y_at_lem u b);
            roots = λ s u a b. root s a ∙ sym (root u b);
          }

      module _ (work : List ℕ) (at row : ℕ) (is_at : at ≡ q * t) (is_row : row ≡ 16 * t)
          (room : 16 * length columns ≤ length work) (h : InterpolatedSoFar q columns word work t) where
        word_fits : at + q ≤ length word
        word_fits = omega (arith, w.long, block_fits q t (length columns) l)

        row_fits : row + 16 ≤ length work
        row_fits = omega (arith, block_fits 16 t (length columns) l)

        long : length (part word at (at + q)) ≡ q
        long = length_part word at (at + q) (omega arith) word_fits ∙ omega arith

        row_long : length (part work row (row + 16)) ≡ 16
        row_long = length_part work row (row + 16) (omega arith) row_fits ∙ omega arith

        pub column_given : Summable (field_of q) ys (part word at (at + q)) (part work row (row + 16))
            × TrinomialRoots (field_of q) (length (part word at (at + q))) ys
        column_given = (
          record {
            even = rw long (curve_even q w.over.curve);
            room = omega (arith, long, row_long, (sizes q w.over.curve).high);
            places_below = taken_below q (get_or columns t 0) all ys p is_ys;
            values_below = below_part (field_of q).size word at (at + q) w.symbols;
          },
          rw long y_roots,
        )

        module _ (last : List ℕ) (last_long : length last ≡ length (part work row (row + 16)))
            (e : RootInterpolated (field_of q) ys (part word at (at + q)) (part work row (row + 16)) last) where
          taken : (s : ℕ) → s < q → value (field_of q) q (λ j. get_or last j 0) (column_y q columns t s) ≡ get_or word (q * t + s) 0
          taken s b =
              let m : at + s ≡ q * t + s = omega arith in
              ap (λ (n : ℕ). value (field_of q) n (λ j. get_or last j 0) (column_y q columns t s)) (sym long)
              ∙ ap (value (field_of q) (length (part word at (at + q))) (λ j. get_or last j 0)) (sym (y_at_lem s b))
              ∙ e.is s (omega (arith, long)) ∙ part_at word at (at + q) s (omega arith) ∙ ap (λ (n : ℕ). get_or word n 0) m

          low : (i j : ℕ) → i < t → j < 16 → get_or (put work row (row + 16) last) (16 * i + j) 0 ≡ get_or work (16 * i + j) 0
          low i j a b =
              put_low work row (row + 16) last (omega arith) row_fits (omega (arith, row_long)) (16 * i + j) (omega (arith, block_fits 16 i t a))

          inside : (i j : ℕ) → i ≡ t → j < 16 → get_or (put work row (row + 16) last) (16 * i + j) 0 ≡ get_or last j 0
          inside i j d b =
              let m : 16 * i + j ≡ row + j = omega (arith, ap (λ (n : ℕ). 16 * n) d) in
              ap (λ (n : ℕ). get_or (put work row (row + 16) last) n 0) m
              ∙ put_in work row (row + 16) last (omega arith) row_fits (omega (arith, row_long)) j (omega arith)

          turn : InterpolatedSoFar q columns word (put work row (row + 16) last) (t + 1)
          turn =
              record {
                symbols = λ k. rw (← put_is work row (row + 16) last (omega arith))
                    (below_back (field_of q).size work last row (row + 16) (omega arith) row_fits (omega (arith, row_long)) h.symbols
                    (e.below (below_part (field_of q).size work row (row + 16) h.symbols)) k);
                is = λ i s a b. is_now i s a b (ℕ_discrete i t);
                zeros = λ i j a b. zeros_now i j a b (ℕ_discrete i t) (dec_lt i t);
              }
            where
              is_now : (i s : ℕ) → i < t + 1 → s < q → Dec (i ≡ t)
                  → value (field_of q) q (λ j. get_or (put work row (row + 16) last) (16 * i + j) 0) (column_y q columns i s) ≡ get_or word (q * i + s) 0
              is_now i s a b (yes d) =
                  value_cong (field_of q) q (λ j. get_or (put work row (row + 16) last) (16 * i + j) 0) (λ j. get_or last j 0) (column_y q columns i s)
                  (λ j k. inside i j d (omega (arith, (sizes q w.over.curve).high)))
                  ∙ subst (λ (n : ℕ). value (field_of q) q (λ j. get_or last j 0) (column_y q columns n s) ≡ get_or word (q * n + s) 0) (sym d) (taken s b)
              is_now i s a b (no d) =
                  value_cong (field_of q) q (λ j. get_or (put work row (row + 16) last) (16 * i + j) 0) (λ j. get_or work (16 * i + j) 0)
                  (column_y q columns i s)
                  (λ j k. low i j (omega arith) (omega (arith, (sizes q w.over.curve).high)))
                  ∙ h.is i s (omega arith) b

              zeros_now : (i j : ℕ) → q ≤ j → j < 16 → Dec (i ≡ t) → Dec (i < t) → get_or (put work row (row + 16) last) (16 * i + j) 0 ≡ 0
              zeros_now i j a b (yes d) f =
                  let m : row + j ≡ 16 * i + j = omega (arith, ap (λ (n : ℕ). 16 * n) d) in
                  inside i j d b ∙ e.rest j (omega (arith, long)) ∙ part_at work row (row + 16) j (omega arith)
                  ∙ ap (λ (n : ℕ). get_or work n 0) m ∙ h.zeros i j a b
              zeros_now i j a b (no d) (yes f) = low i j f b ∙ h.zeros i j a b
              zeros_now i j a b (no d) (no f) =
                  put_high work row (row + 16) last (omega arith) row_fits (omega (arith, row_long)) (16 * i + j)
                  (omega (arith, block_fits 16 t i (omega arith))) ∙ h.zeros i j a b

          pub so_far_turn : InterpolatedSoFar q columns word (put_mid row (row + 16 - row) work last) (t + 1)
          so_far_turn = rw (put_is work row (row + 16) last (omega arith)) turn
