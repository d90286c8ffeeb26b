-- EVERY WORD OF SYMBOLS HAS A GRID: the polynomials in y through each column's symbols, then in x through their coefficients. And the value of a
-- grid at a point is the sum over its entries.
-- Assumes nothing.
use mathlib.Core.List.{List}
use mathlib.Core.Path.{◌≡◌, sym, ap, ap₂, ◌∙◌}
use Prim.Native.Nat.{ℕ, ◌+◌, ◌*◌, ◌/◌, ◌%◌, ◌<◌}
use native.Mathlib.Omega.{arith}
use lib.ListN.{length, get_or}
use Rattle.field.specs.Field.{Field}
use Rattle.field.specs.Power.{power}
use Rattle.field.specs.Sum.{sum}
use Rattle.field.proofs.FieldLaws.{zero_lt}
use Rattle.field.proofs.Fields.{field_of}
use Rattle.field.proofs.Sums.{sum_cong, sum_blocks, sum_scale_right}
use Rattle.poly.specs.Inner.Linear.{entry, dot}
use Rattle.poly.specs.Inner.Polynomials.{value}
use Rattle.poly.specs.Inner.Interpolation.{interleaved, divided, Interpolated}
use Rattle.poly.proofs.Messages.{tabulate, get_or_tabulate, vector_tabulate, vector_below}
use Rattle.poly.proofs.Values.{value_cong, value_swap}
use Rattle.poly.proofs.Interleaving.{place_lt}
use Rattle.poly.proofs.LagrangeSums.{lagrange_at, coefficients, coefficients_lt, coefficients_value}
use Rattle.poly.proofs.Interpolants.{at_column, lagrange, lagrange_vector, lagrange_interpolated}
use Rattle.points.specs.Points.{ys_of}
use Rattle.points.specs.Inner.Columns.{column_y}
use Rattle.points.proofs.Places.{quotient, remainder}
use Rattle.points.proofs.ColumnPoints.{length_ys}
use Rattle.points.proofs.Points.{nodup_ys}
use Rattle.code.specs.Inner.Readable.{WordOver, GridOf}
use Rattle.code.proofs.Weights.{curve_pos}
use Rattle.code.proofs.Stages.{columns_below, ys_below}

-- the sum over the entries of a grid of c rows
pub entry_sum : (F : Field) (q : ℕ) → 0 < q → (c : ℕ) (grid : List ℕ) (x y : ℕ)
    → value F q (λ j. value F c (interleaved q grid j) x) y ≡ dot F (q * c) (λ e. F.times (power F x (e / q)) (power F y (e % q))) (entry grid)
unfolding value dot
entry_sum F q pos c grid x y =
    sym (value_swap F c q (λ i j. interleaved q grid j i) x y)
    ∙ sum_cong c (λ i. F.times (sum q (λ j. F.times (interleaved q grid j i) (power F y j))) (power F x i)) (λ i. sum q (λ j. term (q * i + j)))
    (λ i l. sym (sum_scale_right F q (power F x i) (λ j. F.times (interleaved q grid j i) (power F y j)))
    ∙ sum_cong q (λ j. F.times (F.times (interleaved q grid j i) (power F y j)) (power F x i)) (λ j. term (q * i + j)) (λ j k. turn i j k))
    ∙ sym (sum_blocks q c term)
  where
    term : ℕ → ℕ
    term e = F.times (F.times (power F x (e / q)) (power F y (e % q))) (get_or grid e 0)

    turn : (i j : ℕ) → j < q → F.times (F.times (interleaved q grid j i) (power F y j)) (power F x i) ≡ term (q * i + j)
    turn i j k =
        F.times_comm (F.times (interleaved q grid j i) (power F y j)) (power F x i)
        ∙ ap (F.times (power F x i)) (F.times_comm (interleaved q grid j i) (power F y j))
        ∙ sym (F.times_assoc (power F x i) (power F y j) (interleaved q grid j i))
        ∙ ap₂ (λ (a b : ℕ). F.times (F.times (power F x a) (power F y b)) (interleaved q grid j i)) (sym (quotient q pos i j k))
        (sym (remainder q pos i j k))

module _ (q : ℕ) (columns word : List ℕ) (w : WordOver q columns word) where
  -- the coefficients of column t's polynomial in y
  in_column : ℕ → ℕ → ℕ
  in_column t =
      coefficients (field_of q) (ys_of q (get_or columns t 0)) (divided (field_of q) (ys_of q (get_or columns t 0)) (λ s. get_or word (q * t + s) 0))

  pos : 0 < q
  pos = curve_pos q w.over.curve

  in_column_lem : (t s : ℕ) → t < length columns → s < q → value (field_of q) q (in_column t) (column_y q columns t s) ≡ get_or word (q * t + s) 0
  unfolding in_column
  in_column_lem t s l k =
      let x = get_or columns t 0 in
      let small = w.over.small t l in
      let long = length_ys q w.over.curve x small in
      let g : ℕ → ℕ = λ s. get_or word (q * t + s) 0 in
      ap (λ (n : ℕ). value (field_of q) n (in_column t) (get_or (ys_of q x) s 0)) (sym long)
      ∙ coefficients_value (field_of q) (ys_of q x) (divided (field_of q) (ys_of q x) g) (get_or (ys_of q x) s 0)
      ∙ lagrange_at (field_of q) (ys_of q x) g s (ys_below q w.over.curve x small) (nodup_ys q x) (omega arith) (w.symbols (q * t + s))

  rows : List ℕ
  rows = tabulate (q * length columns) (λ p. in_column (p / q) (p % q))

  rows_at : (t j : ℕ) → t < length columns → j < q → interleaved q rows j t ≡ in_column t j
  unfolding rows
  rows_at t j l k =
      get_or_tabulate (q * length columns) (λ p. in_column (p / q) (p % q)) (q * t + j) (place_lt q t j (length columns) k l)
      ∙ ap₂ in_column (quotient q pos t j k) (remainder q pos t j k)

  pub word_grid : List ℕ
  word_grid = lagrange (field_of q) q q columns rows

  rows_interpolated : Interpolated (field_of q) q q columns rows word_grid
  unfolding word_grid rows in_column
  rows_interpolated =
      lagrange_interpolated (field_of q) q q columns (columns_below q columns w.over) w.over.distinct rows
      (vector_below (field_of q).size (q * length columns) rows (zero_lt (field_of q))
      (vector_tabulate (field_of q).size (q * length columns) (λ p. in_column (p / q) (p % q))
      (λ p l. coefficients_lt (field_of q) (ys_of q (get_or columns (p / q) 0)) _ (p % q))))

  pub word_grid_lem : GridOf q columns word word_grid
  unfolding word_grid
  word_grid_lem =
      record {
        long = (lagrange_vector (field_of q) q q columns rows).len;
        symbols = rows_interpolated.below;
        is = λ t s a b.
            value_cong (field_of q) q (at_column (field_of q) q columns word_grid t) (in_column t) (column_y q columns t s)
            (λ j k. rows_interpolated.is j t k a ∙ rows_at t j a k)
            ∙ in_column_lem t s a b;
      }
