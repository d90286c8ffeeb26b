-- The equations of the method: f times the word is a word of order m + s exactly when, in the grid of that product, which is the sum over the terms
-- of f of their coefficient times the grid of term times word, no entry has a weight above m + s.
-- Assumes nothing.
use mathlib.Core.List.{List}
use mathlib.Core.Logic.{◌↔◌}
use mathlib.Core.Path.{◌≡◌, sym, ap, ◌∙◌}
use Prim.Native.Nat.{ℕ, ◌+◌, ◌*◌, ◌<◌}
use native.Mathlib.Omega.{arith}
use lib.ListN.{length, get_or}
use Rattle.field.specs.Field.{Field}
use Rattle.field.proofs.FieldLaws.{zero_lt}
use Rattle.field.proofs.Fields.{field_of}
use Rattle.field.proofs.Curves.{sizes, short_curve}
use Rattle.field.proofs.Sums.{sum_cong}
use Rattle.poly.specs.Inner.Linear.{entry, dot}
use Rattle.poly.specs.Messages.{Vector}
use Rattle.poly.specs.Inner.Polynomials.{value}
use Rattle.poly.specs.Inner.Interpolation.{interleaved}
use Rattle.poly.proofs.Linear.{dot_cong, dot_lt, dot_scale_row}
use Rattle.poly.proofs.Messages.{tabulate, get_or_tabulate, vector_tabulate, vector_below}
use Rattle.poly.proofs.Values.{value_cong, value_sum, value_scale}
use Rattle.poly.proofs.Interpolants.{at_column}
use Rattle.poly.proofs.Interleaving.{place_lt}
use Rattle.points.specs.Points.{ys_of}
use Rattle.points.specs.Series.{columns_of}
use Rattle.points.proofs.Series.{full_columns, length_columns, full_places}
use Rattle.code.specs.Inner.Grid.{gather}
use Rattle.code.specs.Inner.Readable.{WordOver, grid_value, GridOf}
use Rattle.code.specs.Inner.Rows.{row_of}
use Rattle.code.specs.Terms.{size}
use Rattle.code.specs.Word.{word_of}
use Rattle.code.proofs.Order.{within_of, of_within}
use Rattle.code.proofs.Readings.{Fitting}
use Rattle.code.proofs.Rows.{word_dot}
use Rattle.code.proofs.WordGrids.{has_word, only_within}
use Rattle.mend.specs.Inner.Locating.{symbol_at, reach, Mendable, Product, Locator, TermProducts, NoHeavy}

-- the value of a combination is the combination of the values
module _ (F : Field) where
  value_dot : (n k : ℕ) (g : ℕ → ℕ → ℕ) (v : ℕ → ℕ) (x : ℕ) → value F n (λ e. dot F k (λ i. g i e) v) x ≡ dot F k (λ i. value F n (g i) x) v
  unfolding dot
  value_dot n k g v x =
      value_sum F n k (λ i e. F.times (g i e) (v i)) x
      ∙ sum_cong k (λ i. value F n (λ e. F.times (g i e) (v i)) x) (λ i. F.times (value F n (g i) x) (v i))
      (λ i l.
      value_cong F n (λ e. F.times (g i e) (v i)) (λ e. F.times (v i) (g i e)) x (λ e b. F.times_comm (g i e) (v i))
      ∙ value_scale F n (v i) (g i) x ∙ F.times_comm (v i) (value F n (g i) x))

module _ (q series m : ℕ) (word : List ℕ) (ok : Mendable q series m word) (s : ℕ) (below : m + s < q * q * q)
    (products grids : ℕ → List ℕ) (made : TermProducts q series s word products)
    (laid : (i : ℕ) → i < size q s → GridOf q (columns_of q series) (products i) (grids i)) (f : List ℕ) where
  abbrev F : Field
  F = field_of q

  abbrev columns : List ℕ
  columns = columns_of q series

  abbrev full : q * length columns ≡ q * q * q
  full = full_places q series (short_curve q ok.curve)

  -- f times the word, and its grid
  times_word : List ℕ
  times_word = tabulate (q * q * q) (λ p. F.times (symbol_at q series s f p) (get_or word p 0))

  entry_at : ℕ → ℕ
  entry_at e = dot F (size q s) (λ i. get_or (grids i) e 0) (entry f)

  grid_of : List ℕ
  grid_of = tabulate (q * length columns) entry_at

  times_at : (p : ℕ) → p < q * q * q → get_or times_word p 0 ≡ F.times (symbol_at q series s f p) (get_or word p 0)
  unfolding times_word
  times_at = get_or_tabulate (q * q * q) (λ p. F.times (symbol_at q series s f p) (get_or word p 0))

  vector_times : Vector F.size (q * q * q) times_word
  unfolding times_word
  vector_times = vector_tabulate F.size (q * q * q) (λ p. F.times (symbol_at q series s f p) (get_or word p 0)) (λ p l. F.times_lt _ _)

  vector_grid : Vector F.size (q * length columns) grid_of
  unfolding grid_of entry_at
  vector_grid = vector_tabulate F.size (q * length columns) entry_at (λ e l. dot_lt F (size q s) (λ i. get_or (grids i) e 0) (entry f))

  grid_at : (e : ℕ) → e < q * length columns → get_or grid_of e 0 ≡ entry_at e
  unfolding grid_of
  grid_at = get_or_tabulate (q * length columns) entry_at

  over : WordOver q columns times_word
  over =
      record {
        over = full_columns q series (short_curve q ok.curve);
        few = omega (arith, length_columns q series (short_curve q ok.curve));
        long = vector_times.len ∙ sym full;
        symbols = vector_below F.size (q * q * q) times_word (zero_lt F) vector_times;
      }

  combined : (t y : ℕ) → t < length columns → y < q
      → grid_value q columns grid_of t y ≡ dot F (size q s) (λ i. grid_value q columns (grids i) t y) (entry f)
  unfolding entry_at
  combined t y tl yl =
      value_cong F q (at_column F q columns grid_of t) (λ j. dot F (size q s)
      (λ i. at_column F q columns (grids i) t j) (entry f)) (get_or (ys_of q (get_or columns t 0)) y 0)
      (λ j jl.
      value_cong F (length columns) (interleaved q grid_of j) (λ c. dot F (size q s) (λ i. interleaved q (grids i) j c) (entry f)) (get_or columns t 0)
      (λ c cl. grid_at (q * c + j) (place_lt q c j (length columns) jl cl))
      ∙ value_dot F (length columns) (size q s) (λ i. interleaved q (grids i) j) (entry f) (get_or columns t 0))
      ∙ value_dot F q (size q s) (λ i. at_column F q columns (grids i) t) (entry f) (get_or (ys_of q (get_or columns t 0)) y 0)

  scaled : (p : ℕ) → p < q * q * q
      → dot F (size q s) (λ i. F.times (row_of q columns s p i) (get_or word p 0)) (entry f) ≡ F.times (symbol_at q series s f p) (get_or word p 0)
  scaled p l =
      dot_cong F (size q s) (λ i. F.times (row_of q columns s p i) (get_or word p 0)) (λ i. F.times (get_or word p 0) (row_of q columns s p i)) (entry f)
      (λ i k. F.times_comm _ _)
      ∙ dot_scale_row F (size q s) (get_or word p 0) (row_of q columns s p) (entry f)
      ∙ F.times_comm _ _
      ∙ ap (λ (x : ℕ). F.times x (get_or word p 0))
      (sym (word_dot q columns (full_columns q series (short_curve q ok.curve)) s f p (omega (arith, full))))

  laid_out : GridOf q columns times_word grid_of
  laid_out =
      record {
        long = vector_grid.len;
        symbols = vector_below F.size (q * length columns) grid_of (zero_lt F) vector_grid;
        is = λ t y tl yl.
            let here : q * t + y < q * q * q = omega (arith, place_lt q t y (length columns) yl tl, full) in
            combined t y tl yl
            ∙ dot_cong F (size q s) (λ i. grid_value q columns (grids i) t y)
            (λ i. F.times (row_of q columns s (q * t + y) i) (get_or word (q * t + y) 0)) (entry f)
            (λ i k. (laid i k).is t y tl yl ∙ made.at i (q * t + y) k here)
            ∙ scaled (q * t + y) here ∙ sym (times_at (q * t + y) here);
      }

  order : m + s < q * length columns
  order = omega (arith, full)

  whole : (p : ℕ) → get_or times_word p 0 ≡ 255 → ⊥
  whole p e = omega (arith, over.symbols p, (sizes q (short_curve q ok.curve)).size, (sizes q (short_curve q ok.curve)).symbols)

  -- the product is that of a message exactly when the message has its word
  of_fitting : (h : List ℕ) → Fitting (q * q) (size q (m + s)) (word_of q columns (m + s)) times_word h → Product q series m s word f h
  of_fitting h k =
      record {
        vector = k.vector;
        is = λ p l. k.fits.at p (omega (arith, vector_times.len)) (whole p) ∙ times_at p l;
      }

  to_fitting : (h : List ℕ) → Product q series m s word f h → Fitting (q * q) (size q (m + s)) (word_of q columns (m + s)) times_word h
  to_fitting h k =
      record {
        vector = k.vector;
        fits = record { at = λ p l n. let b : p < q * q * q = omega (arith, vector_times.len) in k.is p b ∙ sym (times_at p b) };
      }

  -- THE EQUATIONS
  pub product_exactly : NoHeavy q m s grids (q * q * q) (entry f) ↔ ((h : List ℕ) × Product q series m s word f h)
  unfolding entry_at
  product_exactly = (
    λ zeros. (
      gather q (m + s) grid_of,
      of_fitting (gather q (m + s) grid_of)
          (has_word q columns times_word over (m + s) order grid_of laid_out
          (within_of q (m + s) grid_of (length grid_of) (λ e l w.
          let b : e < q * length columns = omega (arith, vector_grid.len) in grid_at e b ∙ zeros e (omega (arith, full)) w))),
    ),
    λ k e l w.
        let b : e < q * length columns = omega (arith, full) in
        sym (grid_at e b)
        ∙ of_within q (m + s) grid_of (length grid_of) (only_within q columns times_word over (m + s) order grid_of laid_out k.0
        (to_fitting k.0 k.1))
        e (omega (arith, vector_grid.len)) w,
  )

-- ---- the method's order s = t + g

module _ (q series m : ℕ) (word : List ℕ) (ok : Mendable q series m word) (products grids : ℕ → List ℕ)
    (made : TermProducts q series (reach q m) word products)
    (laid : (i : ℕ) → i < size q (reach q m) → GridOf q (columns_of q series) (products i) (grids i)) where
  low : m + reach q m < q * q * q
  low = omega arith

  -- a message other than 0 locates exactly when it meets the equations
  pub locator_of : (f : List ℕ) → Vector (q * q) (size q (reach q m)) f → (i : ℕ) → (get_or f i 0 ≡ 0 → ⊥)
      → NoHeavy q m (reach q m) grids (q * q * q) (entry f) → Locator q series m word f
  locator_of f h i d zeros =
      let (g, is) = (product_exactly q series m word ok (reach q m) low products grids made laid f).0 zeros in
      record { vector = h; place = i; some = d; product = g; is = is }

  pub of_locator : (f : List ℕ) → Locator q series m word f → NoHeavy q m (reach q m) grids (q * q * q) (entry f)
  of_locator f loc = (product_exactly q series m word ok (reach q m) low products grids made laid f).1 (loc.product, loc.is)
