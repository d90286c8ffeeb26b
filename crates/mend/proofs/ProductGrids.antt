-- The grids of products: x times the polynomial of a grid, y times it, and so the products of a word with all terms.
-- Assumes nothing.
use mathlib.Core.Bool.{Bool, true, false, cond}
use mathlib.Core.List.{List}
use mathlib.Core.Path.{◌≡◌, refl, sym, ap, ap₂, ◌∙◌}
use Prim.Native.Nat.{ℕ, suc, ◌+◌, ◌-◌, ◌*◌, ◌/◌, ◌%◌, ◌≤◌, ◌<◌}
use native.Mathlib.Nat.{mul-suc, mul-zero}
use native.Mathlib.Omega.{arith}
use borrow.Author.Tests.{eq-eqb, ne_eqb, lt-ltb, le-ltb, eqb-true}
use lib.Dec.{eqb, ltb}
use lib.ListN.{length, get_or, replicate, length-replicate}
use Rattle.field.specs.Curve.{IsCurve}
use Rattle.field.specs.Field.{Field}
use Rattle.field.specs.Plus.{plus}
use Rattle.field.specs.Power.{power}
use Rattle.field.proofs.Plus.{plus_comm, plus_solve}
use Rattle.field.proofs.Curves.{each_curve, sizes}
use Rattle.field.proofs.Fields.{field_of}
use Rattle.field.proofs.FieldLaws.{zero_lt, times_left_comm}
use Rattle.field.proofs.Powers.{power_zero, power_one, power_next}
use Rattle.poly.specs.Inner.Interpolation.{interleaved}
use Rattle.poly.specs.Inner.Ranges.{Below, writes}
use Rattle.poly.proofs.Entries.{below_zeros}
use Rattle.poly.proofs.Lists.{mem_get_or}
use Rattle.poly.proofs.Interpolants.{at_column}
use Rattle.poly.proofs.Interleaving.{place_lt}
use Rattle.poly.proofs.Values.{value_cong, value_lt, value_plus, value_scale, value_trinomial, value_rotated}
use Rattle.poly.proofs.Writes.{writes_in, below_writes}
use Rattle.points.specs.Points.{ys_of}
use Rattle.points.specs.Series.{columns_of}
use Rattle.points.specs.Inner.Columns.{Columns, column_y}
use Rattle.points.proofs.ColumnPoints.{length_ys}
use Rattle.points.proofs.Series.{full_columns, length_columns, full_places}
use Rattle.points.proofs.Points.{of_mem_ys}
use Rattle.points.proofs.Places.{quotient, remainder}
use Rattle.code.specs.Inner.Readable.{WordOver, grid_value, GridInFront}
use Rattle.code.specs.Inner.Rows.{term_at}
use Rattle.code.proofs.SymbolPowers.{power_size}
use Rattle.mend.specs.Inner.Products.{x_at, y_at, Takes, TimesX, top, turned, times_y_at, product}

at : (l : List ℕ) (i k : ℕ) → i ≡ k → get_or l i 0 ≡ get_or l k 0
at l i k e = ap (λ (p : ℕ). get_or l p 0) e

many : (q : ℕ) → IsCurve q → 4 ≤ q * q
many = each_curve (λ q. 4 ≤ q * q) (omega arith) (omega arith) (omega arith)

pub many_columns : (q : ℕ) → IsCurve q → q + 2 ≤ q * q
many_columns = each_curve (λ q. q + 2 ≤ q * q) (omega arith) (omega arith) (omega arith)

grow : (n : ℕ) → 4 ≤ n → n ≡ suc (suc (n - 2) + 0)
grow n l = omega arith

-- a list of all columns of the curve q, in any order
module _ (q : ℕ) (columns : List ℕ) (over : Columns q columns) (all : length columns ≡ q * q) where
  abbrev F : Field
  F = field_of q

  pos : 0 < q
  pos = omega (arith, (sizes q over.curve).low)

  x_of : (t s : ℕ) → s < q → x_at q columns (q * t + s) ≡ get_or columns t 0
  x_of t s l = ap (λ (i : ℕ). get_or columns i 0) (quotient q pos t s l)

  y_of : (t s : ℕ) → s < q → y_at q columns (q * t + s) ≡ column_y q columns t s
  y_of t s l = ap₂ (λ (x i : ℕ). get_or (ys_of q x) i 0) (x_of t s l) (remainder q pos t s l)

  cyclic : (t : ℕ) → t < length columns → power F (get_or columns t 0) (length columns) ≡ get_or columns t 0
  cyclic t l = ap (power F (get_or columns t 0)) all ∙ power_size q over.curve (get_or columns t 0) (over.small t l)

  -- ---- x times

  pub takes_times_x : (n : ℕ) (grid r : List ℕ) (f : ℕ → ℕ) → n ≡ q * length columns → TimesX q n grid r → Takes q columns f grid
      → Takes q columns (λ p. F.times (x_at q columns p) (f p)) r
  takes_times_x n grid r f is_n x h =
      record {
        symbols = x.symbols;
        is = λ t s a b.
            let c = get_or columns t 0 in
            let y = column_y q columns t s in
            value_cong F q (at_column F q columns r t) (λ j. F.times c (at_column F q columns grid t j)) y (λ j k. turn t a j k)
            ∙ value_scale F q c (at_column F q columns grid t) y
            ∙ ap₂ F.times (sym (x_of t s b)) (h.is t s a b);
      }
    where
      turn : (t : ℕ) → t < length columns → (j : ℕ) → j < q
          → at_column F q columns r t j ≡ F.times (get_or columns t 0) (at_column F q columns grid t j)
      turn t a j k =
          let b : ℕ = length columns - 2 in
          let big : 4 ≤ length columns = rw all (many q over.curve) in
          let m1 : q * (suc 0 + 0) ≡ q = omega (arith, mul-suc q 0, mul-zero q) in
          let z : q * 0 ≡ 0 = mul-zero q in
          let end : q * (suc (length columns - 2) + 0) ≡ n - q =
          omega (arith, is_n, ap (λ (i : ℕ). q * i) (grow (length columns) big), mul-suc q (suc (length columns - 2) + 0)) in
          value_rotated F (length columns) 0 (length columns - 2) (interleaved q grid j) (interleaved q r j) (get_or columns t 0)
          (omega arith) (cyclic t a) (h.symbols (q * 0 + j)) (h.symbols (q * (0 + suc (length columns - 2)) + j))
          (at r (q * 0 + j) j (omega (arith, z)) ∙ x.low j k)
          (λ i l. absurd (omega arith))
          (at r (q * (suc 0 + 0) + j) (q + j) (omega (arith, m1)) ∙ x.wrapped j k
          ∙ ap₂ plus (at grid j (q * 0 + j) (omega (arith, z))) (at grid (n - q + j) (q * (suc (length columns - 2) + 0) + j) (omega (arith, end))))
          (λ i l.
          let e : suc 0 + suc i ≡ suc (suc i) = omega arith in
          let here : q * (suc 0 + suc i) + j ≡ q + (q * suc i + j) = omega (arith, ap (λ (k : ℕ). q * k) e, mul-suc q (suc i)) in
          let i2 : suc (suc i) < length columns = omega arith in
          at r (q * (suc 0 + suc i) + j) (q + (q * suc i + j)) here
          ∙ x.high (q * suc i + j) (omega (arith, mul-suc q i))
          (omega (arith, is_n, place_lt q (suc (suc i)) j (length columns) k i2, mul-suc q (suc i))))
          ∙ ap (λ (v : ℕ). F.times v (at_column F q columns grid t j)) (power_one F (get_or columns t 0) (rw (sizes q over.curve).size
          (over.small t a)))

  -- ---- y times

  -- the curve's equation, solved for y^q
  on_curve_lem : (t s : ℕ) → t < length columns → s < q
      → power F (column_y q columns t s) q ≡ plus (power F (get_or columns t 0) (suc q)) (column_y q columns t s)
  on_curve_lem t s a b =
      let x = get_or columns t 0 in
      let y = column_y q columns t s in
      let is = (of_mem_ys q x y (mem_get_or (ys_of q x) 0 s (omega (arith, length_ys q over.curve x (over.small t a))))).1 in
      plus_solve y (power F y q) (power F x (suc q)) (plus_comm y (power F y q) ∙ eqb-true (plus (power F y q) y) (power F x (suc q)) is)
      ∙ plus_comm y (power F x (suc q))

  module _ (grid : List ℕ) (symbols : Below F.size grid) where
    turned_low : (i : ℕ) → i < q → turned q grid (suc i) ≡ top q grid (q * q - (q + 2) + suc i)
    turned_low i l = rw (ne_eqb (suc i) 0 (λ e. omega arith), lt-ltb (suc i) (q + 1) (omega arith))

    turned_meet : turned q grid (q + 1) ≡ plus (top q grid 0) (top q grid (q * q - 1))
    turned_meet = rw (ne_eqb (q + 1) 0 (λ e. omega arith), le-ltb (q + 1) (q + 1) (omega arith), eq-eqb (q + 1) (q + 1) refl)

    turned_high : (i : ℕ) → q + 1 < i → turned q grid i ≡ top q grid (i - (q + 1))
    turned_high i l = rw (ne_eqb i 0 (λ e. omega arith), le-ltb i (q + 1) (omega arith), ne_eqb i (q + 1) (λ e. omega arith))

    constant : (i : ℕ) → q * i ≡ q * i + 0
    constant i = omega arith

    more_rows : (i j : ℕ) → times_y_at q grid i (suc (suc j)) ≡ get_or grid (q * i + suc j) 0
    more_rows i j = rw (ne_eqb (suc (suc j)) 0 (λ e. omega arith), ne_eqb (suc (suc j)) 1 (λ e. omega arith))
        (at grid (q * i + (suc (suc j) - 1)) (q * i + suc j) (omega arith))

    either : (b : Bool) (x y : ℕ) → x < F.size → y < F.size → cond b x y < F.size
    either true x y l k = l
    either false x y l k = k

    times_y_lt : (i j : ℕ) → times_y_at q grid i j < F.size
    times_y_lt i j =
        either (eqb j 0) (turned q grid i) _
        (either (eqb i 0) 0 _ (zero_lt F)
        (either (ltb i (q + 1)) (top q grid (q * q - (q + 2) + i)) _ (symbols _)
        (either (eqb i (q + 1)) (plus (top q grid 0) (top q grid (q * q - 1))) (top q grid (i - (q + 1)))
        (F.plus_lt _ _ (symbols _) (symbols _)) (symbols _))))
        (either (eqb j 1) (plus (get_or grid (q * i) 0) (top q grid i)) (get_or grid (q * i + (j - 1)) 0)
        (F.plus_lt _ _ (symbols _) (symbols _)) (symbols _))

    module _ (n : ℕ) (r : List ℕ) (is_n : n ≡ q * length columns) (fits : n ≤ 64)
        (is : r ≡ writes (replicate 64 0) n (λ e. times_y_at q grid (e / q) (e % q))) where
      r_at : (i j : ℕ) → i < length columns → j < q → get_or r (q * i + j) 0 ≡ times_y_at q grid i j
      r_at i j a b =
          ap (λ (l : List ℕ). get_or l (q * i + j) 0) is
          ∙ writes_in (replicate 64 0) (λ e. times_y_at q grid (e / q) (e % q)) n (q * i + j) (omega (arith, place_lt q i j (length columns) b a))
          (omega (arith, length-replicate {A = ℕ} 64 0))
          ∙ ap₂ (times_y_at q grid) (quotient q pos i j b) (remainder q pos i j b)

      r_symbols : Below F.size r
      r_symbols =
          rw is
          (below_writes (replicate 64 0) (λ e. times_y_at q grid (e / q) (e % q)) F.size n (omega (arith, length-replicate {A = ℕ} 64 0))
          (below_zeros F.size 64 (zero_lt F)) (λ e l. times_y_lt (e / q) (e % q)))

      module _ (t : ℕ) (a : t < length columns) where
        abbrev x : ℕ
        x = get_or columns t 0

        -- the polynomials before y^0, y^1 and the others
        first_row : at_column F q columns r t 0 ≡ F.times (power F x (suc q)) (at_column F q columns grid t (q - 1))
        first_row =
            let big : q + 2 ≤ length columns = rw all (many_columns q over.curve) in
            let b : ℕ = length columns - (q + 2) in
            value_rotated F (length columns) q (length columns - (q + 2)) (interleaved q grid (q - 1)) (interleaved q r 0) x
            (omega arith) (cyclic t a) (symbols (q * 0 + (q - 1))) (symbols (q * (q + suc (length columns - (q + 2))) + (q - 1)))
            (r_at 0 0 (omega arith) pos)
            (λ i l.
            let e : q * q - (q + 2) + suc i ≡ suc (length columns - (q + 2)) + i = omega (arith, all) in
            r_at (suc i) 0 (omega arith) pos ∙ turned_low i l ∙ ap (top q grid) e)
            (let e : suc q + 0 ≡ q + 1 = omega arith in
            let e' : q * q - 1 ≡ suc (length columns - (q + 2)) + q = omega (arith, all) in
            r_at (suc q + 0) 0 (omega arith) pos ∙ ap (turned q grid) e ∙ turned_meet ∙ ap (λ (k : ℕ). plus (top q grid 0) (top q grid k)) e')
            (λ i l.
            let e : suc q + suc i - (q + 1) ≡ suc i = omega arith in
            r_at (suc q + suc i) 0 (omega arith) pos ∙ turned_high (suc q + suc i) (omega arith) ∙ ap (top q grid) e)

        second_row : at_column F q columns r t 1 ≡ plus (at_column F q columns grid t 0) (at_column F q columns grid t (q - 1))
        second_row =
            value_cong F (length columns) (interleaved q r 1) (λ i. plus (interleaved q grid 0 i) (interleaved q grid (q - 1) i)) x
            (λ i l. r_at i 1 l (sizes q over.curve).low ∙ ap (λ (k : ℕ). plus (get_or grid k 0) (top q grid i)) (constant i))
            ∙ value_plus F (length columns) (interleaved q grid 0) (interleaved q grid (q - 1)) x

        other_rows : (j : ℕ) → suc (suc j) < q → at_column F q columns r t (suc (suc j)) ≡ at_column F q columns grid t (suc j)
        other_rows j l =
            value_cong F (length columns) (interleaved q r (suc (suc j))) (interleaved q grid (suc j)) x
            (λ i k. r_at i (suc (suc j)) k l ∙ more_rows i j)

        pub value_times_y : (s : ℕ) → s < q → grid_value q columns r t s ≡ F.times (column_y q columns t s) (grid_value q columns grid t s)
        value_times_y s b =
            let low = (sizes q over.curve).low in
            let last : suc (q - 2) ≡ q - 1 = omega arith in
            let top_row : at_column F q columns grid t (q - 1) ≡ at_column F q columns grid t (suc (q - 2)) =
            ap (at_column F q columns grid t) (sym last) in
            value_trinomial F q (q - 2) (at_column F q columns grid t) (at_column F q columns r t) (power F x (suc q)) (column_y q columns t s)
            (omega arith) (on_curve_lem t s a b) (value_lt F (length columns) (interleaved q grid 0) x)
            (value_lt F (length columns) (interleaved q grid (suc (q - 2))) x)
            (first_row ∙ ap (F.times (power F x (suc q))) top_row)
            (second_row ∙ ap (plus (at_column F q columns grid t 0)) top_row)
            (λ i l. other_rows i (omega arith))

  pub takes_times_y : (n : ℕ) (grid r : List ℕ) (f : ℕ → ℕ) → n ≡ q * length columns → n ≤ 64
      → r ≡ writes (replicate 64 0) n (λ e. times_y_at q grid (e / q) (e % q)) → Takes q columns f grid
      → Takes q columns (λ p. F.times (y_at q columns p) (f p)) r
  takes_times_y n grid r f is_n fits is h =
      record {
        symbols = r_symbols grid h.symbols n r is_n fits is;
        is = λ t s a b.
            value_times_y grid h.symbols n r is_n fits is t a s b
            ∙ ap₂ F.times (sym (y_of t s b)) (h.is t s a b);
      }

  -- ---- the products of a word with the terms

  takes_cong : (f g : ℕ → ℕ) (grid : List ℕ) → ((p : ℕ) → f p ≡ g p) → Takes q columns f grid → Takes q columns g grid
  takes_cong f g grid e h = record { symbols = h.symbols; is = λ t s a b. h.is t s a b ∙ e (q * t + s) }

  -- the grid of a word
  pub takes_grid : (word grid : List ℕ) → GridInFront q columns word grid → Takes q columns (λ p. get_or word p 0) grid
  takes_grid word grid g = record { symbols = g.symbols; is = g.is }

  pub product_start : (word grid : List ℕ) → Below F.size word → Takes q columns (λ p. get_or word p 0) grid
      → Takes q columns (product q columns word 0 0) grid
  product_start word grid small =
      takes_cong (λ p. get_or word p 0) (product q columns word 0 0) grid (λ p.
      sym (ap (λ (v : ℕ). F.times v (get_or word p 0))
      (ap₂ F.times (power_zero F (x_at q columns p)) (power_zero F (y_at q columns p)) ∙ F.times_one 1 F.two_le)
      ∙ F.times_one (get_or word p 0) (small p)))

  pub product_x : (word grid r : List ℕ) (n i j : ℕ) → n ≡ q * length columns → TimesX q n grid r → Takes q columns (product q columns word i j) grid
      → Takes q columns (product q columns word (i + 1) j) r
  product_x word grid r n i j is_n x h =
      takes_cong (λ p. F.times (x_at q columns p) (product q columns word i j p)) (product q columns word (i + 1) j) r (λ p.
      sym (F.times_assoc (x_at q columns p) (term_at q (x_at q columns p) (y_at q columns p) i j) (get_or word p 0))
      ∙ ap (λ (v : ℕ). F.times v (get_or word p 0))
      (sym (F.times_assoc (x_at q columns p) (power F (x_at q columns p) i) (power F (y_at q columns p) j))
      ∙ ap (λ (v : ℕ). F.times v (power F (y_at q columns p) j)) (sym (power_next F (x_at q columns p) i))))
      (takes_times_x n grid r (product q columns word i j) is_n x h)

  pub product_y : (word grid r : List ℕ) (n i j : ℕ) → n ≡ q * length columns → n ≤ 64
      → r ≡ writes (replicate 64 0) n (λ e. times_y_at q grid (e / q) (e % q)) → Takes q columns (product q columns word i j) grid
      → Takes q columns (product q columns word i (j + 1)) r
  product_y word grid r n i j is_n fits is h =
      takes_cong (λ p. F.times (y_at q columns p) (product q columns word i j p)) (product q columns word i (j + 1)) r (λ p.
      sym (F.times_assoc (y_at q columns p) (term_at q (x_at q columns p) (y_at q columns p) i j) (get_or word p 0))
      ∙ ap (λ (v : ℕ). F.times v (get_or word p 0))
      (times_left_comm F (y_at q columns p) (power F (x_at q columns p) i) (power F (y_at q columns p) j)
      ∙ ap (F.times (power F (x_at q columns p) i)) (sym (power_next F (y_at q columns p) j))))
      (takes_times_y n grid r (product q columns word i j) is_n fits is h)

-- ---- where the coefficients stand

pub entry_lt : (q : ℕ) → IsCurve q → (i j : ℕ) → i < q * q → j < q → q * i + j < q * q * q
entry_lt q curve i j a b = omega (arith, place_lt q i j (q * q) b a, (sizes q curve).grid)

-- a grid's rows are within sixteen numbers for each column
pub full_word : (q series : ℕ) → IsCurve q → (word : List ℕ) → length word ≡ q * q * q → Below (field_of q).size word
    → WordOver q (columns_of q series) word
full_word q series curve word long symbols =
    record {
      over = full_columns q series curve;
      few = omega (arith, length_columns q series curve);
      long = long ∙ sym (full_places q series curve);
      symbols = symbols;
    }
