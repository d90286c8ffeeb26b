-- The grids of the products of a word with the terms of order s, where the products with x^i·y^j stand in blocks and each term has its start: so the
-- equations of the heavy entries are those of the method, and what solves them locates.
-- Assumes nothing.
use mathlib.Core.Bool.{Bool, true, false}
use mathlib.Core.List.{List}
use mathlib.Core.Path.{◌≡◌, sym, ap, ◌∙◌, subst}
use Prim.Native.Nat.{ℕ, suc, ◌+◌, ◌*◌, ◌/◌, ◌≤◌, ◌<◌}
use native.Mathlib.Decide.{dec_lt}
use native.Mathlib.Nat.{mul_comm, mul-suc, mul-le-mul_left, le-div_iff_mul-le}
use native.Mathlib.Omega.{arith}
use lib.ListN.{length, get_or, take, get_or-eq_default}
use lib.Seq.{get_or-take}
use Rattle.field.specs.Curve.{IsShort}
use Rattle.field.specs.Field.{Field}
use Rattle.field.proofs.Curves.{short_curve, short_sizes}
use Rattle.field.proofs.Fields.{field_of}
use Rattle.field.proofs.FieldLaws.{zero_lt}
use Rattle.poly.specs.Inner.Interpolation.{interleaved}
use Rattle.poly.specs.Inner.Ranges.{Below, part}
use Rattle.poly.proofs.Interleaving.{place_lt}
use Rattle.poly.proofs.Interpolants.{at_column}
use Rattle.poly.proofs.Messages.{tabulate, get_or_tabulate, vector_below}
use Rattle.poly.proofs.Parts.{length_part, part_at}
use Rattle.poly.proofs.Values.{value_cong}
use Rattle.linear.specs.Inner.Systems.{flat, NonzeroSolved}
use Rattle.points.specs.Points.{ys_of}
use Rattle.points.specs.Series.{columns_of}
use Rattle.points.proofs.Series.{full_places}
use Rattle.points.proofs.Passing.{at_place}
use Rattle.code.specs.Terms.{is_term, x_power, y_power, weights, size}
use Rattle.code.specs.Inner.Readable.{grid_value, GridOf}
use Rattle.code.specs.Inner.Rows.{row_of}
use Rattle.code.proofs.Weights.{curve_pos, weight_of_powers_lem, y_lt}
use Rattle.mend.specs.Inner.Candidates.{Located}
use Rattle.mend.specs.Inner.Locating.{reach, Mendable, TermProducts, HoldsHeavy}
use Rattle.mend.specs.Inner.Products.{Takes, product, block, Products, Starts, entry_from, grid_from}
use Rattle.mend.proofs.Symbols.{to_size}
use Rattle.mend.proofs.Solving.{full_no_locator, solution_locates}

-- the starts of the terms, at the front of a list
pub starts_taken : (q s count k : ℕ) (l : List ℕ) → k ≡ size q s → Starts q s count l → Starts q s count (take k l)
starts_taken q s count k l is h = record { at = λ i b. get_or-take k l i 0 (omega arith) ∙ h.at i b }

-- the grids of the products of a word of n symbols with the x^i·y^j, and the starts of the terms of order s
pub record Prepared (q series s count n : ℕ) (word starts grids : List ℕ) : Type 0 where
  pub curve : IsShort q
  pub powers : count ≡ s / q + 1
  pub places : n ≡ q * q * q
  pub fits : 64 * count * q ≤ length grids
  pub starts_at : Starts q s count starts
  pub products : Products q (columns_of q series) word count grids q

module _ (q series s count n : ℕ) (word starts grids : List ℕ) (h : Prepared q series s count n word starts grids) where
  abbrev F : Field
  F = field_of q

  abbrev columns : List ℕ
  columns = columns_of q series

  short : n ≤ 64
  short = omega (arith, h.places, (short_sizes q h.curve).points)

  -- the products with the terms
  pub products_of : ℕ → List ℕ
  products_of i = tabulate (q * q * q) (λ p. F.times (row_of q columns s p i) (get_or word p 0))

  products_at : (i p : ℕ) → p < q * q * q → get_or (products_of i) p 0 ≡ F.times (row_of q columns s p i) (get_or word p 0)
  unfolding products_of
  products_at i = get_or_tabulate (q * q * q) (λ p. F.times (row_of q columns s p i) (get_or word p 0))

  pub term_products : TermProducts q series s word products_of
  term_products = record { at = λ i p a b. products_at i p b }

  -- the term i, with its exponents
  module _ (i : ℕ) (il : i < size q s) where
    abbrev w : ℕ
    w = get_or (weights q s) i 0

    abbrev x : ℕ
    x = x_power q w

    abbrev y : ℕ
    y = y_power q w

    y_below : y < q
    y_below = y_lt q (curve_pos q (short_curve q h.curve)) w

    x_below : x < count
    x_below =
        let a = at_place (is_term q) (suc s) i il in
        let e = weight_of_powers_lem q (curve_pos q (short_curve q h.curve)) w a.1 in
        let l : x ≤ s / q = (le-div_iff_mul-le {x = x} {y = s} (curve_pos q (short_curve q h.curve))).1 (omega (arith, mul_comm x q, e, a.0)) in
        omega (arith, h.powers)

    -- its block
    abbrev here : List ℕ
    here = block (part grids (64 * count * y) (64 * count * y + 64 * count)) x

    taken : Takes q columns (product q columns word x y) here
    taken = h.products.at y x y_below x_below

    start : get_or starts i 0 ≡ 64 * count * y + 64 * x
    start = h.starts_at.at i il

    within : get_or starts i 0 + 64 ≤ length grids
    within =
        omega (arith, start, h.fits, mul-suc 64 x, mul-le-mul_left 64 x_below, mul-suc (64 * count) y, mul-le-mul_left (64 * count) y_below)

    from_block : (e : ℕ) → e < 64 → entry_from starts grids e i ≡ get_or here e 0
    from_block e l =
        let first : 64 * x + e < 64 * count = omega (arith, mul-suc 64 x, mul-le-mul_left 64 x_below) in
        let where_at : get_or starts i 0 + e ≡ 64 * count * y + (64 * x + e) = omega (arith, start) in
        ap (λ (p : ℕ). get_or grids p 0) where_at
        ∙ sym (part_at grids (64 * count * y) (64 * count * y + 64 * count) (64 * x + e) (omega arith))
        ∙ sym (part_at (part grids (64 * count * y) (64 * count * y + 64 * count)) (64 * x) (64 * x + 64) e (omega arith))

    -- what its grid has is in the list, and a symbol
    pub readable : (e : ℕ) → e < n → (get_or starts i 0 + e < length grids) × (entry_from starts grids e i < F.size)
    readable e l =
        (omega (arith, within, short), rw (from_block e (omega (arith, short))) (taken.symbols e))

    grid_long : length (grid_from n starts grids i) ≡ n
    grid_long = length_part grids (get_or starts i 0) (get_or starts i 0 + n) (omega arith) (omega (arith, within, short)) ∙ omega arith

    grid_at : (e : ℕ) → e < n → get_or (grid_from n starts grids i) e 0 ≡ entry_from starts grids e i
    grid_at e l = part_at grids (get_or starts i 0) (get_or starts i 0 + n) e (omega arith)

    grid_symbols : Below F.size (grid_from n starts grids i)
    grid_symbols e = elim (dec_lt e n) [
      | yes l ↦ rw (grid_at e l) (readable e l).1
      | no d ↦ rw (get_or-eq_default (grid_from n starts grids i) 0 {n = e} (omega (arith, grid_long))) (zero_lt F)
    ]

    full : q * length columns ≡ n
    full = full_places q series (short_curve q h.curve) ∙ sym h.places

    same_value : (t r : ℕ) → t < length columns → r < q → grid_value q columns (grid_from n starts grids i) t r ≡ grid_value q columns here t r
    same_value t r a b =
        value_cong F q (at_column F q columns (grid_from n starts grids i) t) (at_column F q columns here t) (get_or (ys_of q (get_or columns t 0)) r 0)
        (λ j k.
        value_cong F (length columns) (interleaved q (grid_from n starts grids i) j) (interleaved q here j) (get_or columns t 0)
        (λ c l.
        let e : q * c + j < n = omega (arith, place_lt q c j (length columns) k l, full) in
        grid_at (q * c + j) e ∙ from_block (q * c + j) (omega (arith, short))))

    pub grid_of : GridOf q columns (products_of i) (grid_from n starts grids i)
    unfolding row_of
    grid_of =
        record {
          long = grid_long ∙ sym full;
          symbols = grid_symbols;
          is = λ t r a b.
              let p : q * t + r < q * q * q = omega (arith, place_lt q t r (length columns) b a, full, h.places) in
              same_value t r a b ∙ taken.is t r a b ∙ sym (products_at i (q * t + r) p);
        }

module _ (q series m : ℕ) (word : List ℕ) (ok : Mendable q series m word) where
  pub word_symbols : Below (field_of q).size word
  word_symbols =
      vector_below (field_of q).size (q * q * q) word (zero_lt (field_of q))
      (to_size q (short_curve q ok.curve) (q * q * q) word (record { len = ok.long; small = ok.symbols }))

  pub heavy_low : (s : ℕ) → s ≡ reach q m → m + s < length word
  heavy_low s is = omega (arith, ok.order, ok.long)

  -- what solves the equations of the heavy entries locates
  at_reach : (count n : ℕ) (starts grids work f : List ℕ) (r : Bool) → Prepared q series (reach q m) count n word starts grids
      → HoldsHeavy q m (reach q m) 32 (grid_from n starts grids) work n → length f ≡ size q (reach q m)
      → NonzeroSolved (field_of q) (size q (reach q m)) (flat 32 (size q (reach q m)) work) f r → Located q series m word f r
  at_reach count n starts grids work f true h held long solved =
      solution_locates q series m word ok (products_of q series (reach q m) count n word starts grids h) (grid_from n starts grids)
      (term_products q series (reach q m) count n word starts grids h) (grid_of q series (reach q m) count n word starts grids h) 32 work
      (subst (HoldsHeavy q m (reach q m) 32 (grid_from n starts grids) work) h.places held)
      f (record { len = long; small = solved.0.symbols }) solved.0.satisfies solved.1.0 (λ z. omega (arith, z, solved.1.2))
  at_reach count n starts grids work f false h held long solved =
      full_no_locator q series m word ok (products_of q series (reach q m) count n word starts grids h) (grid_from n starts grids)
      (term_products q series (reach q m) count n word starts grids h) (grid_of q series (reach q m) count n word starts grids h) 32 work
      (subst (HoldsHeavy q m (reach q m) 32 (grid_from n starts grids) work) h.places held)
      solved

  pub located : (s count n k : ℕ) (starts grids work f : List ℕ) (r : Bool) → s ≡ reach q m → Prepared q series s count n word starts grids
      → HoldsHeavy q m s 32 (grid_from n starts grids) work n → k ≡ size q s → length f ≡ k
      → NonzeroSolved (field_of q) k (flat 32 k work) f r → Located q series m word f r
  located s count n k starts grids work f r is_s h held is_k long solved =
      let is : k ≡ size q (reach q m) = is_k ∙ ap (size q) is_s in
      at_reach count n starts grids work f r
      (subst (λ (s : ℕ). Prepared q series s count n word starts grids) is_s h)
      (subst (λ (s : ℕ). HoldsHeavy q m s 32 (grid_from n starts grids) work n) is_s held)
      (long ∙ is) (subst (λ (k : ℕ). NonzeroSolved (field_of q) k (flat 32 k work) f r) is solved)
