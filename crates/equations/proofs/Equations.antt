-- The equation of a symbol, as the code writes it.
-- Assumes nothing.
use mathlib.Core.Bool.{true}
use mathlib.Core.List.{List}
use mathlib.Core.Path.{◌≡◌, refl, sym, ap, ap₂, ◌∙◌, subst}
use Prim.Native.Nat.{ℕ, suc, ◌+◌, ◌-◌, ◌*◌, ◌/◌, ◌%◌, ◌≤◌, ◌<◌}
use native.Mathlib.Nat.{mul-le-mul, lt-mul-div-succ}
use native.Mathlib.Decide.{ℕ_discrete}
use native.Mathlib.Omega.{arith}
use borrow.Author.Tests.{eq-eqb, ne_eqb}
use borrow.Rule.Slice.PartMut.{put_mid}
use lib.ListN.{length, get_or, set, take, replicate}
use Rattle.std.proofs.lemmas.List.{get_or-take}
use lib.Seq.{get_or-set_same, get_or-set_other, length-take-le}
use Rattle.field.specs.Curve.{IsCurve, IsShort}
use Rattle.field.specs.Power.{power}
use Rattle.field.proofs.Fields.{field_of}
use Rattle.field.proofs.FieldLaws.{zero_lt}
use Rattle.field.proofs.Powers.{power_zero, power_next, power_lt}
use Rattle.field.proofs.Curves.{sizes, short_sizes, short_curve}
use Rattle.poly.specs.Inner.Ranges.{Below, writes, Blocks}
use Rattle.poly.specs.Inner.Linear.{entry}
use Rattle.poly.specs.Inner.Rows.{scaled}
use Rattle.poly.proofs.Blocks.{blocks_more, blocks_at}
use Rattle.poly.proofs.Lists.{get_or_map}
use Rattle.poly.proofs.Multiples.{length_scaled, scaled_in, below_scaled}
use Rattle.poly.proofs.Writes.{length_writes, writes_in, below_writes}
use Rattle.poly.proofs.Entries.{below_zeros}
use Rattle.linear.specs.Inner.Systems.{Equation, Brought}
use Rattle.linear.specs.declared.system.Effect.{Effect}
use Rattle.linear.proofs.Bringing.{brought_same}
use Rattle.points.specs.Points.{ys_of}
use Rattle.points.proofs.Passing.{at_place}
use Rattle.code.specs.Terms.{is_term, weights, size}
use Rattle.code.specs.Word.{monomial}
use Rattle.code.specs.Inner.Grid.{entry_of, entries_of, listed}
use Rattle.code.specs.Inner.Rows.{term_at, row_of}
use Rattle.code.proofs.Weights.{entry_x, entry_y}
use Rattle.code.proofs.GridEntries.{length_entries, entry_at_most}
use Rattle.code.proofs.Stages.{rows_fit}
use Rattle.equations.specs.Inner.Collecting.{EquationAt, equation_of}

-- ---- the grid of the terms

-- its row i
pub record RowAt (q x y i : ℕ) (row : List ℕ) : Type 0 where
  pub long : length row ≡ 4
  pub at : (j : ℕ) → j < q → entry row j ≡ term_at q x y i j
  pub symbols : Below (field_of q).size row

module _ (q x y : ℕ) (short : IsShort q) where
  curve : IsCurve q
  curve = short_curve q short

  pub row_start : (row : List ℕ) → row ≡ writes (replicate 4 0) 4 (power (field_of q) y) → RowAt q x y 0 row
  row_start row e =
      let F = field_of q in
      let p = power F y in
      let zeros = replicate {A = ℕ} 4 0 in
      record {
        long = ap length e ∙ length_writes zeros p 4;
        at = λ j l.
            ap (λ (t : List ℕ). entry t j) e ∙ writes_in zeros p 4 j (omega (arith, (short_sizes q short).high)) (omega arith)
            ∙ sym (ap (λ (a : ℕ). F.times a (p j)) (power_zero F x) ∙ F.times_one (p j) (power_lt F y j));
        symbols = subst (Below F.size) (sym e)
            (below_writes zeros p F.size 4 (omega arith) (below_zeros F.size 4 (zero_lt F)) (λ j l. power_lt F y j));
      }

  -- each row is x times the one before
  pub row_turn : (i : ℕ) (row next : List ℕ) → RowAt q x y i row → next ≡ scaled (field_of q) x q row → RowAt q x y (i + 1) next
  row_turn i row next h e =
      let F = field_of q in
      let fits : q ≤ length row = omega (arith, (short_sizes q short).high, h.long) in
      record {
        long = ap length e ∙ length_scaled F x q row ∙ h.long;
        at = λ j l.
            ap (λ (t : List ℕ). entry t j) e ∙ scaled_in F x q row j l fits ∙ ap (F.times x) (h.at j l)
            ∙ sym (F.times_assoc x (power F x i) (power F y j)) ∙ ap (λ (a : ℕ). F.times a (power F y j)) (sym (power_next F x i));
        symbols = subst (Below F.size) (sym e) (below_scaled F x q row fits h.symbols);
      }

  -- row n comes into the grid
  pub row_stored : (grid row new : List ℕ) (n at : ℕ) → Blocks q (term_at q x y) grid n → RowAt q x y n row → at ≡ q * n → at + q ≤ length grid
      → new ≡ take q row → Blocks q (term_at q x y) (put_mid at (at + q - at) grid new) (n + 1)
  row_stored grid row new n at h r is_at fits e =
      let narrow : q ≤ length row = omega (arith, (short_sizes q short).high, r.long) in
      blocks_more q (term_at q x y) grid new n at (at + q) h is_at refl fits (ap length e ∙ length-take-le q row narrow)
      (λ j l. ap (λ (t : List ℕ). entry t j) e ∙ get_or-take q row j 0 l ∙ r.at j l)

  -- the rows that the terms of the order m need
  pub rows_room : (m : ℕ) → m < q * 16 → q * (m / q + 1) ≤ 64
  rows_room m l =
      let z = sizes q curve in
      omega (arith, mul-le-mul (short_sizes q short).high (rows_fit q m 16 (omega (arith, z.low)) l))

  -- the term of weight w stands at its entry
  term_entry : (m : ℕ) (grid : List ℕ) → Blocks q (term_at q x y) grid (m / q + 1) → (w : ℕ) → is_term q w ≡ true → w ≤ m
      → get_or grid (entry_of q w) 0 ≡ monomial q w x y
  term_entry m grid h w t l =
      let pos : 0 < q = omega (arith, (sizes q curve).low) in
      blocks_at q pos (m / q + 1) (term_at q x y) grid h (entry_of q w) (omega (arith, lt-mul-div-succ m pos))
      ∙ ap₂ (term_at q x y) (entry_x q pos w t) (entry_y q pos w t)

  -- the terms of the order m, gathered, and the symbol after them
  pub equation_written : (m s : ℕ) (entries grid row : List ℕ) → entries ≡ entries_of q m → size q m < length row
      → Blocks q (term_at q x y) grid (m / q + 1)
      → EquationAt q m x y s (set (writes row (length entries) (listed entries grid)) (length entries) s)
  equation_written m s entries grid row e fits h =
      record {
        coefficients = λ n l.
            let w = at_place (is_term q) (suc m) n l in
            get_or-set_other new (length entries) n s 0 (omega (arith, long))
            ∙ writes_in row (listed entries grid) (length entries) n (omega (arith, long)) (omega (arith, long))
            ∙ ap (λ (t : List ℕ). listed t grid n) e ∙ ap (λ (i : ℕ). get_or grid i 0) (get_or_map (entry_of q) (weights q m) 0 0 n l)
            ∙ term_entry m grid h (get_or (weights q m) n 0) w.1 (omega (arith, w.0));
        side =
            ap (entry (set new (length entries) s)) (sym long)
            ∙ get_or-set_same new (length entries) s 0 (omega (arith, long, length_writes row (listed entries grid) (length entries)));
      }
    where
      new : List ℕ
      new = writes row (length entries) (listed entries grid)

      long : length entries ≡ size q m
      long = ap length e ∙ length_entries q m

  -- each entry is in a grid that has an entry m
  pub entries_fit : (m : ℕ) (entries grid : List ℕ) → entries ≡ entries_of q m → m < length grid
      → (n : ℕ) → n < length entries → get_or entries n 0 < length grid
  entries_fit m entries grid e fits n l =
      let i : n < size q m = omega (arith, ap length e, length_entries q m) in
      let pos : 0 < q = omega (arith, (sizes q curve).low) in
      omega (arith, ap (λ (t : List ℕ). get_or t n 0) e, entry_at_most q pos m n i)

-- ---- the equation of a place

module _ (q : ℕ) (columns : List ℕ) (m p s x y : ℕ) (row : List ℕ) (e : EquationAt q m x y s row)
    (is_x : x ≡ get_or columns (p / q) 0) (is_y : y ≡ get_or (ys_of q (get_or columns (p / q) 0)) (p % q) 0) where
  same_equation : (j : ℕ) → j ≤ size q m → entry row j ≡ equation_of q columns m p s j
  unfolding row_of
  same_equation j l = elim (ℕ_discrete j (size q m)) [
    | yes d ↦ ap (entry row) d ∙ e.side ∙ sym (rw (eq-eqb j (size q m) d))
    | no d ↦
        e.coefficients j (omega arith) ∙ ap₂ (λ (a b : ℕ). monomial q (get_or (weights q m) j 0) a b) is_x is_y
        ∙ sym (rw (ne_eqb j (size q m) d))
  ]

  pub equation_formed : s < (field_of q).size → size q m < length row → Equation (field_of q) (size q m) row
  equation_formed small long =
      record {
        long = long;
        symbols = λ j l. elim (ℕ_discrete j (size q m)) [
          | yes d ↦ rw (d, e.side) small
          | no d ↦ rw (e.coefficients j (omega arith)) ((field_of q).times_lt _ _)
        ];
      }

  pub place_brought : (work work' : List ℕ) (effect : Effect) → Brought (field_of q) 64 (size q m) work (entry row) work' effect
      → Brought (field_of q) 64 (size q m) work (equation_of q columns m p s) work' effect
  place_brought work work' effect =
      brought_same (field_of q) 64 (size q m) work work' (entry row) (equation_of q columns m p s) same_equation effect
