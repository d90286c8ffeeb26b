-- Staircases fix the codeword. Take a message whose word is 0 at the places, as the sum over j of f_j(x)·y^j. From the highest j down: where the
-- f above f_j are 0, the polynomial in y of a column with more than j of the places has more roots than its degree, so f_j is 0 at its x; and
-- it is so at more x than the degree of f_j, so f_j is 0.
-- Assumes nothing.
use mathlib.Core.Bool.{Bool, true, not, ◌||◌}
use mathlib.Core.List.Memᴰ
use mathlib.Core.List.Memᴰ.{head}
use mathlib.Core.List.Memᴰ.{tail}
use mathlib.Core.List.{List, [], ◌∷◌, map, Memᴰ as Mem}
use mathlib.Core.Logic.{inl, inr}
use mathlib.Core.Path.{◌≡◌, refl, sym, ap, ◌∙◌, subst}
use Prim.Native.Nat.{ℕ, zero, suc, ◌+◌, ◌-◌, ◌*◌, ◌/◌, ◌%◌, ◌≤◌, ◌<◌}
use native.Mathlib.Nat.{suc-mul, mul-le-mul_left, div-add-mod, mod-lt, lt-mul-div-succ}
use native.Mathlib.Decide.{dec_le, dec_lt}
use native.Mathlib.Omega.{arith}
use borrow.Author.Tests.{le-leb, leb-true}
use lib.Dec.{T, eqb, leb, ltb, eqb→eq, ltb→lt, le→leb}
use lib.ListN.{length, get_or, length-map}
use lib.Seq.{ext_get_or}
use Rattle.field.specs.Field.{Field}
use Rattle.field.specs.Plus.{plus}
use Rattle.field.specs.Tests.{every}
use Rattle.field.specs.Curve.{IsCurve}
use Rattle.field.proofs.Plus.{plus_self, eq_of_plus_zero}
use Rattle.field.proofs.Fields.{field_of}
use Rattle.field.proofs.FieldLaws.{zero_lt}
use Rattle.field.proofs.Curves.{sizes}
use Rattle.field.proofs.Search.{of_every}
use Rattle.poly.specs.Messages.{Vector}
use Rattle.poly.specs.Inner.Polynomials.{value}
use Rattle.poly.proofs.Bools.{of_or, implied}
use Rattle.poly.proofs.Interleaving.{place_lt}
use Rattle.poly.proofs.Lists.{get_or_mem, nodup_get_or, nodup_map, pigeonhole}
use Rattle.poly.proofs.Messages.{vector_below}
use Rattle.poly.proofs.Parts.{below_mem}
use Rattle.poly.proofs.Roots.{root_bound}
use Rattle.poly.proofs.Values.{value_lt, value_zeros, value_extend}
use Rattle.points.specs.Passing.{passing, up_to}
use Rattle.points.specs.Points.{ys_of}
use Rattle.points.specs.Series.{columns_of}
use Rattle.points.specs.Inner.Columns.{Columns, column_y}
use Rattle.points.proofs.ColumnPoints.{length_ys, y_symbol, length_up_to}
use Rattle.points.proofs.Series.{full_columns, length_columns}
use Rattle.points.proofs.Passing.{at_place, ascending as passing_ascending, nodup_passing, mem_passing, of_mem_passing}
use Rattle.points.proofs.Places.{column_of, remainder}
use Rattle.points.proofs.Points.{nodup_ys}
use Rattle.code.specs.Terms.{is_term, weights, size}
use Rattle.code.specs.Word.{word_of}
use Rattle.code.specs.Inner.Grid.{weight_of, entry_of, entries_of, scatter}
use Rattle.code.proofs.GridEntries.{scatter_above, length_entries}
use Rattle.code.proofs.GridLaw.{two_stages}
use Rattle.code.proofs.Stages.{symbols_scatter}
use Rattle.code.proofs.Weights.{curve_pos, weight_of_entry, entry_of_weight, entry_term, weights_once}
use Rattle.code.proofs.WordColumns.{word_at, word_length}
use Rattle.systematic.specs.InformationSets.{symbols_at, is_information_set, TwoAgree}
use Rattle.poly.specs.Ascending.{is_ascending, are_below, is_ascending_below}
use Rattle.systematic.specs.Places.{good_places}
use Rattle.systematic.specs.Staircases.{highest_x, Holding, Stair, Staircase, light_places, is_among, held_by, columns_with, is_staircase}
use Rattle.systematic.proofs.PlaceLists.{Places, of_good}
use Rattle.systematic.proofs.InformationSets.{add, add_message, word_add, word_injective, of_symbols_same, Fixing, test_of_fixing}

-- f_j has no more coefficients than there are columns
highest_lt : (q : ℕ) → 0 < q → (m c : ℕ) → m < q * c → (j : ℕ) → highest_x q m j < c
highest_lt q pos m c order j = column_of q pos c (m - suc q * j) (omega arith)

module _ (q : ℕ) (columns : List ℕ) (over : Columns q columns) (m : ℕ) (order : m < q * length columns) where
  abbrev F : Field
  F = field_of q

  abbrev c : ℕ
  c = length columns

  abbrev word_from : List ℕ → List ℕ
  word_from = word_of q columns m

  pos : 0 < q
  pos = curve_pos q over.curve

  is_size : F.size ≡ q * q
  is_size = (sizes q over.curve).size

  -- ---- a message laid out

  module _ (u : List ℕ) (hu : Vector (q * q) (size q m) u) where
    -- the coefficient of x^i·y^j
    abbrev coefficient : ℕ → ℕ → ℕ
    coefficient j i = get_or (scatter q (q * c) m u) (q * i + j) 0

    -- f_j at x
    abbrev in_x : ℕ → ℕ → ℕ
    in_x x j = value F c (coefficient j) x

    coefficient_lt : (j i : ℕ) → coefficient j i < F.size
    coefficient_lt j i =
        symbols_scatter q (q * c) u (vector_below F.size (size q m) u (zero_lt F) (rw is_size hu)) (suc m) (q * i + j)

    -- the symbol at place q·t + s
    symbol : (t s : ℕ) → t < c → s < q → get_or (word_from u) (q * t + s) 0 ≡ value F q (in_x (get_or columns t 0)) (column_y q columns t s)
    symbol t s tl sl =
        word_at q m over.curve u columns over.small t s tl sl
        ∙ two_stages q pos c (q * c) m u (get_or columns t 0) (column_y q columns t s) order (omega arith)

    -- no term has a weight above m
    too_heavy : (j i : ℕ) → j < q → m < q * i + suc q * j → coefficient j i ≡ 0
    too_heavy j i l h =
        scatter_above q pos (q * c) u (suc m) (q * i + j)
        (let e : q * ((q * i + j) % q) ≡ q * j = ap (λ (x : ℕ). q * x) (remainder q pos i j l) in omega (arith, e, suc-mul q j))

    -- ---- the word is 0 at the places

    module _ (places : List ℕ) (zero_at : (t s : ℕ) → t < c → s < q → Mem (q * t + s) places → get_or (word_from u) (q * t + s) 0 ≡ 0) where
      -- a column with more than j of the places
      column_zero : (j t : ℕ) → j < q → t < c → ((k : ℕ) → j < k → k < q → (i : ℕ) → coefficient k i ≡ 0) → Holding q places j t
          → in_x (get_or columns t 0) j ≡ 0
      column_zero j t jl tl above h =
          let x = get_or columns t 0 in
          let ys = map (λ s. get_or (ys_of q x) s 0) h.numbers in
          let long = length_ys q over.curve x (over.small t tl) in
          root_bound F ys (suc j) (in_x x)
          (below_mem F.size ys (zero_lt F) (λ y k. let (s, i, e) = Memᴰ.of_map (λ s. get_or (ys_of q x) s 0) h.numbers k in
          rw (← e) (y_symbol q over.curve x s (over.small t tl) (h.small s i))))
          (nodup_map (λ s. get_or (ys_of q x) s 0) h.numbers
          (λ a b ha hb. nodup_get_or (ys_of q x) 0 (nodup_ys q x) a b (rw long (h.small a ha)) (rw long (h.small b hb))) h.distinct)
          (λ k l. value_lt F c (coefficient k) x)
          (omega (arith, h.enough, length-map h.numbers (λ s. get_or (ys_of q x) s 0)))
          (λ y k. let (s, i, e) = Memᴰ.of_map (λ s. get_or (ys_of q x) s 0) h.numbers k in
          subst (λ (y : ℕ). value F (suc j) (in_x x) y ≡ 0) e
          (sym (value_extend F (suc j) q (in_x x) (column_y q columns t s) jl (λ k a b. value_zeros F c (coefficient k) x (λ i l. above k a b i)))
          ∙ sym (symbol t s tl (h.small s i)) ∙ zero_at t s tl (h.small s i) (h.held s i)))
          j (omega arith)

      -- as many such columns as f_j has coefficients
      row_zero : (j : ℕ) → j < q → ((k : ℕ) → j < k → k < q → (i : ℕ) → coefficient k i ≡ 0) → suc q * j ≤ m → Stair q columns m places j
          → (i : ℕ) → coefficient j i ≡ 0
      row_zero j jl above low h i =
          elim (dec_lt i (suc d)) [ yes l ↦ first i l | no l ↦ rest i (omega arith) ]
        where
          d : ℕ
          d = highest_x q m j

          rest : (i : ℕ) → suc d ≤ i → coefficient j i ≡ 0
          rest i l = too_heavy j i jl (omega (arith, low, lt-mul-div-succ (m - suc q * j) pos, mul-le-mul_left q l))

          xs : List ℕ
          xs = map (λ t. get_or columns t 0) h.numbers

          first : (i : ℕ) → i < suc d → coefficient j i ≡ 0
          first =
              root_bound F xs (suc d) (coefficient j)
              (below_mem F.size xs (zero_lt F) (λ x k. let (t, i, e) = Memᴰ.of_map (λ t. get_or columns t 0) h.numbers k in
              rw (← e, is_size) (over.small t (h.small t i))))
              (nodup_map (λ t. get_or columns t 0) h.numbers (λ a b ha hb. nodup_get_or columns 0 over.distinct a b (h.small a ha) (h.small b hb)) h.distinct)
              (λ i l. coefficient_lt j i)
              (omega (arith, h.enough, length-map h.numbers (λ t. get_or columns t 0)))
              (λ x k. let (t, i, e) = Memᴰ.of_map (λ t. get_or columns t 0) h.numbers k in
              subst (λ (x : ℕ). value F (suc d) (coefficient j) x ≡ 0) e
              (sym (value_extend F (suc d) c (coefficient j) (get_or columns t 0) (highest_lt q pos m c order j) (λ i a b. rest i a))
              ∙ column_zero j t jl (h.small t i) above (h.holding t i)))

      -- from the highest power of y down: the d highest
      rows_zero : Staircase q columns m places → (d j : ℕ) → q ≤ j + d → j < q → (i : ℕ) → coefficient j i ≡ 0
      rows_zero h zero j l b i = absurd (omega arith)
      rows_zero h (suc d) j l b i =
          elim (dec_le (suc q * j) m) [
            | yes low ↦ row_zero j b (λ k a e. rows_zero h d k (omega arith) e) low (h.stair j b low) i
            | no high ↦ too_heavy j i b (omega arith)
          ]

      word_zero : Staircase q columns m places → (p : ℕ) → p < q * c → get_or (word_from u) p 0 ≡ 0
      word_zero h p l =
          let tl = column_of q pos c p l in
          let x = get_or columns (p / q) 0 in
          ap (λ (i : ℕ). get_or (word_from u) i 0) (sym (div-add-mod p q)) ∙ symbol (p / q) (p % q) tl (mod-lt p pos)
          ∙ value_zeros F q (in_x x) (column_y q columns (p / q) (p % q))
          (λ j b. value_zeros F c (coefficient j) x (λ i a. rows_zero h q j (omega arith) b i))

  -- ---- two words that agree

  module _ (places : List ℕ) (h : Staircase q columns m places) where
    -- A STAIRCASE FIXES THE CODEWORD
    pub staircase_fixes : (v w : List ℕ) → Vector (q * q) (size q m) v → Vector (q * q) (size q m) w
        → symbols_at places (word_from v) ≡ symbols_at places (word_from w) → v ≡ w
    staircase_fixes v w hv hw e =
        let u = add q columns over m v w in
        let sum : (p : ℕ) → p < q * c → get_or (word_from u) p 0 ≡ plus (get_or (word_from v) p 0) (get_or (word_from w) p 0) = word_add q columns over m v w in
        let none = word_zero u (add_message q columns over m v w hv hw) places (λ t s tl sl k.
        let (i, il, is) = get_or_mem places 0 k in
        let same = subst (λ (p : ℕ). get_or (word_from v) p 0 ≡ get_or (word_from w) p 0) is (of_symbols_same places (word_from v) (word_from w) e i il) in
        sum (q * t + s) (place_lt q t s c sl tl) ∙ ap (λ (x : ℕ). plus x (get_or (word_from w) (q * t + s) 0)) same
        ∙ plus_self (get_or (word_from w) (q * t + s) 0)) h in
        let long : (x : List ℕ) → length (word_from x) ≡ q * c = λ x. word_length q m over.curve x columns over.small in
        word_injective q columns over m order v w hv hw
        (ext_get_or 0 (word_from v) (word_from w) (long v ∙ sym (long w)) (λ p l.
        let b : p < q * c = omega (arith, long v) in
        eq_of_plus_zero (get_or (word_from v) p 0) (get_or (word_from w) p 0) (sym (sum p b) ∙ none p b)))

    pub staircase_alone : TwoAgree q columns m places → ⊥
    staircase_alone two =
        two.different (ap word_from (staircase_fixes two.one two.other two.one_message two.other_message two.agree))

    module _ (chosen : Places (size q m) (q * c) places) where
      pub staircase_fixing : Fixing q columns over m places chosen
      staircase_fixing = staircase_fixes

      pub staircase_information : T (is_information_set q columns m places)
      staircase_information = test_of_fixing q columns over m places chosen staircase_fixing

-- ---- the test

of_among : (xs : List ℕ) (p : ℕ) → T (is_among xs p) → Mem p xs
unfolding is_among
of_among [] p t = absurd t
of_among (x ∷ xs) p t = elim (of_or (eqb p x) (is_among xs p) t) [ inl e ↦ head (eqb→eq p x e) | inr i ↦ tail (of_among xs p i) ]

pub of_test : (q : ℕ) (columns : List ℕ) (m : ℕ) (places : List ℕ) → T (is_staircase q columns m places) → Staircase q columns m places
unfolding is_staircase
of_test q columns m places t =
    record {
      stair = λ j l low.
          let enough = implied (leb (suc q * j) m) (ltb (highest_x q m j) (length (columns_with q (length columns) places j)))
          (of_every q (λ j. not (leb (suc q * j) m) || ltb (highest_x q m j) (length (columns_with q (length columns) places j))) t j l) (le→leb (suc q * j) m low) in
          let test : ℕ → Bool = λ t. ltb j (length (held_by q places t)) in
          record {
            numbers = columns_with q (length columns) places j;
            distinct = nodup_passing test (length columns);
            enough = ltb→lt (highest_x q m j) (length (columns_with q (length columns) places j)) enough;
            small = λ t k. (of_mem_passing test (length columns) t k).0;
            holding = λ t k.
                let is : ℕ → Bool = λ s. is_among places (q * t + s) in
                record {
                  numbers = held_by q places t;
                  distinct = nodup_passing is q;
                  enough = ltb→lt j (length (held_by q places t)) (rw (of_mem_passing test (length columns) t k).1 tt);
                  small = λ s i. (of_mem_passing is q s i).0;
                  held = λ s i. of_among places (q * t + s) (rw (of_mem_passing is q s i).1 tt);
                };
          };
    }

-- ---- the light places: every order has a staircase of k places

module _ (q : ℕ) (columns : List ℕ) (over : Columns q columns) (m : ℕ) (order : m < q * length columns) where
  abbrev light : ℕ → Bool
  light p = leb (weight_of q p) m

  positive : 0 < q
  positive = curve_pos q over.curve

  light_place : (t s : ℕ) → s < q → q * t + suc q * s ≤ m → Mem (q * t + s) (light_places q (length columns) m)
  light_place t s l h =
      let e : q * ((q * t + s) % q) ≡ q * s = ap (λ (x : ℕ). q * x) (remainder q positive t s l) in
      mem_passing light (q * length columns) (q * t + s) (le-leb (weight_of q (q * t + s)) m (omega (arith, e, suc-mul q s))) (omega (arith, suc-mul q s))

  pub light_staircase : Staircase q columns m (light_places q (length columns) m)
  light_staircase =
      record {
        stair = λ j l low.
            let d = highest_x q m j in
            let below : (n x : ℕ) → Mem x (up_to n) → x < n = λ n x k. (of_mem_passing (λ i. true) n x k).0 in
            record {
              numbers = up_to (suc d);
              distinct = nodup_passing (λ i. true) (suc d);
              enough = omega (arith, length_up_to (suc d));
              small = λ t k. omega (arith, below (suc d) t k, highest_lt q positive m (length columns) order j);
              holding = λ t k. record {
                numbers = up_to (suc j);
                distinct = nodup_passing (λ i. true) (suc j);
                enough = omega (arith, length_up_to (suc j));
                small = λ s i. omega (arith, below (suc j) s i);
                held = λ s i. light_place t s (omega (arith, below (suc j) s i))
                    (let tl : t ≤ d = omega (arith, below (suc d) t k) in
                    let sl : s ≤ j = omega (arith, below (suc j) s i) in
                    omega (arith, low, mul-le-mul_left q tl, mul-le-mul_left (suc q) sl, div-add-mod (m - suc q * j) q));
              };
            };
      }

  same_many : length (light_places q (length columns) m) ≡ size q m
  same_many = omega (arith, length_entries q m, listed, unlisted)
    where
      listed : length (light_places q (length columns) m) ≤ length (entries_of q m)
      listed =
          pigeonhole (light_places q (length columns) m) (entries_of q m) (nodup_passing light (q * length columns)) (λ p k.
          let (l, t) = of_mem_passing light (q * length columns) p k in
          subst (λ (x : ℕ). Mem x (entries_of q m)) (entry_of_weight q positive p)
          (Memᴰ.map (entry_of q) (mem_passing (is_term q) (suc m) (weight_of q p) (entry_term q positive p) (omega (arith, leb-true (weight_of q p) m t)))))

      back : (w : ℕ) → Mem w (weights q m) → weight_of q (entry_of q w) ≡ w
      back w k = weight_of_entry q positive w (of_mem_passing (is_term q) (suc m) w k).1

      unlisted : length (entries_of q m) ≤ length (light_places q (length columns) m)
      unlisted =
          pigeonhole (entries_of q m) (light_places q (length columns) m)
          (nodup_map (entry_of q) (weights q m) (λ v w hv hw e. sym (back v hv) ∙ ap (weight_of q) e ∙ back w hw) (weights_once q positive m))
          (λ p k.
          let (w, i, e) = Memᴰ.of_map (entry_of q) (weights q m) k in
          let h = (of_mem_passing (is_term q) (suc m) w i).0 in
          subst (λ (x : ℕ). Mem x (light_places q (length columns) m)) e
          (mem_passing light (q * length columns) (entry_of q w) (le-leb (weight_of q (entry_of q w)) m (omega (arith, back w i))) (omega arith)))

  pub light_places_lem : Places (size q m) (q * length columns) (light_places q (length columns) m)
  light_places_lem =
      record {
        many = same_many;
        ascending = λ i j a b. passing_ascending light (q * length columns) i j a b;
        below = λ i a. (at_place light (q * length columns) i a).0;
      }

  -- so every order has an information set
  pub light_fixing : Fixing q columns over m (light_places q (length columns) m) light_places_lem
  light_fixing = staircase_fixing q columns over m order (light_places q (length columns) m) light_staircase light_places_lem

-- ---- the strap's: six columns whole, three places of the next, two of each of two more, and one of another

abbrev pub strap_staircase : List ℕ
strap_staircase =
    0 ∷ 1 ∷ 2 ∷ 3 ∷ 4 ∷ 5 ∷ 6 ∷ 7 ∷ 8 ∷ 9 ∷ 10 ∷ 11 ∷ 12 ∷ 13 ∷ 14 ∷ 15 ∷ 16 ∷ 17 ∷ 18 ∷ 19 ∷ 20 ∷ 21 ∷ 22 ∷ 23
    ∷ 24 ∷ 25 ∷ 26 ∷ 28 ∷ 29 ∷ 32 ∷ 33 ∷ 36 ∷ []

pub strap_light : light_places 4 16 37 ≡ strap_staircase
unfolding passing
strap_light = refl

pub strap_curve : IsCurve 4
strap_curve = inr (inl refl)

-- in either series
module _ (series : ℕ) where
  pub strap_staircase_lem : Staircase 4 (columns_of 4 series) 37 strap_staircase
  unfolding is_staircase is_among passing every
  strap_staircase_lem = of_test 4 (columns_of 4 series) 37 strap_staircase (rw (length_columns 4 series strap_curve) tt)

  pub strap_places : Places (size 4 37) (4 * length (columns_of 4 series)) strap_staircase
  unfolding good_places is_ascending_below is_ascending are_below passing every
  strap_places = rw (length_columns 4 series strap_curve) (of_good 32 64 strap_staircase tt)

  strap_order : 37 < 4 * length (columns_of 4 series)
  strap_order = omega (arith, length_columns 4 series strap_curve)

  pub strap_fixing : Fixing 4 (columns_of 4 series) (full_columns 4 series strap_curve) 37 strap_staircase strap_places
  strap_fixing = staircase_fixing 4 (columns_of 4 series) (full_columns 4 series strap_curve) 37 strap_order strap_staircase strap_staircase_lem strap_places

  pub strap_information : T (is_information_set 4 (columns_of 4 series) 37 strap_staircase)
  strap_information = staircase_information 4 (columns_of 4 series) (full_columns 4 series strap_curve) 37 strap_order strap_staircase strap_staircase_lem strap_places
