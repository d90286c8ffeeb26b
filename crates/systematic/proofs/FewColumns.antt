-- Places that lie in too few columns don't fix the codeword: the polynomial that is 0 on c columns, the product of their x + a, has order q·c.
-- Where that is at most m, it is a message whose word is 0 at all of the places, though not everywhere.
-- Assumes nothing.
use mathlib.Core.Bool.{Bool, true, false, cond}
use mathlib.Core.List.Memᴰ
use mathlib.Core.List.Memᴰ.{head}
use mathlib.Core.List.Memᴰ.{tail}
use mathlib.Core.List.{List, [], ◌∷◌, map, Memᴰ as Mem}
use mathlib.Core.List.Memᴰ.{cases_cons}
use mathlib.Core.List.Memᴰ.{not-nil}
use mathlib.Core.Logic.{◌⊎◌, inl, inr}
use mathlib.Core.Path.{◌≡◌, refl, sym, ap, ap₂, ◌∙◌, subst}
use Prim.Native.Nat.{ℕ, suc, ◌+◌, ◌-◌, ◌*◌, ◌/◌, ◌%◌, ◌≤◌, ◌<◌}
use native.Mathlib.Nat.{mul-suc, mul-le-mul_left, div-add-mod, mod-lt}
use native.Mathlib.Decide.{ℕ_discrete, dec_lt}
use native.Mathlib.Omega.{arith}
use borrow.Author.Tests.{ne_eqb}
use lib.Dec.{eqb}
use lib.ListN.{length, get_or, take, length-map}
use lib.Seq.{length-take-le, get_or-take}
use Rattle.field.specs.Plus.{plus}
use Rattle.field.specs.Field.{Field}
use Rattle.field.specs.Power.{power}
use Rattle.field.specs.Sum.{sum}
use Rattle.field.specs.Curve.{IsCurve}
use Rattle.field.proofs.Plus.{plus_self, plus_ac, eq_of_plus_zero}
use Rattle.field.proofs.Fields.{field_of}
use Rattle.field.proofs.FieldLaws.{zero_lt, times_zero, zero_times, times_one_right, times_ne_zero}
use Rattle.field.proofs.Powers.{power_zero, power_one}
use Rattle.field.proofs.Sums.{sum_single}
use Rattle.field.proofs.Curves.{each_curve, sizes}
use Rattle.poly.specs.Messages.{Vector}
use Rattle.poly.proofs.Keep.{keep, keep_zero}
use Rattle.poly.proofs.Lists.{find, pigeonhole, mem_get_or, get_or_mem, mem_flat_map}
use Rattle.points.specs.Passing.{passing, up_to}
use Rattle.points.specs.Points.{ys_of, points_on}
use Rattle.points.specs.Series.{columns_of}
use Rattle.points.specs.Inner.Columns.{Columns}
use Rattle.points.proofs.ColumnPoints.{length_ys, length_up_to, up_to_at}
use Rattle.points.proofs.Series.{full_columns, length_columns, full_places}
use Rattle.points.proofs.Places.{column_of}
use Rattle.points.proofs.Points.{IsPoint, is_point}
use Rattle.code.specs.Terms.{is_term, x_power, y_power, size}
use Rattle.code.specs.Word.{value_at, word_of}
use Rattle.code.proofs.Coefficients.{value_by_weight, message_of, value_of_message, vector_message}
use Rattle.code.proofs.Weights.{curve_pos}
use Rattle.code.proofs.Word.{value_lt}
use Rattle.code.proofs.WordColumns.{word_at}
use Rattle.code.proofs.Zeros.{product_message}
use Rattle.systematic.specs.InformationSets.{TwoAgree}
use Rattle.systematic.proofs.PlaceLists.{Places}
use Rattle.systematic.proofs.InformationSets.{add, add_message, word_add, symbols_same, Fixing, two_or_fixing}

in_or_not : (xs : List ℕ) (x : ℕ) → (Mem x xs → ⊥) ⊎ Mem x xs
in_or_not xs x = elim (find (λ (y : ℕ). x ≡ y) (λ y. x ≡ y → ⊥) (λ y. elim (ℕ_discrete x y) [ yes e ↦ inl e | no d ↦ inr d ]) xs) [
  | inl w ↦ inr (subst (λ (y : ℕ). Mem y xs) (sym w.2) w.1)
  | inr none ↦ inl (λ k. none x k refl)
]

-- ---- the polynomial

-- the constant 1, and x + a, by weight
abbrev one : ℕ → ℕ
one w = cond (eqb w 0) 1 0

abbrev linear : ℕ → ℕ → ℕ → ℕ
linear q a w = cond (eqb w 0) a (cond (eqb w q) 1 0)

module _ (F : Field) where
  constant_term : (a x y : ℕ) → a < F.size → F.times a (F.times (power F x 0) (power F y 0)) ≡ a
  constant_term a x y l =
      ap₂ (λ (s t : ℕ). F.times a (F.times s t)) (power_zero F x) (power_zero F y)
      ∙ ap (F.times a) (F.times_one 1 F.two_le) ∙ times_one_right F a l

  x_term : (x y : ℕ) → x < F.size → F.times 1 (F.times (power F x 1) (power F y 0)) ≡ x
  x_term x y l =
      ap₂ (λ (s t : ℕ). F.times 1 (F.times s t)) (power_one F x l) (power_zero F y)
      ∙ ap (F.times 1) (times_one_right F x l) ∙ F.times_one x l

one_at_zero : (q : ℕ) → IsCurve q → (x y : ℕ)
    → keep (is_term q 0) ((field_of q).times 1 ((field_of q).times (power (field_of q) x (x_power q 0)) (power (field_of q) y (y_power q 0)))) ≡ 1
unfolding keep
one_at_zero =
    each_curve
    (λ q. (x y : ℕ) → keep (is_term q 0) ((field_of q).times 1 ((field_of q).times (power (field_of q) x (x_power q 0)) (power (field_of q) y (y_power q 0)))) ≡ 1)
    (λ x y. constant_term (field_of 2) 1 x y (field_of 2).two_le) (λ x y. constant_term (field_of 4) 1 x y (field_of 4).two_le)
    (λ x y. constant_term (field_of 8) 1 x y (field_of 8).two_le)

one_value : (q : ℕ) → IsCurve q → (d x y : ℕ) → value_by_weight (field_of q) q d one x y ≡ 1
unfolding value_by_weight
one_value q curve d x y =
    let F = field_of q in
    let f : ℕ → ℕ = λ w. keep (is_term q w) (F.times (one w) (F.times (power F x (x_power q w)) (power F y (y_power q w)))) in
    sum_single (suc d) 0 f (omega arith) (λ i l n. keep_zero (is_term q i) _ (λ t. rw (ne_eqb i 0 n) (zero_times F (F.times (power F x (x_power q i)) (power F y (y_power q i))))))
    ∙ one_at_zero q curve x y

linear_value : (q : ℕ) → IsCurve q → (a x y : ℕ) → a < (field_of q).size → x < (field_of q).size → value_by_weight (field_of q) q q (linear q a) x y ≡ plus a x
unfolding value_by_weight sum keep
linear_value = each_curve (λ q. (a x y : ℕ) → a < (field_of q).size → x < (field_of q).size → value_by_weight (field_of q) q q (linear q a) x y ≡ plus a x)
    (λ a x y al xl. ap₂ (λ (s t : ℕ). plus (plus (plus 0 s) 0) t) (constant_term (field_of 2) a x y al) (x_term (field_of 2) x y xl) ∙ simp plus_ac refl)
    (λ a x y al xl. ap₂ (λ (s t : ℕ). plus (plus (plus (plus (plus 0 s) 0) 0) 0) t) (constant_term (field_of 4) a x y al) (x_term (field_of 4) x y xl) ∙ simp plus_ac refl)
    (λ a x y al xl. ap₂ (λ (s t : ℕ). plus (plus (plus (plus (plus (plus (plus (plus (plus 0 s) 0) 0) 0) 0) 0) 0) 0) t)
    (constant_term (field_of 8) a x y al) (x_term (field_of 8) x y xl) ∙ simp plus_ac refl)

bit_lt : (F : Field) (b : Bool) → cond b 1 0 < F.size
bit_lt F true = F.two_le
bit_lt F false = zero_lt F

linear_lt : (F : Field) (b c : Bool) (a : ℕ) → a < F.size → cond b a (cond c 1 0) < F.size
linear_lt F true c a l = l
linear_lt F false c a l = bit_lt F c

module _ (q : ℕ) (columns : List ℕ) (over : Columns q columns) where
  abbrev points : List (ℕ × ℕ)
  points = points_on q columns

  abbrev Symbol : ℕ → Type 0
  Symbol x = x < (field_of q).size

  of_column : (x : ℕ) → Mem x columns → x < q * q
  of_column x k = let (t, l, e) = get_or_mem columns 0 k in rw (← e) (over.small t l)

  point : (p : ℕ × ℕ) → Mem p points → IsPoint q p
  point = is_point q over.curve columns of_column

  -- a message of order o that is 0 exactly on these columns
  record Vanishing (xs : List ℕ) (o : ℕ) : Type 0 where
    message : List ℕ
    vector : Vector (field_of q).size (size q o) message
    vanishes : (p : ℕ × ℕ) → Mem p points → Mem p.0 xs → value_at q o message p.0 p.1 ≡ 0
    elsewhere : (p : ℕ × ℕ) → Mem p points → (Mem p.0 xs → ⊥) → value_at q o message p.0 p.1 ≡ 0 → ⊥

  -- x + a times one that is 0 on the others
  vanishing_next : (a : ℕ) (xs : List ℕ) (o : ℕ) → Symbol a → Vanishing xs o → Vanishing (a ∷ xs) (q + o)
  vanishing_next a xs o al r =
      let F = field_of q in
      let low = message_of q q (linear q a) in
      let (e, l, at) = product_message q (sizes q over.curve).low points (λ p k. (point p k).on) q o low r.message in
      let value : (p : ℕ × ℕ) → Mem p points → value_at q (q + o) e p.0 p.1 ≡ F.times (plus a p.0) (value_at q o r.message p.0 p.1) =
      λ p k. at p k ∙ ap (λ (s : ℕ). F.times s (value_at q o r.message p.0 p.1))
      (value_of_message q q (linear q a) p.0 p.1 ∙ linear_value q over.curve a p.0 p.1 al (point p k).x_symbol) in
      record {
        message = e;
        vector = l;
        vanishes = λ p k i. value p k ∙ elim (cases_cons i) [
          | inl s ↦ ap (λ (b : ℕ). F.times b (value_at q o r.message p.0 p.1)) (ap (plus a) s ∙ plus_self a) ∙ zero_times F (value_at q o r.message p.0 p.1)
          | inr j ↦ ap (F.times (plus a p.0)) (r.vanishes p k j) ∙ times_zero F (plus a p.0)
        ];
        elsewhere = λ p k n z.
            times_ne_zero F (plus a p.0) (value_at q o r.message p.0 p.1) (F.plus_lt a p.0 al (point p k).x_symbol)
            (value_lt q o r.message p.0 p.1) (λ s. n (head (sym (eq_of_plus_zero a p.0 s)))) (r.elsewhere p k (λ j. n (tail j)))
            (sym (value p k) ∙ z);
      }

  vanishing : (xs : List ℕ) → ((x : ℕ) → Mem x xs → Symbol x) → (d o : ℕ) → o ≡ q * length xs + d → Vanishing xs o
  vanishing [] h d o e =
      let value : (x y : ℕ) → value_at q o (message_of q o one) x y ≡ 1 = λ x y. value_of_message q o one x y ∙ one_value q over.curve o x y in
      record {
        message = message_of q o one;
        vector = vector_message q o (field_of q).size one (λ w. bit_lt (field_of q) (eqb w 0));
        vanishes = λ p k i. absurd (not-nil i);
        elsewhere = λ p k n z. omega (arith, value p.0 p.1);
      }
  vanishing (a ∷ xs) h d o e =
      let s : q + (q * length xs + d) ≡ o = omega (arith, mul-suc q (length xs)) in
      subst (Vanishing (a ∷ xs)) s
      (vanishing_next a xs (q * length xs + d) (h a (head refl)) (vanishing xs (λ x k. h x (tail k)) d (q * length xs + d) refl))

  -- ---- places in columns

  mem_point : (t s : ℕ) → t < length columns → s < q → Mem (get_or columns t 0, get_or (ys_of q (get_or columns t 0)) s 0) points
  unfolding points_on
  mem_point t s tl sl =
      let x = get_or columns t 0 in
      mem_flat_map (λ (x : ℕ). map (λ (y : ℕ). (x, y)) (ys_of q x)) columns (mem_get_or columns 0 t tl)
      (Memᴰ.map (λ (y : ℕ). (x, y)) (mem_get_or (ys_of q x) 0 s (rw (length_ys q over.curve x (over.small t tl)) sl)))

  module _ (m : ℕ) (order : m < q * length columns) (places : List ℕ) (chosen : Places (size q m) (q * length columns) places)
      (xs : List ℕ) (symbols : (x : ℕ) → Mem x xs → x < q * q) (few : q * length xs ≤ m)
      (inside : (i : ℕ) → i < length places → Mem (get_or columns (get_or places i 0 / q) 0) xs) where
    pos : 0 < q
    pos = curve_pos q over.curve

    is_size : (field_of q).size ≡ q * q
    is_size = (sizes q over.curve).size

    polynomial : Vanishing xs m
    polynomial = vanishing xs (λ x k. rw is_size (symbols x k)) (m - q * length xs) m (omega arith)

    -- there are more columns than those
    other_column : (t : ℕ) × (t < length columns) × (Mem (get_or columns t 0) xs → ⊥)
    other_column = elim (find (λ (x : ℕ). Mem x xs → ⊥) (λ x. Mem x xs) (in_or_not xs) columns) [
      | inl w ↦ let (t, l, e) = get_or_mem columns 0 w.1 in (t, l, rw e w.2)
      | inr every ↦ absurd (omega (arith, mul-le-mul_left q (pigeonhole columns xs over.distinct every)))
    ]

    zero_at : (i : ℕ) → i < length places → get_or (word_of q columns m polynomial.message) (get_or places i 0) 0 ≡ 0
    zero_at i k =
        let p = get_or places i 0 in
        let column : p / q < length columns = column_of q pos (length columns) p (chosen.below i k) in
        ap (λ (i : ℕ). get_or (word_of q columns m polynomial.message) i 0) (sym (div-add-mod p q))
        ∙ word_at q m over.curve polynomial.message columns over.small (p / q) (p % q) column (mod-lt p pos)
        ∙ polynomial.vanishes (get_or columns (p / q) 0, get_or (ys_of q (get_or columns (p / q) 0)) (p % q) 0) (mem_point (p / q) (p % q) column (mod-lt p pos)) (inside i k)

    not_fixed : Fixing q columns over m places chosen → ⊥
    not_fixed h =
        let v = polynomial.message in
        let hv : Vector (q * q) (size q m) v = subst (λ (Q : ℕ). Vector Q (size q m) v) is_size polynomial.vector in
        let w = add q columns over m v v in
        let (t, tl, n) = other_column in
        let pl : q * t + 0 < q * length columns = omega (arith, pos, mul-suc q t, mul-le-mul_left q tl) in
        let same : v ≡ w = h v w hv (add_message q columns over m v v hv hv) (symbols_same places (word_of q columns m v) (word_of q columns m w)
        (λ i k. zero_at i k ∙ sym (word_add q columns over m v v (get_or places i 0) (chosen.below i k) ∙ plus_self (get_or (word_of q columns m v) (get_or places i 0) 0)))) in
        polynomial.elsewhere (get_or columns t 0, get_or (ys_of q (get_or columns t 0)) 0 0) (mem_point t 0 tl pos) n
        (sym (word_at q m over.curve v columns over.small t 0 tl pos)
        ∙ ap (λ (u : List ℕ). get_or (word_of q columns m u) (q * t + 0) 0) same
        ∙ word_add q columns over m v v (q * t + 0) pl ∙ plus_self (get_or (word_of q columns m v) (q * t + 0) 0))

    -- PLACES IN c COLUMNS, q·c ≤ m, DON'T FIX THE CODEWORD
    pub few_columns : TwoAgree q columns m places
    few_columns = elim (two_or_fixing q columns over m places chosen order) [ inl two ↦ two | inr h ↦ absurd (not_fixed h) ]

-- over all columns, by their numbers
pub few_of_all_columns : (q series : ℕ) → IsCurve q → (m : ℕ) → m < q * q * q → (places : List ℕ) → Places (size q m) (q * q * q) places
    → (ts : List ℕ) → ((t : ℕ) → Mem t ts → t < q * q) → q * length ts ≤ m
    → ((i : ℕ) → i < length places → Mem (get_or places i 0 / q) ts) → TwoAgree q (columns_of q series) m places
few_of_all_columns q series curve m order places chosen ts small few inside =
    let column : ℕ → ℕ = λ t. get_or (columns_of q series) t 0 in
    few_columns q (columns_of q series) (full_columns q series curve) m (omega (arith, full_places q series curve)) places
    (rw (full_places q series curve) chosen) (map column ts)
    (λ x k.
    let (t, i, e) = Memᴰ.of_map column ts k in
    rw (← e) ((full_columns q series curve).small t (omega (arith, length_columns q series curve, small t i))))
    (omega (arith, ap (λ (n : ℕ). q * n) (length-map ts column)))
    (λ i k. Memᴰ.map column (inside i k))

-- ---- the first k places

-- k of them, ascending
pub first_places : (k n : ℕ) → k ≤ n → Places k n (up_to k)
first_places k n l =
    record {
      many = length_up_to k;
      ascending = λ i j a b.
          let h : j < k = omega (arith, length_up_to k) in
          rw (up_to_at k i (omega arith), up_to_at k j h) a;
      below = λ i a.
          let h : i < k = omega (arith, length_up_to k) in
          rw (up_to_at k i h) (omega arith);
    }

-- where c columns hold k places, and q·c ≤ m, the first k places don't fix the codeword
pub first_few : (q : ℕ) (columns : List ℕ) → Columns q columns → (m : ℕ) → m < q * length columns → (c : ℕ) → size q m ≤ q * c → q * c ≤ m
    → TwoAgree q columns m (up_to (size q m))
first_few q columns over m order c room few =
    let k = size q m in
    let within : c < length columns = elim (dec_lt c (length columns)) [ yes l ↦ l | no d ↦ absurd (omega (arith, mul-le-mul_left {m = length columns} {n = c} q (omega arith))) ] in
    let long : length (take c columns) ≡ c = length-take-le c columns (omega arith) in
    few_columns q columns over m order (up_to k) (first_places k (q * length columns) (omega arith)) (take c columns)
    (λ x a. let (t, l, e) = get_or_mem (take c columns) 0 a in rw (← e, get_or-take c columns t 0 (omega arith)) (over.small t (omega arith)))
    (rw long few)
    (λ i a.
    let h : i < k = omega (arith, length_up_to k) in
    let b : i / q < c = column_of q (curve_pos q over.curve) c i (omega arith) in
    rw (up_to_at k i h, ← get_or-take c columns (i / q) 0 b) (mem_get_or (take c columns) 0 (i / q) (rw long b)))

-- the strap's first eight columns, which hold its k = 32 places
pub first_columns : (series : ℕ) → TwoAgree 4 (columns_of 4 series) 37 (up_to 32)
unfolding passing
first_columns series =
    let curve = inr (inl refl) in
    first_few 4 (columns_of 4 series) (full_columns 4 series curve) 37 (omega (arith, full_places 4 series curve)) 8 (omega arith) (omega arith)
