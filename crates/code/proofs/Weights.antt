-- The terms x^i y^j with j < q and weight q i + (q + 1) j at most m are those of `weights q m`, each once, and how many they are.
-- Assumes nothing.
use mathlib.Core.Bool.{true, false}
use mathlib.Core.Path.{◌≡◌, refl, sym, ap, ap₂, ◌∙◌}
use Prim.Native.Nat.{ℕ, zero, suc, ◌+◌, ◌-◌, ◌*◌, ◌/◌, ◌%◌, ◌≤◌, ◌<◌}
use native.Mathlib.Decide.{le_ind, dec_lt}
use native.Mathlib.Nat.{div-add-mod, mod-lt, mul-sub, mul-add, suc-mul, mul-le-mul_left}
use native.Mathlib.Nat.{add-zero, le-div_iff_mul-le, mul_comm, mul-suc, mul-zero, add-suc, add-mul, mul-le-mul}
use native.Mathlib.Numerals.{add-one}
use native.Mathlib.Omega.{arith}
use borrow.Author.Tests.{le-leb, lt-leb, leb-true}
use lib.ListN.{get_or}
use Rattle.field.specs.Curve.{IsCurve, curve_of}
use Rattle.field.proofs.Curves.{sizes}
use Rattle.poly.specs.Lists.{Nodup}
use Rattle.points.specs.Passing.{passing}
use Rattle.points.proofs.Places.{quotient, remainder}
use Rattle.points.proofs.Passing.{passing_at, at_place, place_lt, place_true, place_false, place_le, place_bound, nodup_passing}
use Rattle.code.specs.Terms.{is_term, x_power, y_power, weights, size}
use Rattle.code.specs.Inner.Grid.{weight_of, entry_of, rank, WeightOfTerm}

pub curve_pos : (q : ℕ) → IsCurve q → 0 < q
curve_pos q curve = omega (arith, (sizes q curve).low)

pub rank_zero : (q : ℕ) → 0 ≡ rank q 0
unfolding passing
rank_zero q = refl

module _ (q : ℕ) (pos : 0 < q) where
  pub term_le : (w : ℕ) → is_term q w ≡ true → w % q ≤ w / q
  term_le w t = leb-true (w % q) (w / q) t

  -- a weight is that of its exponents
  pub weight_of_powers_lem : (w : ℕ) → is_term q w ≡ true → q * x_power q w + suc q * y_power q w ≡ w
  weight_of_powers_lem w t =
      omega
      (arith, mul-sub q (w / q) (w % q), suc-mul q (w % q), div-add-mod w q, mul-le-mul_left q (term_le w t), term_le w t)

  pub y_lt : (w : ℕ) → y_power q w < q
  y_lt w = mod-lt w pos

  -- and the exponents i, j with j < q are those of their weight, which is a term's
  regroup : (i j : ℕ) → q * i + suc q * j ≡ q * (i + j) + j
  regroup i j = omega (arith, mul-add q i j, suc-mul q j)

  pub y_of_weight : (i j : ℕ) → j < q → y_power q (q * i + suc q * j) ≡ j
  y_of_weight i j l = rw (regroup i j) (remainder q pos (i + j) j l)

  quotient_of_weight : (i j : ℕ) → j < q → (q * i + suc q * j) / q ≡ i + j
  quotient_of_weight i j l = rw (regroup i j) (quotient q pos (i + j) j l)

  pub x_of_weight : (i j : ℕ) → j < q → x_power q (q * i + suc q * j) ≡ i
  x_of_weight i j l = omega (arith, quotient_of_weight i j l, y_of_weight i j l)

  pub term_of_weight : (i j : ℕ) → j < q → is_term q (q * i + suc q * j) ≡ true
  term_of_weight i j l =
      le-leb ((q * i + suc q * j) % q) ((q * i + suc q * j) / q) (omega (arith, quotient_of_weight i j l, y_of_weight i j l))

  -- the terms of the order m: each pair of exponents with a weight up to m has a place in the list, and only these stand there
  pub term_listed : (m i j : ℕ) → j < q → q * i + suc q * j ≤ m
      → (n : ℕ) × (n < size q m) × (get_or (weights q m) n 0 ≡ q * i + suc q * j)
  term_listed m i j l b =
      let t = term_of_weight i j l in (
        rank q (q * i + suc q * j),
        place_lt (is_term q) (q * i + suc q * j) (suc m) t (omega arith),
        passing_at (is_term q) (suc m) (q * i + suc q * j) t (omega arith),
      )

  pub listed_term : (m n : ℕ) → n < size q m
      → (i : ℕ) × (j : ℕ) × (j < q) × (q * i + suc q * j ≡ get_or (weights q m) n 0) × (get_or (weights q m) n 0 ≤ m)
  listed_term m n l =
      let a = at_place (is_term q) (suc m) n l in
      let w : ℕ = get_or (weights q m) n 0 in
      (x_power q w, y_power q w, y_lt w, weight_of_powers_lem w a.1, omega (arith, a.0))

  -- each once: no weight stands twice, and no two weights have the same exponents
  pub weights_once : (m : ℕ) → Nodup (weights q m)
  weights_once m = nodup_passing (is_term q) (suc m)

  pub powers_determine : (v w : ℕ) → is_term q v ≡ true → is_term q w ≡ true → x_power q v ≡ x_power q w → y_power q v ≡ y_power q w → v ≡ w
  powers_determine v w s t e f =
      sym (weight_of_powers_lem v s) ∙ ap₂ (λ (i j : ℕ). q * i + suc q * j) e f ∙ weight_of_powers_lem w t

  -- the curve's own numbers: x has the weight weight_x and y the weight weight_y, and a term the weights of its factors
  pub curve_weight : (m n : ℕ) → n < size q m → let w = get_or (weights q m) n 0 in
      w ≡ (curve_of q).weight_x * x_power q w + (curve_of q).weight_y * y_power q w
  curve_weight m n l =
      let w : ℕ = get_or (weights q m) n 0 in
      sym (weight_of_powers_lem w (at_place (is_term q) (suc m) n l).1) ∙ ap (λ (v : ℕ). q * x_power q w + v * y_power q w) (sym (add-one q))

  -- from q (q - 1) on every number is the weight of a term
  pub large_term : (w : ℕ) → q * (q - 1) ≤ w → is_term q w ≡ true
  large_term w l =
      le-leb (w % q) (w / q)
      (omega (arith, mod-lt w pos, (le-div_iff_mul-le {x = q - 1} {y = w} pos).1 (rw (mul_comm (q - 1) q) l)))

  -- row a, of the numbers from q a to q a + q - 1, begins with a + 1 weights while a is below q, and has no others
  row_term : (a b : ℕ) → b ≤ a → b < q → is_term q (q * a + b) ≡ true
  row_term a b l k = rw (remainder q pos a b k, quotient q pos a b k) (le-leb b a l)

  row_gap : (a b : ℕ) → a < b → b < q → is_term q (q * a + b) ≡ false
  row_gap a b l k = rw (remainder q pos a b k, quotient q pos a b k) (lt-leb b a l)

  row_terms : (a b : ℕ) → b ≤ suc a → suc a ≤ q → rank q (q * a + b) ≡ rank q (q * a) + b
  row_terms a zero l k = ap (rank q) (add-zero (q * a)) ∙ sym (add-zero (rank q (q * a)))
  row_terms a (suc b) l k =
      ap (rank q) (add-suc (q * a) b) ∙ place_true (is_term q) (q * a + b) (row_term a b (omega arith) (omega arith))
      ∙ ap suc (row_terms a b (omega arith) k) ∙ sym (add-suc (rank q (q * a)) b)

  row_gaps : (a : ℕ) → suc a ≤ q → (b : ℕ) → suc a ≤ b → b ≤ q → rank q (q * a + b) ≡ rank q (q * a) + suc a
  row_gaps a k b l =
      le_ind (λ (b : ℕ). b ≤ q → rank q (q * a + b) ≡ rank q (q * a) + suc a) (λ h. row_terms a (suc a) (omega arith) k)
      (λ b g ih h. ap (rank q) (add-suc (q * a) b) ∙ place_false (is_term q) (q * a + b) (row_gap a b (omega arith) (omega arith))
      ∙ ih (omega arith)) b l

  -- so the first a rows have 1 + 2 + .. + a weights
  rows_below : (a : ℕ) → a ≤ q → 2 * rank q (q * a) ≡ a * suc a
  rows_below zero l = ap (λ (w : ℕ). 2 * rank q w) (mul-zero q) ∙ ap (λ (n : ℕ). 2 * n) (sym (rank_zero q))
  rows_below (suc a) l =
      let e : rank q (q * suc a) ≡ rank q (q * a) + suc a = ap (rank q) (mul-suc q a) ∙ row_gaps a l q l (omega arith) in
      omega (arith, e, rows_below a (omega arith), suc-mul a (suc (suc a)), mul-suc a (suc a))

  -- the first q - 1 of them have as many weights as the genus says, which is q (q - 1) / 2
  rows_genus : 2 * rank q (q * (q - 1)) ≡ q * (q - 1)
  rows_genus =
      let last : suc (q - 1) ≡ q = omega arith in
      rows_below (q - 1) (omega arith) ∙ ap (λ (n : ℕ). (q - 1) * n) last ∙ mul_comm (q - 1) q

  pub twice_genus : 2 * (curve_of q).genus ≡ q * (q - 1)
  twice_genus = omega (arith, rows_genus)

  -- from 2g on each number is the weight of the term whose number is g less
  rank_from_genus : (w : ℕ) → q * (q - 1) ≤ w → rank q w ≡ w - (curve_of q).genus
  rank_from_genus w l =
      le_ind (λ (w : ℕ). rank q w ≡ w - q * (q - 1) / 2) (omega (arith, rows_genus))
      (λ w g ih. place_true (is_term q) w (large_term w g) ∙ omega (arith, ih)) w l

  pub high_weight : (n : ℕ) → (curve_of q).genus ≤ n → WeightOfTerm q n (n + (curve_of q).genus)
  high_weight n l =
      let k : q * (q - 1) ≤ n + (curve_of q).genus = omega (arith, twice_genus) in
      (large_term (n + (curve_of q).genus) k, rank_from_genus (n + (curve_of q).genus) k ∙ omega arith)

  -- "from m = 2g - 1 on it is m + 1 - g"
  pub size_from_genus : (m : ℕ) → q * (q - 1) ≤ m + 1 → size q m ≡ m + 1 - (curve_of q).genus
  size_from_genus m l = rw (add-one m) (rank_from_genus (suc m) (omega arith))

  -- before, term n is in the row that the terms before it fill up, and the last row counts up to m
  pub low_weight : (a b n : ℕ) → 2 * b ≡ a * suc a → a < q → b ≤ n → n ≤ b + a → WeightOfTerm q n (q * a + (n - b))
  low_weight a b n e l h k =
      (row_term a (n - b) (omega arith) (omega arith), row_terms a (n - b) (omega arith) l ∙ omega (arith, e, rows_below a (omega arith)))

  pub low_size : (m a b : ℕ) → a ≡ m / q → b ≡ m % q → a < q
      → (b ≤ a → size q m ≡ a * (a + 1) / 2 + b + 1) × (a ≤ b → size q m ≡ a * (a + 1) / 2 + a + 1)
  low_size m a b d e l =
      let s : suc m ≡ q * a + suc b = omega (arith, div-add-mod m q, ap (λ (x : ℕ). q * x) d, e, add-suc (q * a) b) in
      let small : b < q = rw e (mod-lt m pos) in
      let r : 2 * rank q (q * a) ≡ a * (a + 1) = rows_below a (omega arith) ∙ ap (λ (x : ℕ). a * x) (sym (add-one a)) in (
        (λ k. ap (rank q) s ∙ row_terms a (suc b) (omega arith) l ∙ omega (arith, r)),
        (λ k. ap (rank q) s ∙ row_gaps a l (suc b) (omega arith) small ∙ omega (arith, r)),
      )

  pub low_row : (m : ℕ) → m + 1 < q * (q - 1) → m / q < q
  low_row m l =
      let less : q - 1 ≤ q = omega arith in
      elim (dec_lt (m / q) q) [
        | yes h ↦ h
        | no d ↦ let i : q ≤ m / q = omega arith in absurd (omega (arith, div-add-mod m q, mul-le-mul_left q i, mul-le-mul_left q less))
      ]

  -- a row that has terms below the genus is below q
  pub row_lt : (a : ℕ) → a * suc a < q * (q - 1) → a < q
  row_lt a l =
      elim (dec_lt a q) [
        | yes h ↦ h
        | no d ↦ let i : q ≤ a = omega arith in let j : q - 1 ≤ suc a = omega arith in absurd (omega (arith, mul-le-mul i j))
      ]

  -- the weight of term n is that number of the list
  pub weight_number : (n w : ℕ) → WeightOfTerm q n w → (m : ℕ) → n < size q m → (w ≤ m) × (get_or (weights q m) n 0 ≡ w)
  weight_number n w h m l =
      let b : w < suc m = elim (dec_lt w (suc m)) [ yes h ↦ h | no d ↦ absurd (omega (arith, h.1, place_le (is_term q) (suc m) w (omega arith))) ] in
      (omega arith, ap (λ (i : ℕ). get_or (weights q m) i 0) (sym h.1) ∙ passing_at (is_term q) (suc m) w h.0 b)

  -- the entry of a weight, and the weight of an entry
  entry_digits : (w : ℕ) → is_term q w ≡ true → entry_of q w ≡ q * x_power q w + y_power q w
  entry_digits w t =
      omega (arith, mul-sub q (w / q) (w % q), div-add-mod w q, mul-le-mul_left q (term_le w t))

  pub entry_x : (w : ℕ) → is_term q w ≡ true → entry_of q w / q ≡ x_power q w
  entry_x w t = rw (entry_digits w t) (quotient q pos (x_power q w) (y_power q w) (y_lt w))

  pub entry_y : (w : ℕ) → is_term q w ≡ true → entry_of q w % q ≡ y_power q w
  entry_y w t = rw (entry_digits w t) (remainder q pos (x_power q w) (y_power q w) (y_lt w))

  pub weight_of_entry : (w : ℕ) → is_term q w ≡ true → weight_of q (entry_of q w) ≡ w
  weight_of_entry w t =
      rw (entry_y w t) (omega (arith, div-add-mod w q, mul-le-mul_left q (term_le w t)))

  weight_digits : (e : ℕ) → weight_of q e ≡ q * (e / q + e % q) + e % q
  weight_digits e = omega (arith, mul-add q (e / q) (e % q), div-add-mod e q)

  weight_y_lem : (e : ℕ) → weight_of q e % q ≡ e % q
  weight_y_lem e = rw (weight_digits e) (remainder q pos (e / q + e % q) (e % q) (mod-lt e pos))

  pub entry_of_weight : (e : ℕ) → entry_of q (weight_of q e) ≡ e
  entry_of_weight e = rw (weight_y_lem e) (omega arith)

  pub entry_term : (e : ℕ) → is_term q (weight_of q e) ≡ true
  entry_term e =
      le-leb (weight_of q e % q) (weight_of q e / q)
      (rw (weight_digits e, remainder q pos (e / q + e % q) (e % q) (mod-lt e pos), quotient q pos (e / q + e % q) (e % q) (mod-lt e pos)) (omega arith))

pub size_le : (q m : ℕ) → size q m ≤ suc m
size_le q m = place_bound (is_term q) (suc m)

pub genus_small : (q : ℕ) → IsCurve q → (curve_of q).genus ≤ 32
genus_small q curve =
    let less : q - 1 ≤ q = omega arith in
    omega (arith, twice_genus q (curve_pos q curve), mul-le-mul_left q less, (sizes q curve).symbols)

-- q times a remainder by q is small
pub small_product : (q : ℕ) → IsCurve q → (w j : ℕ) → j ≡ w % q → q * j ≤ 64
small_product q curve w j e =
    let z = sizes q curve in
    let l : j < q = rw e (mod-lt w (omega (arith, z.low))) in
    let k : j ≤ q = omega arith in
    omega (arith, z.symbols, mul-le-mul_left q k)

-- and so is the weight of a power of y below q
pub small_weight : (q : ℕ) → IsCurve q → (w j : ℕ) → j ≡ w % q → (q + 1) * j ≤ 72
small_weight q curve w j e =
    let z = sizes q curve in
    let l : j < q = rw e (mod-lt w (omega (arith, z.low))) in
    omega (arith, add-mul q 1 j, small_product q curve w j e, z.high)
