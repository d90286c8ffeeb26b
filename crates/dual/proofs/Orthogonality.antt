-- ORTHOGONALITY over all columns: where two orders add up to less than n + 2g − 1, the place_by_place products of their words add up to 0. For a
-- word is a sum of terms x^i·y^j, and the product of two terms is one more, whose weight is the sum of theirs. And a word is orthogonal to all
-- words of an order exactly when it is to the order's terms: the finite test, whose sums can be taken in two stages.
-- Assumes nothing.
use mathlib.Core.List.{List}
use mathlib.Core.Path.{◌≡◌, refl, sym, ap, ap₂, ◌∙◌}
use Prim.Native.Nat.{ℕ, suc, ◌+◌, ◌*◌, ◌<◌}
use native.Mathlib.Nat.{mul-add}
use native.Mathlib.Omega.{arith}
use lib.ListN.{get_or, set, length-set, length-replicate}
use lib.Seq.{get_or-set_same, get_or-set_other}
use Rattle.field.specs.Field.{Field}
use Rattle.field.specs.Power.{power}
use Rattle.field.specs.Sum.{sum}
use Rattle.field.proofs.FieldLaws.{times_left_comm}
use Rattle.field.proofs.Sums.{sum_cong}
use Rattle.field.proofs.Fields.{field_of}
use Rattle.field.proofs.Curves.{two_symbols}
use Rattle.poly.specs.Messages.{Vector}
use Rattle.poly.specs.Inner.Linear.{entry, dot}
use Rattle.poly.proofs.Entries.{zeros, get_or_zeros, below_zeros, below_set}
use Rattle.poly.proofs.Linear.{dot_lt, dot_local, dot_zero}
use Rattle.poly.proofs.Pairings.{dot_comm, dot_terms}
use Rattle.linear.proofs.FreeUnknowns.{UnitRow, unit_dot}
use Rattle.points.specs.Inner.Columns.{column_y}
use Rattle.points.proofs.Passing.{at_place}
use Rattle.code.specs.Terms.{is_term, x_power, y_power, weights, size}
use Rattle.code.specs.Word.{word_of}
use Rattle.code.specs.Inner.Rows.{row_of}
use Rattle.code.proofs.Rows.{word_dot}
use Rattle.code.proofs.Weights.{curve_pos, weight_of_powers_lem, y_lt, x_of_weight, y_of_weight, term_listed}
use Rattle.dual.specs.Orthogonal.{product_sum, Orthogonal}
use Rattle.dual.specs.Inner.PointSums.{AllColumns, x_at, y_at, powers_at, point_sum, heaviest, term_sum, TermsZero}
use Rattle.dual.proofs.PointSums.{places, powers_times, in_stages, y_at_lem, sum_below}

-- k coefficients: that with the number t is 1, the others are 0
unit : ℕ → ℕ → List ℕ
unit k t = set (zeros k) t 1

unit_vector : (b k t : ℕ) → 1 < b → Vector b k (unit k t)
unfolding unit
unit_vector b k t l =
    record {
      len = length-set (zeros k) t 1 ∙ length-replicate {A = ℕ} k 0;
      small = λ i _. below_set b (zeros k) t 1 (below_zeros b k (omega arith)) l i;
    }

-- it picks one of the numbers r 0, r 1, ..
unit_picks : (F : Field) (k t : ℕ) (r : ℕ → ℕ) → t < k → r t < F.size → dot F k r (entry (unit k t)) ≡ r t
unfolding unit
unit_picks F k t r l small = dot_comm F k r (entry (unit k t)) ∙ unit_dot F k t 0 (entry (unit k t)) row l r small
  where
    row : UnitRow k t 0 (entry (set (zeros k) t 1))
    row =
        record {
          one = get_or-set_same (zeros k) t 1 0 (omega (arith, length-replicate {A = ℕ} k 0));
          zeros = λ j _ d. get_or-set_other (zeros k) t j 1 0 d ∙ get_or_zeros k j;
          side = get_or-set_other (zeros k) t k 1 0 (omega arith) ∙ get_or_zeros k k;
        }

-- the term of a message's coefficient u, at place p
term_of : ℕ → List ℕ → ℕ → ℕ → ℕ → ℕ
term_of q columns m u = powers_at q columns (x_power q (get_or (weights q m) u 0)) (y_power q (get_or (weights q m) u 0))

module _ (q : ℕ) (columns : List ℕ) (f : AllColumns q columns) where
  pos : 0 < q
  pos = curve_pos q f.over.curve

  product_sum_lem : (word other : List ℕ) → product_sum q word other ≡ dot (field_of q) (q * q * q) (entry word) (entry other)
  unfolding dot
  product_sum_lem word other = refl

  -- the terms of a message's word
  word_terms : (m : ℕ) (v : List ℕ) (p : ℕ) → p < q * q * q
      → get_or (word_of q columns m v) p 0 ≡ dot (field_of q) (size q m) (λ u. term_of q columns m u p) (entry v)
  unfolding term_of powers_at row_of
  word_terms m v p l = word_dot q columns f.over m v p (omega (arith, places q columns f))

  -- two terms
  pub pair : (a b i j : ℕ) → dot (field_of q) (q * q * q) (powers_at q columns a b) (powers_at q columns i j) ≡ point_sum q columns (a + i) (b + j)
  unfolding dot
  pair a b i j = sum_cong (q * q * q) _ (powers_at q columns (a + i) (b + j)) (λ p l. powers_times q columns a b i j p)

  term_pair : (m k u v : ℕ) → m + k < heaviest q → u < size q m → v < size q k
      → dot (field_of q) (q * q * q) (term_of q columns m u) (term_of q columns k v) ≡ 0
  unfolding term_of
  term_pair m k u v h a b =
      let x : ℕ = get_or (weights q m) u 0 in
      let y : ℕ = get_or (weights q k) v 0 in
      let s = at_place (is_term q) (suc m) u a in
      let t = at_place (is_term q) (suc k) v b in
      pair (x_power q x) (y_power q x) (x_power q y) (y_power q y)
      ∙ sum_below q columns f (x_power q x + x_power q y) (y_power q x + y_power q y)
      (omega (
        arith,
        mul-add q (x_power q x) (x_power q y),
        mul-add (suc q) (y_power q x) (y_power q y),
        weight_of_powers_lem q pos x s.1,
        weight_of_powers_lem q pos y t.1,
        s.0,
        t.0,
      ))

  -- against a word of order k: term by term
  against_word : (k : ℕ) (r : ℕ → ℕ) (v : List ℕ) → dot (field_of q) (q * q * q) r (entry (word_of q columns k v))
      ≡ dot (field_of q) (size q k) (λ u. dot (field_of q) (q * q * q) r (term_of q columns k u)) (entry v)
  against_word k r v =
      dot_local (field_of q) (q * q * q) r (entry (word_of q columns k v)) (λ p. dot (field_of q) (size q k) (λ u. term_of q columns k u p) (entry v))
      (word_terms k v)
      ∙ dot_terms (field_of q) (q * q * q) (size q k) r (term_of q columns k) (entry v)

  -- ORTHOGONALITY
  pub words_orthogonal : (m k : ℕ) (v w : List ℕ) → m + k < heaviest q → product_sum q (word_of q columns m v) (word_of q columns k w) ≡ 0
  words_orthogonal m k v w l =
      product_sum_lem (word_of q columns m v) (word_of q columns k w)
      ∙ against_word k (entry (word_of q columns m v)) w
      ∙ dot_zero (field_of q) (size q k) _ (entry w)
      (λ u a. dot_comm (field_of q) (q * q * q) (entry (word_of q columns m v)) (term_of q columns k u)
      ∙ against_word m (term_of q columns k u) v
      ∙ dot_zero (field_of q) (size q m) _ (entry v)
      (λ t b. dot_comm (field_of q) (q * q * q) (term_of q columns k u) (term_of q columns m t) ∙ term_pair m k t u l b a))

  -- ---- the test by terms

  pub terms_zero : (k : ℕ) (word : List ℕ) → Orthogonal q columns k word → TermsZero q columns k word
  unfolding term_of
  terms_zero k word h i j jl l =
      let t = term_listed q pos k i j jl l in
      let u = t.0 in
      let v = unit (size q k) u in
      let same : term_of q columns k u ≡ powers_at q columns i j =
      ap₂ (λ (a b : ℕ). powers_at q columns a b) (ap (x_power q) t.2 ∙ x_of_weight q pos i j jl) (ap (y_power q) t.2 ∙ y_of_weight q pos i j jl) in
      ap (dot (field_of q) (q * q * q) (entry word)) (sym same)
      ∙ sym (unit_picks (field_of q) (size q k) u (λ u. dot (field_of q) (q * q * q) (entry word) (term_of q columns k u)) t.1
      (dot_lt (field_of q) (q * q * q) (entry word) _))
      ∙ sym (against_word k (entry word) v) ∙ sym (product_sum_lem word (word_of q columns k v))
      ∙ h (word_of q columns k v) (v, unit_vector (q * q) (size q k) u (two_symbols q f.over.curve), refl)

  pub of_terms_zero : (k : ℕ) (word : List ℕ) → TermsZero q columns k word → Orthogonal q columns k word
  unfolding term_of
  of_terms_zero k word h other (v, _, e) =
      ap (product_sum q word) (sym e) ∙ product_sum_lem word (word_of q columns k v) ∙ against_word k (entry word) v
      ∙ dot_zero (field_of q) (size q k) _ (entry v)
      (λ u a.
      let x : ℕ = get_or (weights q k) u 0 in
      let s = at_place (is_term q) (suc k) u a in
      h (x_power q x) (y_power q x) (y_lt q pos x) (omega (arith, weight_of_powers_lem q pos x s.1, s.0)))

  -- such a sum in two stages: over the y of each column, then over the columns
  pub by_columns : (word : List ℕ) (i j : ℕ) → term_sum q columns word i j
      ≡ sum (q * q) (λ t. (field_of q).times (power (field_of q) (get_or columns t 0) i)
      (sum q (λ s. (field_of q).times (get_or word (q * t + s) 0) (power (field_of q) (column_y q columns t s) j))))
  unfolding dot powers_at
  by_columns word i j =
      let F = field_of q in
      let X : ℕ → ℕ = λ p. power F (x_at q columns p) i in
      let Y : ℕ → ℕ = λ p. power F (y_at q columns p) j in
      sum_cong (q * q * q) (λ p. F.times (get_or word p 0) (F.times (X p) (Y p))) (λ p. F.times (X p) (F.times (get_or word p 0) (Y p)))
      (λ p l. times_left_comm F (get_or word p 0) (X p) (Y p))
      ∙ in_stages q columns f i (λ p. F.times (get_or word p 0) (Y p)) (λ t s. F.times (get_or word (q * t + s) 0) (power F (column_y q columns t s) j))
      (λ t s k. ap (λ (y : ℕ). F.times (get_or word (q * t + s) 0) (power F y j)) (y_at_lem q columns f t s k))
