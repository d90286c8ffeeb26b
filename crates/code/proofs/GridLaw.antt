-- The grid law: the sum over the terms is the sum over the grid's entries; and so the value at a point is found in two stages.
-- Assumes nothing.
use mathlib.Core.Bool.{true}
use mathlib.Core.Logic.{inl, inr}
use mathlib.Core.List.{List, [], ◌∷◌, ◌++◌}
use mathlib.Core.Path.{◌≡◌, refl, sym, ap, ap₂, ◌∙◌}
use Prim.Native.Nat.{ℕ, zero, suc, ◌+◌, ◌*◌, ◌/◌, ◌%◌, ◌≤◌, ◌<◌}
use native.Mathlib.Omega.{arith}
use lib.ListN.{get_or, get_or-append}
use lib.Seq.{get_or-append_seam}
use Rattle.field.specs.Plus.{plus}
use Rattle.field.specs.Power.{power}
use Rattle.field.specs.Sum.{sum}
use Rattle.field.proofs.Fields.{field_of}
use Rattle.field.proofs.FieldLaws.{times_zero}
use Rattle.field.proofs.Sums.{sum_suc, sum_cong, sum_zeros, sum_blocks, sum_set, sum_swap, sum_scale}
use Rattle.poly.specs.Inner.Polynomials.{value}
use Rattle.poly.proofs.Bools.{true_or_false}
use Rattle.points.specs.Passing.{passing}
use Rattle.points.proofs.Passing.{passing_true, passing_false, place_true}
use Rattle.points.proofs.Places.{quotient, remainder}
use Rattle.code.specs.Terms.{is_term}
use Rattle.code.specs.Word.{monomial, value_at}
use Rattle.code.specs.Inner.Grid.{entry_of, rank, scatter_below, scatter}
use Rattle.code.proofs.Weights.{entry_x, entry_y, weight_of_entry}
use Rattle.code.proofs.GridEntries.{scatter_term, scatter_none, length_scatter, scatter_above}

module _ (q : ℕ) (pos : 0 < q) (x y : ℕ) where
  -- the term of entry e
  abbrev at_entry : ℕ → ℕ
  at_entry e = (field_of q).times (power (field_of q) x (e / q)) (power (field_of q) y (e % q))

  module _ (big n : ℕ) (message : List ℕ) (fits : big ≤ n) where
    abbrev terms_below : ℕ → ℕ
    terms_below w = sum (rank q w) (λ i. (field_of q).times (monomial q (get_or (passing (is_term q) w) i 0) x y) (get_or message i 0))

    abbrev entries_below : ℕ → ℕ
    entries_below w = sum big (λ e. (field_of q).times (at_entry e) (get_or (scatter_below q n message w) e 0))

    terms_suc : (w : ℕ) → is_term q w ≡ true
        → terms_below (suc w) ≡ plus (terms_below w) ((field_of q).times (monomial q w x y) (get_or message (rank q w) 0))
    terms_suc w t =
        rw (place_true (is_term q) w t, passing_true (is_term q) w t)
        (sum_suc (rank q w) f
        ∙ ap₂ plus
        (sum_cong (rank q w) f (λ i. (field_of q).times (monomial q (get_or (passing (is_term q) w) i 0) x y) (get_or message i 0))
        (λ i l. ap (λ (v : ℕ). (field_of q).times (monomial q v x y) (get_or message i 0)) (get_or-append (passing (is_term q) w) (w ∷ []) 0 i l)))
        (ap (λ (v : ℕ). (field_of q).times (monomial q v x y) (get_or message (rank q w) 0)) (get_or-append_seam (passing (is_term q) w) w [] 0)))
      where
        f : ℕ → ℕ
        f i = (field_of q).times (monomial q (get_or (passing (is_term q) w ++ (w ∷ [])) i 0) x y) (get_or message i 0)

    entries_suc : (w : ℕ) → is_term q w ≡ true → w < big
        → entries_below (suc w) ≡ plus (entries_below w) ((field_of q).times (monomial q w x y) (get_or message (rank q w) 0))
    entries_suc w t l =
        rw (scatter_term q n message w t)
        (sum_set (field_of q) big at_entry (scatter_below q n message w) (entry_of q w) (get_or message (rank q w) 0) (omega arith)
        (omega (arith, length_scatter q n message w))
        (scatter_above q pos n message w (entry_of q w) (omega (arith, weight_of_entry q pos w t)))
        ∙ rw (entry_x q pos w t, entry_y q pos w t))

    terms_zero : terms_below 0 ≡ 0
    unfolding passing sum
    terms_zero = refl

    entries_zero : entries_below 0 ≡ 0
    entries_zero =
        sum_zeros big (λ e. (field_of q).times (at_entry e) (get_or (scatter_below q n message 0) e 0))
        (λ e l. rw (scatter_above q pos n message 0 e (omega arith)) (times_zero (field_of q) (at_entry e)))

    same_below : (w : ℕ) → w ≤ big → terms_below w ≡ entries_below w
    same_below (suc w) l =
        elim (true_or_false (is_term q w)) [
          | inl t ↦ terms_suc w t
              ∙ ap (λ (s : ℕ). plus s ((field_of q).times (monomial q w x y) (get_or message (rank q w) 0))) (same_below w (omega arith))
              ∙ sym (entries_suc w t (omega arith))
          | inr t ↦ rw (passing_false (is_term q) w t, scatter_none q n message w t) (same_below w (omega arith))
        ]
    same_below zero l = terms_zero ∙ sym entries_zero

  -- c columns of powers of x; the grid has room for them
  pub grid_law : (c n m : ℕ) (message : List ℕ) → m < q * c → q * c ≤ n
      → value_at q m message x y
      ≡ sum c (λ i. sum q (λ j. (field_of q).times ((field_of q).times (power (field_of q) x i) (power (field_of q) y j))
      (get_or (scatter q n m message) (q * i + j) 0)))
  unfolding value_at
  grid_law c n m message l fits =
      same_below (q * c) n message fits (suc m) l
      ∙ sum_blocks q c (λ e. (field_of q).times (at_entry e) (get_or (scatter q n m message) e 0))
      ∙ sum_cong c (λ i. sum q (λ j. (field_of q).times (at_entry (q * i + j)) (get_or (scatter q n m message) (q * i + j) 0)))
      (λ i. sum q (λ j. (field_of q).times ((field_of q).times (power (field_of q) x i) (power (field_of q) y j))
      (get_or (scatter q n m message) (q * i + j) 0)))
      (λ i _. sum_cong q (λ j. (field_of q).times (at_entry (q * i + j)) (get_or (scatter q n m message) (q * i + j) 0))
      (λ j. (field_of q).times ((field_of q).times (power (field_of q) x i) (power (field_of q) y j)) (get_or (scatter q n m message) (q * i + j) 0))
      (λ j h. rw (quotient q pos i j h, remainder q pos i j h)))

-- the value at a point in two stages: the polynomial in x of each y^j at x, then the polynomial in y of these values at y
pub two_stages : (q : ℕ) → 0 < q → (c n m : ℕ) (message : List ℕ) (x y : ℕ) → m < q * c → q * c ≤ n
    → value_at q m message x y ≡ value (field_of q) q (λ j. value (field_of q) c (λ i. get_or (scatter q n m message) (q * i + j) 0) x) y
unfolding value
two_stages q pos c n m message x y l fits =
    grid_law q pos x y c n m message l fits
    ∙ sum_swap c q (λ i j. (field_of q).times ((field_of q).times (power (field_of q) x i) (power (field_of q) y j)) (g i j))
    ∙ sum_cong q (λ j. sum c (λ i. (field_of q).times ((field_of q).times (power (field_of q) x i) (power (field_of q) y j)) (g i j)))
    (λ j. (field_of q).times (sum c (λ i. (field_of q).times (g i j) (power (field_of q) x i))) (power (field_of q) y j))
    (λ j _. sum_cong c (λ i. (field_of q).times ((field_of q).times (power (field_of q) x i) (power (field_of q) y j)) (g i j))
    (λ i. (field_of q).times (power (field_of q) y j) ((field_of q).times (g i j) (power (field_of q) x i)))
    (λ i _. turn (power (field_of q) x i) (power (field_of q) y j) (g i j))
    ∙ sum_scale (field_of q) c (power (field_of q) y j) (λ i. (field_of q).times (g i j) (power (field_of q) x i))
    ∙ (field_of q).times_comm (power (field_of q) y j) (sum c (λ i. (field_of q).times (g i j) (power (field_of q) x i))))
  where
    g : ℕ → ℕ → ℕ
    g i j = get_or (scatter q n m message) (q * i + j) 0

    turn : (a b v : ℕ) → (field_of q).times ((field_of q).times a b) v ≡ (field_of q).times b ((field_of q).times v a)
    turn a b v =
        ap (λ (t : ℕ). (field_of q).times t v) ((field_of q).times_comm a b) ∙ (field_of q).times_assoc b a v
        ∙ ap ((field_of q).times b) ((field_of q).times_comm a v)
