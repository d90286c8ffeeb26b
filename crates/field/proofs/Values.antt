-- Check 4: which values are bad, and the search for the first of them.
-- Assumes nothing.
use mathlib.Core.Bool.{Bool, true, false, not, ◌&&◌, and-false, false≢true}
use mathlib.Core.List.{List, [], ◌∷◌}
use mathlib.Core.Logic.{◌⊎◌, inl, inr}
use mathlib.Core.Path.{◌≡◌, refl, sym, ap, ◌∙◌}
use Prim.Native.Nat.{ℕ, zero, suc, ◌+◌, ◌≤◌, ◌<◌}
use native.Mathlib.Numerals.{add-one}
use native.Mathlib.Decide.{ℕ_discrete}
use native.Mathlib.Omega.{arith}
use borrow.Author.Tests.{lt-leb, le-leb, eq-eqb, ne_eqb, leb-false}
use lib.Dec.{leb}
use lib.ListN.{length, get_or, drop, drop_of_length-le}
use lib.Seq.{drop-cons}
use Rattle.field.specs.Values.{bad_value, first_bad}

-- ---- one value

pub good_symbol : (gaps : Bool) (Q x : ℕ) → x < Q → bad_value gaps Q x ≡ false
good_symbol gaps Q x l = rw (lt-leb Q x l)

pub good_gap : (Q x : ℕ) → x ≡ 255 → bad_value true Q x ≡ false
good_gap Q x e = rw (eq-eqb x 255 e, and-false (leb Q x))

pub bad_gap : (Q x : ℕ) → Q ≤ x → (x ≡ 255 → ⊥) → (gaps : Bool) → bad_value gaps Q x ≡ true
bad_gap Q x l n true = rw (le-leb Q x l, ne_eqb x 255 n)
bad_gap Q x l n false = rw (le-leb Q x l)

pub symbol_of_good : (Q x : ℕ) → bad_value false Q x ≡ false → x < Q
symbol_of_good Q x e = go (leb Q x) (leb-false Q x) e
  where
    go : (b : Bool) → (b ≡ false → x < Q) → (b && true) ≡ false → x < Q
    go true h e = absurd (false≢true (sym e))
    go false h e = h refl

-- a value that may stand in a broken word
pub value_of_good : (Q x : ℕ) → bad_value true Q x ≡ false → (x ≡ 255) ⊎ (x < Q)
value_of_good Q x e = go (ℕ_discrete x 255)
  where
    go : Dec (x ≡ 255) → (x ≡ 255) ⊎ (x < Q)
    go (yes h) = inl h
    go (no n) = inr (symbol_of_good Q x (ap (λ (b : Bool). leb Q x && not b) (sym (ne_eqb x 255 n)) ∙ e))

-- ---- the search

module _ (bad : ℕ → Bool) where
  bad_head : (x : ℕ) (xs : List ℕ) → bad x ≡ true → first_bad bad (x ∷ xs) ≡ 0
  unfolding first_bad
  bad_head x xs e = rw e

  good_head : (x : ℕ) (xs : List ℕ) → bad x ≡ false → first_bad bad (x ∷ xs) ≡ suc (first_bad bad xs)
  unfolding first_bad
  good_head x xs e = rw e

  bad_nil : first_bad bad [] ≡ 0
  unfolding first_bad
  bad_nil = refl

  module _ (list : List ℕ) (i : ℕ) (e : first_bad bad list ≡ i + first_bad bad (drop i list)) where
    pub bad_found : i < length list → bad (get_or list i 0) ≡ true → i ≡ first_bad bad list
    bad_found l b = omega (arith, e, ap (first_bad bad) (drop-cons list i 0 l), bad_head (get_or list i 0) (drop (suc i) list) b)

    pub bad_turn : i < length list → bad (get_or list i 0) ≡ false → first_bad bad list ≡ i + 1 + first_bad bad (drop (i + 1) list)
    bad_turn l b =
        rw (add-one i)
        (omega (arith, e, ap (first_bad bad) (drop-cons list i 0 l), good_head (get_or list i 0) (drop (suc i) list) b))

    pub bad_none : length list ≤ i → i ≡ first_bad bad list
    bad_none l = omega (arith, e, ap (first_bad bad) (drop_of_length-le list l), bad_nil)

  -- where the search finds nothing, no value is bad
  pub all_good : (list : List ℕ) → length list ≤ first_bad bad list → (i : ℕ) → i < length list → bad (get_or list i 0) ≡ false
  all_good [] l i k = absurd (omega arith)
  all_good (x ∷ xs) l i k = go (bad x) refl (all_good xs) i k
    where
      go : (b : Bool) → bad x ≡ b → (length xs ≤ first_bad bad xs → (i : ℕ) → i < length xs → bad (get_or xs i 0) ≡ false)
          → (i : ℕ) → i < suc (length xs) → bad (get_or (x ∷ xs) i 0) ≡ false
      go true t ih i k = absurd (omega (arith, l, bad_head x xs t))
      go false t ih zero k = t
      go false t ih (suc i) k = ih (omega (arith, l, good_head x xs t)) i (omega arith)

  -- and where no value is bad, it finds nothing
  pub none_found : (list : List ℕ) → ((i : ℕ) → i < length list → bad (get_or list i 0) ≡ false) → length list ≤ first_bad bad list
  none_found [] h = omega arith
  none_found (x ∷ xs) h = omega (arith, good_head x xs (h 0 (omega arith)), none_found xs (λ i l. h (suc i) (omega arith)))
