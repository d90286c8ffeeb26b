-- The symbols of a broken word and its n lowest ones.
-- Assumes nothing.
use mathlib.Core.Bool.{cond}
use mathlib.Core.List.{List, [], ◌∷◌}
use mathlib.Core.Logic.{◌⊎◌, inl, inr}
use mathlib.Core.Path.{◌≡◌, refl, sym, ap, ◌∙◌}
use Prim.Native.Nat.{ℕ, zero, suc, ◌+◌, ◌≤◌, ◌<◌}
use native.Mathlib.Numerals.{add-one}
use native.Mathlib.Decide.{ℕ_discrete, dec_lt}
use native.Mathlib.Omega.{arith}
use borrow.Author.Tests.{eq-eqb, ne_eqb}
use lib.Dec.{eqb}
use lib.ListN.{length, get_or, take}
use Rattle.job.specs.Symbols.{arrived_in, brought_in}

-- ---- the count

arrived_gap : (x : ℕ) (word : List ℕ) → x ≡ 255 → arrived_in (x ∷ word) ≡ arrived_in word
unfolding arrived_in
arrived_gap x word e = rw (eq-eqb x 255 e)

arrived_symbol : (x : ℕ) (word : List ℕ) → (x ≡ 255 → ⊥) → arrived_in (x ∷ word) ≡ suc (arrived_in word)
unfolding arrived_in
arrived_symbol x word d = rw (ne_eqb x 255 d)

arrived_nil : arrived_in [] ≡ 0
unfolding arrived_in
arrived_nil = refl

-- one place more
below_gap : (word : List ℕ) (p : ℕ) → p < length word → get_or word p 0 ≡ 255 → arrived_in (take (suc p) word) ≡ arrived_in (take p word)
below_gap [] p l e = absurd (omega arith)
below_gap (x ∷ word) zero l e = arrived_gap x [] e
below_gap (x ∷ word) (suc p) l e = elim (ℕ_discrete x 255) [
  | yes g ↦ arrived_gap x (take (suc p) word) g ∙ below_gap word p (omega arith) e ∙ sym (arrived_gap x (take p word) g)
  | no d ↦ arrived_symbol x (take (suc p) word) d ∙ ap suc (below_gap word p (omega arith) e) ∙ sym (arrived_symbol x (take p word) d)
]

below_symbol : (word : List ℕ) (p : ℕ) → p < length word → (get_or word p 0 ≡ 255 → ⊥)
    → arrived_in (take (suc p) word) ≡ suc (arrived_in (take p word))
below_symbol [] p l n = absurd (omega arith)
below_symbol (x ∷ word) zero l n = arrived_symbol x [] n
below_symbol (x ∷ word) (suc p) l n = elim (ℕ_discrete x 255) [
  | yes g ↦ arrived_gap x (take (suc p) word) g ∙ below_symbol word p (omega arith) n ∙ sym (ap suc (arrived_gap x (take p word) g))
  | no d ↦ arrived_symbol x (take (suc p) word) d ∙ ap suc (below_symbol word p (omega arith) n) ∙ sym (ap suc (arrived_symbol x (take p word) d))
]

-- as a loop counts
module _ (word : List ℕ) (p n : ℕ) (l : p < length word) (e : n ≡ arrived_in (take p word)) where
  pub count_gap : get_or word p 0 ≡ 255 → n ≡ arrived_in (take (p + 1) word)
  count_gap g = rw (add-one p) (omega (arith, below_gap word p l g))

  pub count_symbol : (get_or word p 0 ≡ 255 → ⊥) → n + 1 ≡ arrived_in (take (p + 1) word)
  count_symbol d = rw (add-one p) (omega (arith, below_symbol word p l d))

-- places further on have no fewer below them
below_le : (word : List ℕ) (i p : ℕ) → i ≤ p → arrived_in (take i word) ≤ arrived_in (take p word)
below_le word zero p l = omega (arith, arrived_nil)
below_le word (suc i) zero l = absurd (omega arith)
below_le [] (suc i) (suc p) l = omega arith
below_le (x ∷ word) (suc i) (suc p) l =
    let ih = below_le word i p (omega arith) in
    elim (ℕ_discrete x 255) [
      | yes g ↦ omega (arith, arrived_gap x (take i word) g, arrived_gap x (take p word) g)
      | no d ↦ omega (arith, arrived_symbol x (take i word) d, arrived_symbol x (take p word) d)
    ]

pub below_all : (word : List ℕ) (p : ℕ) → length word ≤ p → arrived_in (take p word) ≡ arrived_in word
below_all [] zero l = refl
below_all [] (suc p) l = refl
below_all (x ∷ word) zero l = absurd (omega arith)
below_all (x ∷ word) (suc p) l = elim (ℕ_discrete x 255) [
  | yes g ↦ arrived_gap x (take p word) g ∙ below_all word p (omega arith) ∙ sym (arrived_gap x word g)
  | no d ↦ arrived_symbol x (take p word) d ∙ ap suc (below_all word p (omega arith)) ∙ sym (arrived_symbol x word d)
]

pub arrived_length : (word : List ℕ) → arrived_in word ≤ length word
arrived_length [] = omega (arith, arrived_nil)
arrived_length (x ∷ word) = elim (ℕ_discrete x 255) [
  | yes g ↦ omega (arith, arrived_gap x word g, arrived_length word)
  | no d ↦ omega (arith, arrived_symbol x word d, arrived_length word)
]

pub below_within : (word : List ℕ) (p : ℕ) → p ≤ length word → arrived_in (take p word) ≤ arrived_in word
below_within word p l = omega (arith, below_le word p (length word) l, below_all word (length word) (omega arith))

-- ---- the n lowest

module _ (x : ℕ) (word : List ℕ) where
  brought_gap : (n : ℕ) → x ≡ 255 → brought_in (x ∷ word) n ≡ 255 ∷ brought_in word n
  unfolding brought_in
  brought_gap zero e = refl
  brought_gap (suc n) e = rw (eq-eqb x 255 e) (ap (λ (y : ℕ). y ∷ brought_in word (suc n)) e)

  brought_symbol : (n : ℕ) → (x ≡ 255 → ⊥) → brought_in (x ∷ word) (suc n) ≡ x ∷ brought_in word n
  unfolding brought_in
  brought_symbol n d = rw (ne_eqb x 255 d)

  brought_none : brought_in (x ∷ word) 0 ≡ 255 ∷ brought_in word 0
  unfolding brought_in
  brought_none = refl

brought_nil : (n : ℕ) → brought_in [] n ≡ []
unfolding brought_in
brought_nil n = refl

pub length_brought : (word : List ℕ) (n : ℕ) → length (brought_in word n) ≡ length word
unfolding brought_in
length_brought [] n = refl
length_brought (x ∷ word) zero = ap suc (length_brought word zero)
length_brought (x ∷ word) (suc n) = ap suc (length_brought word (cond (eqb x 255) (suc n) n))

-- all of them are the word
pub brought_all : (word : List ℕ) (n : ℕ) → arrived_in word ≤ n → brought_in word n ≡ word
brought_all [] n l = brought_nil n
brought_all (x ∷ word) n l = go n (ℕ_discrete x 255) l (brought_all word)
  where
    go : (n : ℕ) → Dec (x ≡ 255) → arrived_in (x ∷ word) ≤ n → ((k : ℕ) → arrived_in word ≤ k → brought_in word k ≡ word)
        → brought_in (x ∷ word) n ≡ x ∷ word
    go n (yes e) l ih =
        brought_gap x word n e ∙ ap (λ (t : List ℕ). 255 ∷ t) (ih n (omega (arith, arrived_gap x word e))) ∙ ap (λ (y : ℕ). y ∷ word) (sym e)
    go zero (no d) l ih = absurd (omega (arith, arrived_symbol x word d))
    go (suc n) (no d) l ih = brought_symbol x word n d ∙ ap (λ (t : List ℕ). x ∷ t) (ih n (omega (arith, arrived_symbol x word d)))

-- a place with fewer than n below it stands as in the word, and one with n below it is missing
pub brought_low : (word : List ℕ) (n p : ℕ) → p < length word → arrived_in (take p word) < n → get_or (brought_in word n) p 0 ≡ get_or word p 0
brought_low [] n p l b = absurd (omega arith)
brought_low (x ∷ word) n p l b = go n p (ℕ_discrete x 255) l b (brought_low word)
  where
    go : (n p : ℕ) → Dec (x ≡ 255) → p < suc (length word) → arrived_in (take p (x ∷ word)) < n
        → ((n p : ℕ) → p < length word → arrived_in (take p word) < n → get_or (brought_in word n) p 0 ≡ get_or word p 0)
        → get_or (brought_in (x ∷ word) n) p 0 ≡ get_or (x ∷ word) p 0
    go zero p e l b ih = absurd (omega arith)
    go (suc n) zero (yes e) l b ih = rw (brought_gap x word (suc n) e) (sym e)
    go (suc n) zero (no d) l b ih = rw (brought_symbol x word n d)
    go (suc n) (suc p) (yes e) l b ih = rw (brought_gap x word (suc n) e) (ih (suc n) p (omega arith) (omega (arith, arrived_gap x (take p word) e)))
    go (suc n) (suc p) (no d) l b ih = rw (brought_symbol x word n d) (ih n p (omega arith) (omega (arith, arrived_symbol x (take p word) d)))

pub brought_high : (word : List ℕ) (n p : ℕ) → p < length word → n ≤ arrived_in (take p word) → get_or (brought_in word n) p 0 ≡ 255
brought_high [] n p l b = absurd (omega arith)
brought_high (x ∷ word) n p l b = go n p (ℕ_discrete x 255) l b (brought_high word)
  where
    go : (n p : ℕ) → Dec (x ≡ 255) → p < suc (length word) → n ≤ arrived_in (take p (x ∷ word))
        → ((n p : ℕ) → p < length word → n ≤ arrived_in (take p word) → get_or (brought_in word n) p 0 ≡ 255)
        → get_or (brought_in (x ∷ word) n) p 0 ≡ 255
    go zero zero e l b ih = rw (brought_none x word)
    go (suc n) zero e l b ih = absurd (omega (arith, arrived_nil))
    go n (suc p) (yes e) l b ih = rw (brought_gap x word n e) (ih n p (omega arith) (omega (arith, arrived_gap x (take p word) e)))
    go zero (suc p) (no d) l b ih = rw (brought_none x word) (ih 0 p (omega arith) (omega arith))
    go (suc n) (suc p) (no d) l b ih = rw (brought_symbol x word n d) (ih n p (omega arith) (omega (arith, arrived_symbol x (take p word) d)))

-- ---- those below a place are the lowest

module _ (word : List ℕ) (p : ℕ) (within : p ≤ length word) where
  pub brought_before : (i : ℕ) → i < p → get_or (brought_in word (arrived_in (take p word))) i 0 ≡ get_or word i 0
  brought_before i l = elim (dec_lt (arrived_in (take i word)) (arrived_in (take p word))) [
    | yes b ↦ brought_low word (arrived_in (take p word)) i (omega arith) b
    | no b ↦ elim (ℕ_discrete (get_or word i 0) 255) [
      | yes e ↦ brought_high word (arrived_in (take p word)) i (omega arith) (omega arith) ∙ sym e
      | no d ↦ absurd (omega (arith, below_symbol word i (omega arith) d, below_le word (suc i) p (omega arith)))
    ]
  ]

  pub brought_after : (i : ℕ) → p ≤ i → i < length word → get_or (brought_in word (arrived_in (take p word))) i 0 ≡ 255
  brought_after i l b = brought_high word (arrived_in (take p word)) i b (below_le word p i l)

-- a value of it is one of the word, or 255
pub brought_value : (word : List ℕ) (n i : ℕ) → i < length word → (get_or (brought_in word n) i 0 ≡ 255) ⊎ (get_or (brought_in word n) i 0 ≡ get_or word i 0)
brought_value word n i l = elim (dec_lt (arrived_in (take i word)) n) [
  | yes b ↦ inr (brought_low word n i l b)
  | no b ↦ inl (brought_high word n i l (omega arith))
]
