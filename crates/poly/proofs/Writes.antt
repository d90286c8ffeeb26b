-- A loop that writes a range anew: the length, what stands where it wrote and where it did not, and what a turn does.
-- Assumes nothing.
use mathlib.Core.Path.{◌≡◌, refl, sym, ap, ap₂, ◌∙◌}
use mathlib.Core.List.{List, map, ◌++◌}
use mathlib.Core.Logic.{⊎_elim}
use Prim.Native.Nat.{ℕ, zero, suc, ◌+◌, ◌≤◌, ◌<◌}
use native.Mathlib.Nat.{le_antisymm, eq-or-lt_of_le, not-suc-le-zero, le_of_suc-le-suc}
use native.Mathlib.Numerals.{add-one}
use native.Mathlib.Decide.{dec_lt}
use native.Mathlib.Omega.{arith}
use lib.ListN.{length, get_or, set, length-set, length-map, get_or-append}
use lib.Seq.{ext_get_or, get_or-set_same, get_or-set_other}
use Rattle.std.proofs.lemmas.List.{set-append_left}
use Rattle.poly.specs.Inner.Ranges.{Below, writes}
use Rattle.poly.proofs.Lists.{get_or_map}

module _ (l : List ℕ) (f : ℕ → ℕ) where
  pub length_writes : (n : ℕ) → length (writes l n f) ≡ length l
  unfolding writes
  length_writes zero = refl
  length_writes (suc n) = length-set (writes l n f) n (f n) ∙ length_writes n

  pub writes_out : (n j : ℕ) → n ≤ j → get_or (writes l n f) j 0 ≡ get_or l j 0
  unfolding writes
  writes_out zero j h = refl
  writes_out (suc n) j h = get_or-set_other (writes l n f) n j (f n) 0 (omega arith) ∙ writes_out n j (omega arith)

  pub writes_in : (n j : ℕ) → j < n → n ≤ length l → get_or (writes l n f) j 0 ≡ f j
  unfolding writes
  writes_in zero j h k = absurd (not-suc-le-zero h)
  writes_in (suc n) j h k =
      ⊎_elim
      (λ e. rw e (get_or-set_same (writes l n f) n (f n) 0 (omega (arith, length_writes n))))
      (λ b. get_or-set_other (writes l n f) n j (f n) 0 (omega arith) ∙ writes_in n j b (omega arith))
      (eq-or-lt_of_le (le_of_suc-le-suc h))

  -- one more store
  pub writes_more : (n : ℕ) (v : ℕ) → v ≡ f n → set (writes l n f) n v ≡ writes l (n + 1) f
  unfolding writes
  writes_more n v e = rw (add-one, e)

  -- A loop that writes at j = 0, 1, .. : what a turn does, what is read at j before the store, and what is there at the end.
  pub writes_turn : (d : List ℕ) (j v : ℕ) → d ≡ writes l j f → v ≡ f j → set d j v ≡ writes l (j + 1) f
  writes_turn d j v e h = ap (λ (x : List ℕ). set x j v) e ∙ writes_more j v h

  pub writes_kept : (d : List ℕ) (j : ℕ) → d ≡ writes l j f → get_or d j 0 ≡ get_or l j 0
  writes_kept d j e = ap (λ (x : List ℕ). get_or x j 0) e ∙ writes_out j j (omega arith)

  pub writes_end : (d : List ℕ) (j n : ℕ) → d ≡ writes l j f → j ≤ n → n ≤ j → d ≡ writes l n f
  writes_end d j n e a b = e ∙ ap (λ (x : ℕ). writes l x f) (le_antisymm a b)

  -- The same where the loop goes over the front of the list, and rest stands behind it.
  pub front_kept : (front rest : List ℕ) (j : ℕ) → j < length front → front ++ rest ≡ writes l j f → get_or front j 0 ≡ get_or l j 0
  front_kept front rest j h e = sym (get_or-append front rest 0 j h) ∙ writes_kept (front ++ rest) j e

  pub front_turn : (front rest : List ℕ) (j v : ℕ) → j < length front → front ++ rest ≡ writes l j f → v ≡ f j
      → set front j v ++ rest ≡ writes l (j + 1) f
  front_turn front rest j v h e k = sym (set-append_left front rest j v h) ∙ writes_turn (front ++ rest) j v e k

  pub below_writes : (b n : ℕ) → n ≤ length l → Below b l → ((j : ℕ) → j < n → f j < b) → Below b (writes l n f)
  below_writes b n k h g j = go (dec_lt j n)
    where
      go : Dec (j < n) → get_or (writes l n f) j 0 < b
      go (yes i) = rw (writes_in n j i k) (g j i)
      go (no p) = rw (writes_out n j (omega arith)) (h j)

-- the same numbers below n
pub writes_cong : (l : List ℕ) (f g : ℕ → ℕ) (n : ℕ) → ((j : ℕ) → j < n → f j ≡ g j) → writes l n f ≡ writes l n g
unfolding writes
writes_cong l f g zero h = refl
writes_cong l f g (suc n) h = ap₂ (λ (k : List ℕ) (v : ℕ). set k n v) (writes_cong l f g n (λ j b. h j (omega arith))) (h n (omega arith))

-- each entry is given the value of f at it
pub writes_map : (f : ℕ → ℕ) (l : List ℕ) → writes l (length l) (λ j. f (get_or l j 0)) ≡ map f l
writes_map f l =
    let g : ℕ → ℕ = λ j. f (get_or l j 0) in
    ext_get_or 0 (writes l (length l) g) (map f l) (length_writes l g (length l) ∙ sym (length-map l f))
    (λ t b.
    let k : t < length l = omega (arith, length_writes l g (length l)) in
    writes_in l g (length l) t k (omega arith) ∙ sym (get_or_map f l 0 0 t k))
