-- What stands at an index of a list: of zeros, after a store; and lists of symbols.
-- Assumes nothing.
use mathlib.Core.List.{List, [], ◌∷◌, ◌++◌, map}
use mathlib.Core.Path.{◌≡◌, refl, sym, ap₂, ◌∙◌}
use Prim.Native.Nat.{ℕ, ◌≤◌, ◌<◌}
use native.Mathlib.Decide.{dec_lt, ℕ_discrete}
use native.Mathlib.Omega.{arith}
use lib.ListN.{length, get_or, take, set, replicate, get_or-replicate, length-replicate, get_or-append, get_or-eq_default}
use lib.Seq.{ext_get_or, get_or-set_same, get_or-set_other, set_out}
use Rattle.poly.specs.Inner.Linear.{entry}
use Rattle.poly.specs.Inner.Rows.{stored}
use Rattle.poly.specs.Inner.Ranges.{Below, writes}
use Rattle.poly.proofs.Writes.{length_writes, writes_in, writes_out}
use Rattle.poly.proofs.Parts.{below_take}

abbrev pub zeros : ℕ → List ℕ
zeros n = replicate n 0

pub get_or_zeros : (n i : ℕ) → get_or (zeros n) i 0 ≡ 0
get_or_zeros n i =
    elim (dec_lt i n) [
      | yes l ↦ get_or-replicate n i 0 0 l
      | no d ↦ get_or-eq_default (replicate n 0) 0 (omega (arith, length-replicate {A = ℕ} n 0))
    ]

-- some of the zeros
pub take_zeros : (k n i : ℕ) → get_or (take n (zeros k)) i 0 ≡ 0
take_zeros k n i = omega (arith, below_take 1 (zeros k) n (λ i. rw (get_or_zeros k i) (omega arith)) i)

pub map_cong : (f g : ℕ → ℕ) (l : List ℕ) → ((y : ℕ) → f y ≡ g y) → map f l ≡ map g l
map_cong f g [] h = refl
map_cong f g (y ∷ ys) h = ap₂ ◌∷◌ (h y) (map_cong f g ys h)

pub below_zeros : (b n : ℕ) → 0 < b → Below b (replicate n 0)
below_zeros b n pos i = rw (get_or_zeros n i) pos

pub below_set : (b : ℕ) (list : List ℕ) (i v : ℕ) → Below b list → v < b → Below b (set list i v)
below_set b list i v s l k = go (ℕ_discrete k i) (dec_lt i (length list))
  where
    go : Dec (k ≡ i) → Dec (i < length list) → get_or (set list i v) k 0 < b
    go (no d) e = rw (get_or-set_other list i k v 0 d) (s k)
    go (yes h) (yes in_range) = rw (h, get_or-set_same list i v 0 in_range) l
    go (yes h) (no d) = rw (set_out list i v (omega arith)) (s k)

-- a list that is given zeros only
pub writes_zeros : (l : List ℕ) → writes l (length l) (λ j. 0) ≡ zeros (length l)
writes_zeros l =
    ext_get_or 0 (writes l (length l) (λ j. 0)) (zeros (length l)) (length_writes l (λ j. 0) (length l) ∙ sym (length-replicate {A = ℕ} (length l) 0))
    (λ t b. writes_in l (λ j. 0) (length l) t (omega (arith, length_writes l (λ j. 0) (length l))) (omega arith) ∙ sym (get_or_zeros (length l) t))

-- l in the front of zeros
pub padded : (k n : ℕ) (l : List ℕ) → length l ≤ n → n ≤ k → (t : ℕ) → get_or (stored n l (zeros k)) t 0 ≡ get_or l t 0
unfolding stored
padded k n l short fits t = elim (dec_lt t n) [
  | yes b ↦ writes_in (zeros k) (entry l) n t b (omega (arith, length-replicate {A = ℕ} k 0))
  | no d ↦ writes_out (zeros k) (entry l) n t (omega arith) ∙ get_or_zeros k t ∙ sym (get_or-eq_default l 0 {n = t} (omega arith))
]

-- the front of a list, copied over a list of its length
pub copied : (k : ℕ) (front rest list : List ℕ) → length front ≡ k → length list ≡ k → stored k (front ++ rest) list ≡ front
unfolding stored
copied k front rest list lf ll =
    ext_get_or 0 (writes list k (entry (front ++ rest))) front (length_writes list (entry (front ++ rest)) k ∙ ll ∙ sym lf)
    (λ j l.
    let b : j < k = omega (arith, length_writes list (entry (front ++ rest)) k) in
    writes_in list (entry (front ++ rest)) k j b (omega arith) ∙ get_or-append front rest 0 j (omega arith))
