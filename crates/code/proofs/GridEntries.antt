-- A message and its grid hold the same: each is made from the other.
-- Assumes nothing.
use mathlib.Core.Bool.{Bool, true, false}
use mathlib.Core.Logic.{◌⊎◌, inl, inr}
use mathlib.Core.List.{List}
use mathlib.Core.Path.{◌≡◌, refl, sym, ap, ap₂, ◌∙◌}
use Prim.Native.Nat.{ℕ, zero, suc, ◌+◌, ◌-◌, ◌*◌, ◌/◌, ◌%◌, ◌≤◌, ◌<◌}
use native.Mathlib.Decide.{dec_lt, ℕ_discrete}
use native.Mathlib.Nat.{mul-le-mul_left, div-add-mod}
use native.Mathlib.Numerals.{add-one}
use native.Mathlib.Omega.{arith}
use borrow.Author.Tests.{leb-true}
use lib.ListN.{length, get_or, take, set, replicate, length-set, length-replicate, length-map}
use lib.Seq.{length-take-le, get_or-take, get_or-set_same, get_or-set_other, ext_get_or}
use Rattle.poly.specs.Inner.Ranges.{writes}
use Rattle.poly.proofs.Bools.{true_or_false}
use Rattle.poly.proofs.Lists.{get_or_map}
use Rattle.poly.proofs.Entries.{get_or_zeros}
use Rattle.poly.proofs.Writes.{length_writes, writes_in}
use Rattle.points.proofs.Passing.{passing_at, at_place, place_lt, place_true, place_false}
use Rattle.code.specs.Terms.{is_term, weights, size}
use Rattle.code.specs.Inner.Grid.{weight_of, entry_of, rank, scatter_below, scatter, gather, entries_of, listed, WeightOfTerm}
use Rattle.code.proofs.Weights.{rank_zero, weight_of_entry, entry_of_weight, entry_term, weight_number}

-- a grid with coefficient i at entry i of a list, for each i below n
unfoldable pub laid : List ℕ → List ℕ → List ℕ → ℕ → List ℕ
laid entries message grid zero = grid
laid entries message grid (suc n) = set (laid entries message grid n) (get_or entries n 0) (get_or message n 0)

module _ (entries message grid : List ℕ) where
  pub laid_none : laid entries message grid 0 ≡ grid
  unfolding laid
  laid_none = refl

  pub laid_turn : (g : List ℕ) (n e : ℕ) → g ≡ laid entries message grid n → e ≡ get_or entries n 0
      → set g e (get_or message n 0) ≡ laid entries message grid (n + 1)
  unfolding laid
  laid_turn g n e h k = rw (add-one n, h, k)

module _ (q n : ℕ) (message : List ℕ) where
  pub scatter_term : (w : ℕ) → is_term q w ≡ true
      → scatter_below q n message (suc w) ≡ set (scatter_below q n message w) (entry_of q w) (get_or message (rank q w) 0)
  unfolding scatter_below
  scatter_term w t = rw t

  pub scatter_none : (w : ℕ) → is_term q w ≡ false → scatter_below q n message (suc w) ≡ scatter_below q n message w
  unfolding scatter_below
  scatter_none w t = rw t

  pub scatter_zero : scatter_below q n message 0 ≡ replicate n 0
  unfolding scatter_below
  scatter_zero = refl

  pub length_scatter : (w : ℕ) → length (scatter_below q n message w) ≡ n
  length_scatter zero = ap length scatter_zero ∙ length-replicate n 0
  length_scatter (suc w) =
      elim (true_or_false (is_term q w)) [
        | inl t ↦ ap length (scatter_term w t) ∙ length-set (scatter_below q n message w) (entry_of q w) (get_or message (rank q w) 0) ∙ length_scatter w
        | inr t ↦ ap length (scatter_none w t) ∙ length_scatter w
      ]

module _ (q : ℕ) (pos : 0 < q) (n : ℕ) (message : List ℕ) where
  other : (w e : ℕ) → is_term q w ≡ true → (weight_of q e ≡ w → ⊥) → e ≡ entry_of q w → ⊥
  other w e t d h = d (ap (weight_of q) h ∙ weight_of_entry q pos w t)

  -- entries of a weight that is not reached are zero
  pub scatter_above : (w e : ℕ) → w ≤ weight_of q e → get_or (scatter_below q n message w) e 0 ≡ 0
  scatter_above zero e l = ap (λ (g : List ℕ). get_or g e 0) (scatter_zero q n message) ∙ get_or_zeros n e
  scatter_above (suc w) e l =
      elim (true_or_false (is_term q w)) [
        | inl t ↦ rw (
          scatter_term q n message w t,
          get_or-set_other (scatter_below q n message w) (entry_of q w) e (get_or message (rank q w) 0) 0 (other w e t (λ h. omega arith)),
        )
            (scatter_above w e (omega arith))
        | inr t ↦ rw (scatter_none q n message w t) (scatter_above w e (omega arith))
      ]

  -- the others hold the coefficient of their weight
  pub scatter_at : (w e : ℕ) → weight_of q e < w → e < n → get_or (scatter_below q n message w) e 0 ≡ get_or message (rank q (weight_of q e)) 0
  scatter_at (suc w) e l k = go (ℕ_discrete (weight_of q e) w) (true_or_false (is_term q w)) (λ h. scatter_at w e h k)
    where
      go : Dec (weight_of q e ≡ w) → (is_term q w ≡ true) ⊎ (is_term q w ≡ false)
          → (weight_of q e < w → get_or (scatter_below q n message w) e 0 ≡ get_or message (rank q (weight_of q e)) 0)
          → get_or (scatter_below q n message (suc w)) e 0 ≡ get_or message (rank q (weight_of q e)) 0
      go (yes h) (inl t) ih =
          let here : entry_of q w ≡ e = ap (entry_of q) (sym h) ∙ entry_of_weight q pos e in
          rw (
            scatter_term q n message w t,
            here,
            get_or-set_same (scatter_below q n message w) e (get_or message (rank q w) 0) 0 (omega (arith, length_scatter q n message w)),
          )
          (ap (λ (v : ℕ). get_or message (rank q v) 0) (sym h))
      go (yes h) (inr t) ih =
          let z : ◌≡◌ {A = Bool} true false = sym (entry_term q pos e) ∙ ap (is_term q) h ∙ t in
          let o : ◌≡◌ {A = ℕ} 0 1 = cc in absurd (omega arith)
      go (no d) (inl t) ih =
          rw (
            scatter_term q n message w t,
            get_or-set_other (scatter_below q n message w) (entry_of q w) e (get_or message (rank q w) 0) 0 (other w e t d),
          )
          (ih (omega arith))
      go (no d) (inr t) ih = rw (scatter_none q n message w t) (ih (omega arith))
  scatter_at zero e l k = absurd (omega arith)

module _ (q m : ℕ) (grid : List ℕ) where
  pub length_gather : length (gather q m grid) ≡ size q m
  unfolding gather
  length_gather = length-map (weights q m) (λ w. get_or grid (entry_of q w) 0)

  pub gather_number : (n : ℕ) → n < size q m → get_or (gather q m grid) n 0 ≡ get_or grid (entry_of q (get_or (weights q m) n 0)) 0
  unfolding gather
  gather_number n l = get_or_map (λ w. get_or grid (entry_of q w) 0) (weights q m) 0 0 n l

  pub gather_at : (w : ℕ) → is_term q w ≡ true → w ≤ m → get_or (gather q m grid) (rank q w) 0 ≡ get_or grid (entry_of q w) 0
  gather_at w t l =
      gather_number (rank q w) (place_lt (is_term q) w (suc m) t (omega arith))
      ∙ ap (λ (v : ℕ). get_or grid (entry_of q v) 0) (passing_at (is_term q) (suc m) w t (omega arith))

module _ (q : ℕ) (pos : 0 < q) (n m : ℕ) where
  pub gather_scatter : (message : List ℕ) → length message ≡ size q m → m < n → gather q m (scatter q n m message) ≡ message
  gather_scatter message h l =
      ext_get_or 0 (gather q m (scatter q n m message)) message (length_gather q m (scatter q n m message) ∙ sym h)
      (λ i k. each i (omega (arith, length_gather q m (scatter q n m message))))
    where
      each : (i : ℕ) → i < size q m → get_or (gather q m (scatter q n m message)) i 0 ≡ get_or message i 0
      each i k =
          let a = at_place (is_term q) (suc m) i k in
          let w : ℕ = get_or (weights q m) i 0 in
          let back = weight_of_entry q pos w a.1 in
          ap (λ (j : ℕ). get_or (gather q m (scatter q n m message)) j 0) (sym a.2)
          ∙ gather_at q m (scatter q n m message) w a.1 (omega (arith, a.0))
          ∙ scatter_at q pos n message (suc m) (entry_of q w) (omega (arith, back, a.0)) (omega (arith, a.0))
          ∙ ap (λ (v : ℕ). get_or message (rank q v) 0) back ∙ ap (λ (j : ℕ). get_or message j 0) a.2

  pub scatter_gather : (grid : List ℕ) → length grid ≡ n → ((e : ℕ) → e < n → m < weight_of q e → get_or grid e 0 ≡ 0)
      → scatter q n m (gather q m grid) ≡ grid
  scatter_gather grid h zeros =
      ext_get_or 0 (scatter q n m (gather q m grid)) grid (length_scatter q n (gather q m grid) (suc m) ∙ sym h)
      (λ e k. each e (omega (arith, length_scatter q n (gather q m grid) (suc m))))
    where
      each : (e : ℕ) → e < n → get_or (scatter q n m (gather q m grid)) e 0 ≡ get_or grid e 0
      each e k =
          elim (dec_lt m (weight_of q e)) [
            | yes a ↦ scatter_above q pos n (gather q m grid) (suc m) e a ∙ sym (zeros e k a)
            | no d ↦ scatter_at q pos n (gather q m grid) (suc m) e (omega arith) k
                ∙ gather_at q m grid (weight_of q e) (entry_term q pos e) (omega arith)
                ∙ ap (λ (v : ℕ). get_or grid v 0) (entry_of_weight q pos e)
          ]

-- ---- the terms by their numbers

-- w divided by q, with its remainder, as the code has them
abbrev pub Split : ℕ → ℕ → ℕ → ℕ → Type 0
Split q w i j = (i ≡ w / q) × (j ≡ w % q)

pub split_sum : (q w i j : ℕ) → Split q w i j → w ≡ q * i + j
split_sum q w i j d = omega (arith, div-add-mod w q, ap (λ (x : ℕ). q * x) d.0, d.1)

-- the entry of a term's weight
pub entry_le : (q w i j : ℕ) → is_term q w ≡ true → Split q w i j → q * j ≤ w
entry_le q w i j t d =
    let l : j ≤ i = omega (arith, d.0, d.1, leb-true (w % q) (w / q) t) in
    omega (arith, split_sum q w i j d, mul-le-mul_left q l)

pub entry_is : (q w i j : ℕ) → Split q w i j → w - q * j ≡ entry_of q w
entry_is q w i j d = ap (λ (x : ℕ). w - q * x) d.1

pub length_entries : (q m : ℕ) → length (entries_of q m) ≡ size q m
length_entries q m = length-map (weights q m) (entry_of q)

-- the entries, as the code lists them
pub entries_taken : (q m k : ℕ) (list l : List ℕ) → k ≡ size q m → k ≤ length l → list ≡ writes l (size q m) (λ n. get_or (entries_of q m) n 0)
    → take k list ≡ entries_of q m
entries_taken q m k list l e fits h =
    ext_get_or 0 (take k list) (entries_of q m) (long ∙ e ∙ sym (length_entries q m))
    (λ n b.
    let i : n < k = omega (arith, long) in
    get_or-take k list n 0 i ∙ ap (λ (t : List ℕ). get_or t n 0) h
    ∙ writes_in l (λ n. get_or (entries_of q m) n 0) (size q m) n (omega arith) (omega arith))
  where
    long : length (take k list) ≡ k
    long = length-take-le k list (omega (arith, fits, ap length h, length_writes l (λ n. get_or (entries_of q m) n 0) (size q m)))

module _ (q : ℕ) (pos : 0 < q) (m : ℕ) where
  pub entry_number : (n w : ℕ) → WeightOfTerm q n w → n < size q m → get_or (entries_of q m) n 0 ≡ entry_of q w
  entry_number n w h l =
      get_or_map (entry_of q) (weights q m) 0 0 n l ∙ ap (entry_of q) (weight_number q pos n w h m l).1

  pub entry_at_most : (n : ℕ) → n < size q m → get_or (entries_of q m) n 0 ≤ m
  entry_at_most n l =
      let w = at_place (is_term q) (suc m) n l in
      omega (arith, get_or_map (entry_of q) (weights q m) 0 0 n l, w.0)

  -- ---- a message laid out, coefficient by coefficient

  pub laid_scatter : (message : List ℕ) (n w : ℕ) → w ≤ suc m
      → laid (entries_of q m) message (replicate n 0) (rank q w) ≡ scatter_below q n message w
  unfolding laid
  laid_scatter message n zero l = ap (laid (entries_of q m) message (replicate n 0)) (sym (rank_zero q)) ∙ sym (scatter_zero q n message)
  laid_scatter message n (suc w) l =
      elim (true_or_false (is_term q w)) [
        | inl t ↦
            let e = entry_number (rank q w) w (t, refl) (place_lt (is_term q) w (suc m) t (omega arith)) in
            ap (laid (entries_of q m) message (replicate n 0)) (place_true (is_term q) w t)
            ∙ ap₂ (λ (g : List ℕ) (i : ℕ). set g i (get_or message (rank q w) 0)) (laid_scatter message n w (omega arith)) e
            ∙ sym (scatter_term q n message w t)
        | inr t ↦
            ap (laid (entries_of q m) message (replicate n 0)) (place_false (is_term q) w t) ∙ laid_scatter message n w (omega arith)
            ∙ sym (scatter_none q n message w t)
      ]

  pub laid_all : (message grid g : List ℕ) (n : ℕ) → grid ≡ replicate (length grid) 0 → g ≡ laid (entries_of q m) message grid n → n ≡ size q m
      → g ≡ scatter q (length grid) m message
  laid_all message grid g n z e h =
      e ∙ ap₂ (laid (entries_of q m) message) z h ∙ laid_scatter message (length grid) (suc m) (omega arith)

  -- ---- and gathered

  pub gather_written : (grid message : List ℕ) → length message ≡ size q m
      → writes message (length message) (listed (entries_of q m) grid) ≡ gather q m grid
  gather_written grid message h =
      let f = listed (entries_of q m) grid in
      ext_get_or 0 (writes message (length message) f) (gather q m grid)
      (length_writes message f (length message) ∙ h ∙ sym (length_gather q m grid))
      (λ n b.
      let k : n < length message = omega (arith, length_writes message f (length message)) in
      let i : n < size q m = omega arith in
      writes_in message f (length message) n k (omega arith) ∙ ap (λ (e : ℕ). get_or grid e 0) (get_or_map (entry_of q) (weights q m) 0 0 n i)
      ∙ sym (gather_number q m grid n i))
