-- The test of the weights: a grid that passes it is that of a message, and that of a message passes it.
-- Assumes nothing.
use mathlib.Core.Bool.{Bool, true, false, ◌&&◌, ◌||◌}
use mathlib.Core.List.{List}
use mathlib.Core.Logic.{inl, inr}
use mathlib.Core.Path.{◌≡◌, refl, sym, ap, ◌∙◌}
use Prim.Native.Nat.{ℕ, zero, suc, ◌+◌, ◌-◌, ◌*◌, ◌%◌, ◌≤◌, ◌<◌}
use native.Mathlib.Decide.{dec_lt, ℕ_discrete}
use native.Mathlib.Nat.{mod-lt, mul-le-mul_left, add-mul}
use native.Mathlib.Numerals.{add-one}
use native.Mathlib.Omega.{arith}
use borrow.Author.Tests.{le-leb, lt-leb, eq-eqb, ne_eqb, eqb-true}
use lib.Dec.{leb, eqb}
use lib.ListN.{length, get_or}
use Rattle.code.specs.Inner.Grid.{weight_of, scatter, gather, order_at_most}
use Rattle.poly.specs.Inner.Ranges.{part}
use Rattle.poly.proofs.Bools.{true_or_false}
use Rattle.poly.proofs.Parts.{part_at}
use Rattle.code.specs.Inner.Highest.{Highest}
use Rattle.code.proofs.GridEntries.{Split, split_sum, scatter_above, scatter_gather}

module _ (q m : ℕ) (grid : List ℕ) where
  abbrev Within : ℕ → Type 0
  Within n = (e : ℕ) → e < n → m < weight_of q e → get_or grid e 0 ≡ 0

  pub within_zero : order_at_most q m 0 grid ≡ true
  unfolding order_at_most
  within_zero = refl

  -- one entry more, of a small weight or zero
  pub within_low : (e : ℕ) → order_at_most q m e grid ≡ true → weight_of q e ≤ m → order_at_most q m (suc e) grid ≡ true
  unfolding order_at_most
  within_low e h l = rw (h, le-leb (weight_of q e) m l)

  pub within_none : (e : ℕ) → order_at_most q m e grid ≡ true → m < weight_of q e → get_or grid e 0 ≡ 0 → order_at_most q m (suc e) grid ≡ true
  unfolding order_at_most
  within_none e h l z = rw (h, lt-leb (weight_of q e) m l, eq-eqb (get_or grid e 0) 0 z)

  pub within_of : (n : ℕ) → Within n → order_at_most q m n grid ≡ true
  within_of zero h = within_zero
  within_of (suc n) h =
      let ih = within_of n (λ e l. h e (omega arith)) in
      elim (dec_lt m (weight_of q n)) [
        | yes l ↦ within_none n ih l (h n (omega arith) l)
        | no d ↦ within_low n ih (omega arith)
      ]

  both : (a b : Bool) → a && b ≡ true → (a ≡ true) × (b ≡ true)
  both true b e = (refl, e)
  both false b e = let o : ◌≡◌ {A = ℕ} 0 1 = cc in absurd (omega arith)

  last : (n : ℕ) → order_at_most q m (suc n) grid ≡ true → (order_at_most q m n grid ≡ true) × (m < weight_of q n → get_or grid n 0 ≡ 0)
  unfolding order_at_most
  last n e =
      let r = both (order_at_most q m n grid) (leb (weight_of q n) m || eqb (get_or grid n 0) 0) e in
      (r.0, λ l. eqb-true (get_or grid n 0) 0 (rw (lt-leb (weight_of q n) m l) at r.1))

  pub of_within : (n : ℕ) → order_at_most q m n grid ≡ true → Within n
  of_within zero t e l = absurd (omega arith)
  of_within (suc n) t e l =
      elim (ℕ_discrete e n) [
        | yes d ↦ rw d (last n t).1
        | no d ↦ of_within n (last n t).0 e (omega arith)
      ]

  -- an entry that is found wrong
  pub not_within : (n e : ℕ) → e < n → m < weight_of q e → (get_or grid e 0 ≡ 0 → ⊥) → order_at_most q m n grid ≡ false
  not_within n e l w d =
      elim (true_or_false (order_at_most q m n grid)) [ inl t ↦ absurd (d (of_within n t e l w)) | inr f ↦ f ]

pub within_scatter : (q : ℕ) → 0 < q → (n m : ℕ) (message : List ℕ) → order_at_most q m n (scatter q n m message) ≡ true
within_scatter q pos n m message = within_of q m (scatter q n m message) n (λ e _ l. scatter_above q pos n message (suc m) e l)

pub within_message : (q : ℕ) → 0 < q → (n m : ℕ) (grid : List ℕ) → length grid ≡ n → order_at_most q m n grid ≡ true
    → scatter q n m (gather q m grid) ≡ grid
within_message q pos n m grid h t = scatter_gather q pos n m grid h (of_within q m grid n t)

-- ---- the loop that tests

module _ (q m : ℕ) (grid : List ℕ) where
  -- what it may begin with: entries whose weight is surely no higher than m
  pub within_start : 0 < q → (e : ℕ) → e + q * q ≤ m → order_at_most q m e grid ≡ true
  within_start pos e h =
      within_of q m grid e
      (λ i l w. let j : i % q ≤ q = omega (arith, mod-lt i pos) in absurd (omega (arith, mul-le-mul_left q j)))

  pub within_less : (e n : ℕ) → n ≤ e → order_at_most q m e grid ≡ true → order_at_most q m n grid ≡ true
  within_less e n l h = within_of q m grid n (λ i k. of_within q m grid e h i (omega arith))

  -- what it may end with: entries whose weight is surely above m
  pub within_rest : (e high : ℕ) → order_at_most q m e grid ≡ true → m < e → e ≤ length grid
      → Highest (part grid e (length grid)) (length grid - e) high → eqb high 0 ≡ order_at_most q m (length grid) grid
  within_rest e high h l k top =
      elim (ℕ_discrete high 0) [
        | yes z ↦ eq-eqb high 0 z ∙ sym (within_of q m grid (length grid) (λ i a w. elim (dec_lt i e) [
          | yes a' ↦ of_within q m grid e h i a' w
          | no d ↦
              let b : i - e < length grid - e = omega arith in
              let is : e + (i - e) ≡ i = omega arith in
              ap (λ (t : ℕ). get_or grid t 0) (sym is) ∙ sym (part_at grid e (length grid) (i - e) (omega arith))
              ∙ omega (arith, top.bound (i - e) b, z)
        ]))
        | no n ↦
            let w = top.one n in
            let v = part_at grid e (length grid) w.0 (omega (arith, w.1)) in
            ne_eqb high 0 n ∙ sym (not_within q m grid (length grid) (e + w.0) (omega (arith, w.1)) (omega arith)
            (λ z. n (omega (arith, w.2, v, z))))
      ]

-- a turn: i and j are e divided by q, with its remainder, as the code has them
module _ (q m e i j : ℕ) (grid : List ℕ) (d : Split q e i j) (h : order_at_most q m e grid ≡ true) where
  weight_is : q * i + (q + 1) * j ≡ weight_of q e
  weight_is = omega (arith, split_sum q e i j d, add-mul q 1 j, ap (λ (x : ℕ). q * x) d.1)

  pub within_turn : (m < q * i + (q + 1) * j → get_or grid e 0 ≡ 0) → order_at_most q m (e + 1) grid ≡ true
  within_turn z =
      rw (add-one e)
      (elim (dec_lt m (weight_of q e)) [
        | yes l ↦ within_none q m grid e h l (z (rw weight_is l))
        | no n ↦ within_low q m grid e h (omega arith)
      ])

  pub within_stop : (n : ℕ) → e < n → m < q * i + (q + 1) * j → (get_or grid e 0 ≡ 0 → ⊥) → order_at_most q m n grid ≡ false
  within_stop n l w z = not_within q m grid n e l (omega (arith, weight_is)) z
