-- The front of an array of zeros, which is lent and comes back, written by a loop of stores or otherwise; and what is lent of it again, all or a
-- part. The front of an array of the same number.
-- Assumes nothing.
use mathlib.Core.List.{List, ◌∷◌, ◌++◌}
use mathlib.Core.Path.{◌≡◌, refl, sym, ap, ◌∙◌}
use Prim.Native.Nat.{ℕ, zero, suc, ◌+◌, ◌-◌, ◌≤◌, ◌<◌}
use native.Mathlib.Nat.{not-suc-le-zero}
use native.Mathlib.Decide.{dec_lt}
use native.Mathlib.Omega.{arith}
use lib.ListN.{length, get_or, replicate, take, drop, length-append, length-replicate, get_or-append}
use lib.Seq.{length-take-le, length_front, take_at, take-append-le, get_or-append-add, get_or-drop}
use Rattle.poly.specs.Inner.Ranges.{Below, writes}
use Rattle.poly.proofs.Entries.{zeros, get_or_zeros}
use Rattle.poly.proofs.Writes.{length_writes, writes_in}

pub take_replicate : (n m v : ℕ) → n ≤ m → take n (replicate m v) ≡ replicate n v
take_replicate zero m v h = refl
take_replicate (suc n) zero v h = absurd (not-suc-le-zero h)
take_replicate (suc n) (suc m) v h = ap (λ (l : List ℕ). v ∷ l) (take_replicate n m v (omega arith))

module _ (size n : ℕ) (few : n ≤ size) where
  pub lent_long : length (take n (zeros size)) ≡ n
  lent_long = length-take-le n (zeros size) (omega (arith, length-replicate {A = ℕ} size 0))

  module _ (front : List ℕ) (same : length front ≡ length (take n (zeros size))) where
    pub front_long : length front ≡ n
    front_long = same ∙ lent_long

    -- the array has its length again
    pub array_long : size ≡ length (front ++ drop n (zeros size))
    array_long = sym (length_front (zeros size) front n same ∙ length-replicate {A = ℕ} size 0)

module _ (n : ℕ) (front rest : List ℕ) (long : length front ≡ n) where
  pub front_fits : n ≤ length (front ++ rest)
  front_fits = omega (arith, length-append front rest, long)

  pub front_again : take n (front ++ rest) ≡ front
  front_again = take_at front rest n long

  pub again_long : length (take n (front ++ rest)) ≡ n
  again_long = ap length front_again ∙ long

  -- a part of it
  module _ (m : ℕ) (l : m ≤ n) where
    pub part_is : take m (front ++ rest) ≡ take m front
    part_is = take-append-le m front rest (omega (arith, long))

    pub part_fits : m ≤ length (front ++ rest)
    part_fits = omega (arith, front_fits)

    pub part_long : m ≡ length (take m (front ++ rest))
    part_long = sym (length-take-le m (front ++ rest) part_fits)

-- ---- a front that is written

module _ (size n : ℕ) (few : n ≤ size) (f : ℕ → ℕ) (front : List ℕ) (is : front ≡ writes (take n (zeros size)) n f) where
  pub written_front : length front ≡ n
  written_front = ap length is ∙ length_writes (take n (zeros size)) f n ∙ lent_long size n few

  pub written_long : length (front ++ drop n (zeros size)) ≡ size
  written_long = sym (array_long size n few front (written_front ∙ sym (lent_long size n few)))

  pub written_inside : (p : ℕ) → p < n → get_or (front ++ drop n (zeros size)) p 0 ≡ f p
  written_inside p l =
      get_or-append front (drop n (zeros size)) 0 p (omega (arith, written_front))
      ∙ ap (λ (x : List ℕ). get_or x p 0) is ∙ writes_in (take n (zeros size)) f n p l (omega (arith, lent_long size n few))

  pub written_outside : (p : ℕ) → n ≤ p → get_or (front ++ drop n (zeros size)) p 0 ≡ 0
  written_outside p l =
      let rest = drop n (zeros size) in
      let e : length front + (p - n) ≡ p = omega (arith, written_front) in
      ap (λ (j : ℕ). get_or (front ++ rest) j 0) (sym e) ∙ get_or-append-add front rest (p - n) 0
      ∙ get_or-drop n (zeros size) (p - n) 0 ∙ get_or_zeros size (n + (p - n))

  pub written_below : (b : ℕ) → 0 < b → ((p : ℕ) → p < n → f p < b) → Below b (front ++ drop n (zeros size))
  written_below b pos h p = elim (dec_lt p n) [
    | yes l ↦ rw (written_inside p l) (h p l)
    | no d ↦ rw (written_outside p (omega arith)) pos
  ]
