-- Sixteen numbers side by side: their number, each of them, where they are below a bound, and lists of at most sixteen as such.
-- Assumes nothing.
use mathlib.Core.List.{List}
use mathlib.Core.Path.{◌≡◌, sym, ap, ◌∙◌}
use Prim.Native.Nat.{ℕ, ◌≤◌, ◌<◌}
use native.Mathlib.Decide.{dec_lt}
use native.Mathlib.Omega.{arith}
use lib.ListN.{length, replicate, length-replicate, get_or-replicate, get_or-eq_default}
use lib.Seq.{ext_get_or}
use Rattle.field.specs.Plus.{plus}
use Rattle.poly.specs.Inner.Ranges.{Below, writes}
use Rattle.poly.specs.Inner.Linear.{entry}
use Rattle.poly.specs.Inner.Rows.{stored}
use Rattle.poly.specs.Inner.Lanes.{lanes}
use Rattle.poly.proofs.Writes.{length_writes, writes_in, writes_end}
use Rattle.poly.proofs.Entries.{padded}

module _ (f : ℕ → ℕ) where
  pub length_lanes : length (lanes f) ≡ 16
  unfolding lanes
  length_lanes = length_writes (replicate 16 0) f 16 ∙ length-replicate {A = ℕ} 16 0

  pub lanes_at : (t : ℕ) → t < 16 → entry (lanes f) t ≡ f t
  unfolding lanes
  lanes_at t h = writes_in (replicate 16 0) f 16 t h (omega (arith, length-replicate {A = ℕ} 16 0))

  -- what stands past the sixteenth is 0
  pub lanes_past : (t : ℕ) → 16 ≤ t → entry (lanes f) t ≡ 0
  lanes_past t h = get_or-eq_default (lanes f) 0 {n = t} (omega (arith, length_lanes))

  pub lanes_below : (n : ℕ) → ((t : ℕ) → t < 16 → f t < n) → Below n (lanes f)
  lanes_below n h t = elim (dec_lt t 16) [
    | yes l ↦ rw (lanes_at t l) (h t l)
    | no d ↦ rw (lanes_past t (omega arith)) (omega (arith, h 0 (omega arith)))
  ]

  -- the list that a loop of sixteen stores leaves
  pub lanes_end : (r : List ℕ) (t : ℕ) → r ≡ writes (replicate 16 0) t f → t ≤ 16 → 16 ≤ t → r ≡ lanes f
  unfolding lanes
  lanes_end r t e a b = writes_end (replicate 16 0) f r t 16 e a b

  -- a list of sixteen, each given
  pub is_lanes : (l : List ℕ) → length l ≡ 16 → ((t : ℕ) → t < 16 → entry l t ≡ f t) → l ≡ lanes f
  is_lanes l long e =
      ext_get_or 0 l (lanes f) (long ∙ sym length_lanes) (λ t b. let k : t < 16 = omega (arith, long) in e t k ∙ sym (lanes_at t k))

-- the same numbers below 16
pub lanes_cong : (f g : ℕ → ℕ) → ((t : ℕ) → t < 16 → f t ≡ g t) → lanes f ≡ lanes g
lanes_cong f g e = is_lanes g (lanes f) (length_lanes f) (λ t k. lanes_at f t k ∙ e t k)

-- ---- the same number in every lane

pub constant_below : (b c : ℕ) → c < b → Below b (replicate 16 c)
constant_below b c h t = elim (dec_lt t 16) [
  | yes l ↦ rw (get_or-replicate 16 t c 0 l) h
  | no d ↦ rw (get_or-eq_default (replicate 16 c) 0 {n = t} (omega (arith, length-replicate {A = ℕ} 16 c))) (omega arith)
]

pub lanes_constant : (f : ℕ → ℕ → ℕ) (c : ℕ) → lanes (λ t. f t (entry (replicate 16 c) t)) ≡ lanes (λ t. f t c)
lanes_constant f c = lanes_cong _ _ (λ t k. ap (f t) (get_or-replicate 16 t c 0 k))

pub lanes_plus_constant : (f : ℕ → ℕ) (a : List ℕ) (c : ℕ) → a ≡ lanes f
    → lanes (λ t. plus (entry a t) (entry (replicate 16 c) t)) ≡ lanes (λ t. plus (f t) c)
lanes_plus_constant f a c e =
    lanes_constant (λ t u. plus (entry a t) u) c
    ∙ lanes_cong _ _ (λ t k. ap (λ (v : ℕ). plus v c) (ap (λ (l : List ℕ). entry l t) e ∙ lanes_at f t k))

-- ---- a list of at most sixteen, and zeros after it

-- n stores, where no more are needed
pub lanes_first : (l : List ℕ) (n : ℕ) → length l ≤ n → n ≤ 16 → writes (replicate 16 0) n (entry l) ≡ lanes (entry l)
unfolding stored
lanes_first l n short fits =
    is_lanes (entry l) (writes (replicate 16 0) n (entry l)) (length_writes (replicate 16 0) (entry l) n ∙ length-replicate {A = ℕ} 16 0)
    (λ t k. padded 16 n l short fits t)
