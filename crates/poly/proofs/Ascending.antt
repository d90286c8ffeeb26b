-- Lists of numbers that strictly ascend, below a bound: what the test says, and how a loop finds it.
-- Assumes nothing.
use mathlib.Core.Bool.{Bool}
use mathlib.Core.List.{List}
use mathlib.Core.Path.{◌≡◌, refl, sym, ap}
use Prim.Native.Nat.{ℕ, zero, suc, ◌+◌, ◌-◌, ◌≤◌, ◌<◌}
use native.Mathlib.Decide.{ℕ_discrete, dec_lt}
use native.Mathlib.Omega.{arith}
use lib.Dec.{T, ltb, ltb→lt, lt→ltb}
use lib.ListN.{length, get_or}
use Rattle.field.proofs.Search.{of_every, to_every, both}
use Rattle.poly.specs.Ascending.{is_ascending, are_below, is_ascending_below}
use Rattle.poly.specs.Lists.{Nodup}
use Rattle.poly.proofs.Bools.{parts}
use Rattle.poly.proofs.Lists.{get_or_nodup}

pub record AscendingBelow (n : ℕ) (list : List ℕ) : Type 0 where
  pub ascending : (i j : ℕ) → i < j → j < length list → get_or list i 0 < get_or list j 0
  pub below : (i : ℕ) → i < length list → get_or list i 0 < n

-- each is less than the next, so they ascend
from_next : (list : List ℕ) → ((i : ℕ) → suc i < length list → get_or list i 0 < get_or list (suc i) 0)
    → (i d : ℕ) → i + suc d < length list → get_or list i 0 < get_or list (i + suc d) 0
from_next list h i zero l = let e : i + 1 ≡ suc i = omega arith in rw e (h i (omega arith))
from_next list h i (suc d) l =
    let e : i + suc (suc d) ≡ suc (i + suc d) = omega arith in
    let a = from_next list h i d (omega arith) in
    let b = h (i + suc d) (omega arith) in
    rw e (omega arith)

module _ (n : ℕ) (list : List ℕ) where
  abbrev next : ℕ → Bool
  next i = ltb (get_or list i 0) (get_or list (suc i) 0)

  abbrev inside : ℕ → Bool
  inside i = ltb (get_or list i 0) n

  pub of_ascending : T (is_ascending_below n list) → AscendingBelow n list
  unfolding is_ascending_below is_ascending are_below
  of_ascending t =
      let b = parts (is_ascending list) (are_below n list) t in
      record {
        ascending = λ i j l m.
            let e : i + suc (j - suc i) ≡ j = omega arith in
            rw (← e) (from_next list (λ i l. ltb→lt (get_or list i 0) (get_or list (suc i) 0) (of_every (length list - 1) next b.0 i (omega arith)))
            i (j - suc i) (omega arith));
        below = λ i l. ltb→lt (get_or list i 0) n (of_every (length list) inside b.1 i l);
      }

  by_next : ((j : ℕ) → suc j < length list → get_or list j 0 < get_or list (suc j) 0) → ((j : ℕ) → j < length list → get_or list j 0 < n)
      → T (is_ascending_below n list)
  unfolding is_ascending_below is_ascending are_below
  by_next a b =
      both (is_ascending list) (are_below n list)
      (to_every (length list - 1) next (λ i l. lt→ltb (get_or list i 0) (get_or list (suc i) 0) (a i (omega arith))))
      (to_every (length list) inside (λ i l. lt→ltb (get_or list i 0) n (b i l)))

  pub to_ascending : AscendingBelow n list → T (is_ascending_below n list)
  to_ascending h = by_next (λ j l. h.ascending j (suc j) (omega arith) l) h.below

  -- no number stands twice
  pub ascending_nodup : AscendingBelow n list → Nodup list
  ascending_nodup h = get_or_nodup list 0 (λ i j a b e. elim (ℕ_discrete i j) [
    | yes f ↦ f
    | no d ↦ elim (dec_lt i j) [
      | yes l ↦ absurd (omega (arith, h.ascending i j l b))
      | no l ↦ absurd (omega (arith, h.ascending j i (omega arith) a))
    ]
  ])

  -- ---- the test, by a loop: the first i numbers ascend below n, and each number after them must be least or more

  pub record FirstAscend (least i : ℕ) : Type 0 where
    pub within : i ≤ length list
    pub first : i ≡ 0 → least ≡ 0
    pub last : (j : ℕ) → suc j ≡ i → least ≡ suc (get_or list j 0)
    pub nexts : (j : ℕ) → suc j < i → get_or list j 0 < get_or list (suc j) 0
    pub inside_n : (j : ℕ) → j < i → get_or list j 0 < n

  pub first_none : FirstAscend 0 0
  first_none =
      record { within = omega arith; first = λ e. refl; last = λ j e. absurd (omega arith); nexts = λ j l. absurd (omega arith); inside_n = λ j l. absurd (omega arith) }

  module _ (least i : ℕ) (h : FirstAscend least i) where
    pub first_turn : i < length list → least ≤ get_or list i 0 → get_or list i 0 < n → FirstAscend (get_or list i 0 + 1) (i + 1)
    first_turn l a b =
        record {
          within = omega arith;
          first = λ e. absurd (omega arith);
          last = λ j e. let s : j ≡ i = omega arith in rw s (omega arith);
          nexts = λ j m. elim (ℕ_discrete (suc j) i) [
            | yes e ↦ rw e (omega (arith, h.last j e))
            | no d ↦ h.nexts j (omega arith)
          ];
          inside_n = λ j m. elim (ℕ_discrete j i) [ yes e ↦ rw e b | no d ↦ h.inside_n j (omega arith) ];
        }

    -- a number that is too small or too large
    pub not_ascending : i < length list → get_or list i 0 < least → T (is_ascending_below n list) → ⊥
    not_ascending l a t = refuted (of_ascending t) i refl
      where
        refuted : AscendingBelow n list → (j : ℕ) → j ≡ i → ⊥
        refuted p zero e = omega (arith, h.first (sym e))
        refuted p (suc j) e = omega (arith, h.last j e, p.ascending j (suc j) (omega arith) (omega arith), ap (λ (x : ℕ). get_or list x 0) e)

    pub not_below : i < length list → n ≤ get_or list i 0 → T (is_ascending_below n list) → ⊥
    not_below l a t = omega (arith, (of_ascending t).below i l)

    pub all_ascend : length list ≤ i → T (is_ascending_below n list)
    all_ascend l = by_next (λ j m. h.nexts j (omega arith)) (λ j m. h.inside_n j (omega arith))
