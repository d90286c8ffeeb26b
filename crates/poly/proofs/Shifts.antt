-- A set of numbers that contains w + v with each v of it: all but at most w of its members, below any bound, are such a w + v.
-- Assumes nothing.
use mathlib.Core.Path.{◌≡◌, refl, ap}
use mathlib.Core.Bool.{Bool, true, false, not, ◌&&◌}
use mathlib.Core.Logic.{◌⊎◌, inl, inr}
use Prim.Native.Nat.{ℕ, zero, suc, ◌+◌, ◌-◌, ◌≤◌}
use native.Mathlib.Nat.{add-suc, add_comm, add-sub_cancel_left}
use native.Mathlib.Omega.{arith}
use lib.Dec.{T, leb, leb→le, le→leb}
use Rattle.poly.specs.Lists.{one_if, count, below}
use Rattle.field.proofs.Search.{both}
use Rattle.poly.proofs.Bools.{T_true, parts}
use Rattle.poly.proofs.Below.{count_mono, count_add_le}

module _ (s : ℕ → Bool) (w : ℕ) where
  -- u is w + v for a v of s
  shifted : ℕ → Bool
  shifted u = leb w u && s (u - w)

  -- u is a member of s, and not such a sum
  pub unshifted : ℕ → Bool
  unshifted u = s u && not (shifted u)

  shifted_add : (v : ℕ) → shifted (w + v) ≡ s v
  unfolding shifted
  shifted_add v = rw (add-sub_cancel_left, T_true (leb w (w + v)) (le→leb w (w + v) (omega arith)))

  pub unshifted_or_sum : (u : ℕ) → T (s u) → T (unshifted u) ⊎ ((v : ℕ) × (u ≡ w + v) × T (s v))
  unfolding unshifted shifted
  unshifted_or_sum u su = go (leb w u) refl (s (u - w)) refl
    where
      go : (a : Bool) → leb w u ≡ a → (b : Bool) → s (u - w) ≡ b → T (s u && not (a && b)) ⊎ ((v : ℕ) × (u ≡ w + v) × T (s v))
      go true e true e' = inr (u - w, omega (arith, leb→le w u (rw e tt)), rw e' tt)
      go true e false e' = inl (both (s u) true su tt)
      go false e b e' = inl (both (s u) true su tt)

  module _ (h : (v : ℕ) → T (s v) → T (s (w + v))) where
    unshifted_count : (k : ℕ) → count unshifted (below (w + k)) + count s (below k) ≤ count s (below (w + k))
    unfolding count below unshifted
    unshifted_count zero = omega (arith, count_mono unshifted s (w + 0) λ t l r. (parts (s t) (not (shifted t)) r).0)
    unshifted_count (suc k) =
        rw (add-suc w k)
        (omega (arith, unshifted_count k, go (s (w + k)) (s k) (h k), ap (λ (x : Bool). one_if (s (w + k) && not x)) (shifted_add k)))
      where
        go : (a b : Bool) → (T b → T a) → one_if (a && not b) + one_if b ≤ one_if a
        go true true x = omega arith
        go true false x = omega arith
        go false true x = absurd (x tt)
        go false false x = omega arith

    pub unshifted_le : (k : ℕ) → count unshifted (below (w + k)) ≤ w
    unshifted_le k = omega (arith, unshifted_count k, count_add_le s k w, ap (λ (x : ℕ). count s (below x)) (add_comm w k))
