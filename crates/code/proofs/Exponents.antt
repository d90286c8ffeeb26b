-- The exponent of a power of Q is its r.
-- Assumes nothing.
use mathlib.Core.Path.{◌≡◌}
use Prim.Native.Nat.{ℕ, zero, suc, ◌+◌, ◌^◌, ◌≤◌, ◌<◌}
use native.Mathlib.Nat.{pow-zero, pow-suc, le_refl, mul-le-mul_left, one-le-pow, pow-le-pow_right}
use native.Mathlib.Decide.{ℕ_discrete}
use native.Mathlib.Omega.{arith}
use borrow.Author.Tests.{le-leb, lt-leb}
use Rattle.code.specs.Exponent.{exponent_from, exponent}

-- a higher power is larger, and larger than its exponent
pub pow_lt : (Q r s : ℕ) → 1 < Q → r < s → Q ^ r < Q ^ s
pow_lt Q r s h l =
    omega (arith, pow-suc Q r, mul-le-mul_left (Q ^ r) h, one-le-pow r Q (omega arith), pow-le-pow_right {n = Q} (omega arith) l)

pub lt_pow : (Q r : ℕ) → 1 < Q → r < Q ^ r
lt_pow Q zero h = rw pow-zero (omega arith)
lt_pow Q (suc r) h = omega (arith, pow-suc Q r, lt_pow Q r h, mul-le-mul_left (Q ^ r) h)

exponent_from_power : (steps Q r s : ℕ) → 1 < Q → s ≤ r → r ≤ s + steps → exponent_from steps Q (Q ^ r) s ≡ r
unfolding exponent_from
exponent_from_power zero Q r s h l b = omega arith
exponent_from_power (suc steps) Q r s h l b =
    elim (ℕ_discrete s r) [
      | yes e ↦ rw (e, le-leb (Q ^ r) (Q ^ r) (le_refl (Q ^ r)))
      | no d ↦ rw (lt-leb (Q ^ r) (Q ^ s) (pow_lt Q s r h (omega arith))) (exponent_from_power steps Q r (suc s) h (omega arith) (omega arith))
    ]

pub exponent_power : (Q r : ℕ) → 1 < Q → exponent Q (Q ^ r) ≡ r
unfolding exponent
exponent_power Q r h = exponent_from_power (Q ^ r) Q r 0 h (omega arith) (omega (arith, lt_pow Q r h))
