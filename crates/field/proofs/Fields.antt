-- The fields of 4, 16 and 64 elements, as instances of the laws of a field.
-- Assumes nothing.
use mathlib.Core.Bool.{Bool, true, false, cond}
use mathlib.Core.Path.{◌≡◌, refl}
use Prim.Native.Nat.{ℕ, zero, suc, ◌-◌, ◌^◌, ◌≤◌, ◌<◌}
use native.Mathlib.Nat.{le_refl}
use native.Mathlib.Omega.{arith}
use lib.Dec.{T, eqb, eqb→eq, lit≤}
use lib.Pow.{pow_pos, pow-lt}
use Rattle.field.specs.Field.{Field}
use Rattle.field.specs.Curve.{bits_of}
use Rattle.field.specs.Tests.{every}
use Rattle.field.specs.Product.{times, inverse}
use Rattle.field.proofs.Product.{times_lt, times_plus, times_comm, times_assoc, times_one}
use Rattle.field.proofs.Plus.{plus_lt}
use Rattle.field.proofs.Search.{of_every, last_below_lt}

-- each element but 0 has an inverse
unfoldable pub invertible : ℕ → Bool
unfolding inverse every
invertible e = every (2 ^ e - 1) (λ a. eqb (times e (suc a) (inverse e (suc a))) 1)

pub inverse_lt : (e a : ℕ) → inverse e a < 2 ^ e
unfolding inverse
inverse_lt e a = last_below_lt (λ b. eqb (times e a b) 1) (2 ^ e) (2 ^ e) (pow_pos e) (le_refl (2 ^ e))

pub times_inverse : (e : ℕ) → T (invertible e) → (a : ℕ) → a < 2 ^ e → (a ≡ 0 → ⊥) → times e a (inverse e a) ≡ 1
unfolding invertible
times_inverse e t zero h ne = absurd (ne refl)
times_inverse e t (suc a) h ne =
    eqb→eq (times e (suc a) (inverse e (suc a))) 1
    (of_every (2 ^ e - 1) (λ a. eqb (times e (suc a) (inverse e (suc a))) 1) t a (omega arith))

abbrev pub binary_field : (e : ℕ) → 2 ≤ e → T (invertible e) → Field
binary_field e two t =
    record {
      size = 2 ^ e;
      two_le = pow-lt {i = 0} (omega arith);
      times = times e;
      inverse = inverse e;
      plus_lt = plus_lt e;
      times_lt = times_lt e two;
      times_comm = times_comm e two;
      times_assoc = times_assoc e two;
      times_plus = times_plus e two;
      times_one = times_one e two;
      inverse_lt = inverse_lt e;
      times_inverse = times_inverse e t;
    }

invertible2 : T (invertible 2)
unfolding invertible
invertible2 = tt

invertible4 : T (invertible 4)
unfolding invertible
invertible4 = tt

invertible6 : T (invertible 6)
unfolding invertible
invertible6 = tt

-- what holds of each curve's count of bits
pub each : (P : ℕ → Type 0) → P 2 → P 4 → P 6 → (q : ℕ) → P (bits_of q)
each P p2 p4 p6 q = choice (eqb q 2) (eqb q 8)
  where
    choice : (t u : Bool) → P (cond t 2 (cond u 6 4))
    choice true u = p2
    choice false true = p6
    choice false false = p4

pub two_bits : (q : ℕ) → 2 ≤ bits_of q
two_bits = each (λ e. 2 ≤ e) (lit≤ tt) (lit≤ tt) (lit≤ tt)

pub bits_invertible : (q : ℕ) → T (invertible (bits_of q))
bits_invertible = each (λ e. T (invertible e)) invertible2 invertible4 invertible6

-- the field of q^2 elements
abbrev pub field_of : ℕ → Field
field_of q = binary_field (bits_of q) (two_bits q) (bits_invertible q)
