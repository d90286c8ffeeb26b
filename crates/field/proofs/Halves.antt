-- A symbol is the sum of its low half and of its high half times the symbol whose number is the half. The product by z, and by the half.
-- Assumes nothing.
use mathlib.Core.Bool.{Bool}
use mathlib.Core.Path.{◌≡◌, refl, sym, ap, ◌∙◌}
use Prim.Native.Nat.{ℕ, ◌+◌, ◌*◌, ◌/◌, ◌%◌, ◌^◌, ◌≤◌, ◌<◌}
use native.Mathlib.Nat.{mod-lt, div-lt_iff_lt-mul}
use native.Mathlib.Omega.{arith}
use lib.Pow.{pow_pos}
use lib.Dec.{T, eqb, eqb→eq}
use Rattle.field.specs.Plus.{plus}
use Rattle.field.specs.Curve.{bits_of}
use Rattle.field.specs.Inner.Halves.{half_of}
use Rattle.field.specs.Tests.{every}
use Rattle.field.specs.Product.{times_z, times}
use Rattle.field.proofs.Fields.{each}
use Rattle.field.proofs.Formula.{times_z_within}
use Rattle.field.proofs.Plus.{plus_shifted}
use Rattle.field.proofs.Search.{of_every}

-- of all symbols of e bits
unfoldable joined : ℕ → Bool
unfolding times every plus
joined e = every (2 ^ e) (λ a. eqb (plus (a % 2 ^ (e / 2)) (times e (2 ^ (e / 2)) (a / 2 ^ (e / 2)))) a)

joined_2 : T (joined 2)
unfolding joined
joined_2 = tt

joined_4 : T (joined 4)
unfolding joined
joined_4 = tt

joined_6 : T (joined 6)
unfolding joined
joined_6 = tt

pub halves : (q a : ℕ) → a < 2 ^ bits_of q → plus (a % half_of q) (times (bits_of q) (half_of q) (a / half_of q)) ≡ a
unfolding joined
halves q a l =
    let half = half_of q in
    eqb→eq (plus (a % half) (times (bits_of q) half (a / half))) a
    (of_every (2 ^ bits_of q) (λ a. eqb (plus (a % half) (times (bits_of q) half (a / half))) a) (each (λ e. T (joined e)) joined_2 joined_4 joined_6 q) a l)

-- ---- the half

pub half_even : (q : ℕ) → 2 * (half_of q / 2) ≡ half_of q
half_even = each (λ e. 2 * (2 ^ (e / 2) / 2) ≡ 2 ^ (e / 2)) refl refl refl

pub half_le : (q : ℕ) → half_of q ≤ 8
half_le = each (λ e. 2 ^ (e / 2) ≤ 8) (omega arith) (omega arith) (omega arith)

pub two_le_half : (q : ℕ) → 2 ≤ half_of q
two_le_half = each (λ e. 2 ≤ 2 ^ (e / 2)) (omega arith) (omega arith) (omega arith)

half_half : (q : ℕ) → half_of q * half_of q ≡ 2 ^ bits_of q
half_half = each (λ e. 2 ^ (e / 2) * 2 ^ (e / 2) ≡ 2 ^ e) refl refl refl

pub half_lt : (q : ℕ) → half_of q < 2 ^ bits_of q
half_lt = each (λ e. 2 ^ (e / 2) < 2 ^ e) (omega arith) (omega arith) (omega arith)

pub low_half_lt : (q a : ℕ) → a % half_of q < half_of q
low_half_lt q a = mod-lt a (pow_pos (bits_of q / 2))

pub high_half_lt : (q a : ℕ) → a < 2 ^ bits_of q → a / half_of q < half_of q
high_half_lt q a l = (div-lt_iff_lt-mul {x = a} {y = half_of q} (pow_pos (bits_of q / 2))).1 (rw (half_half q) l)

-- ---- the product by z

-- of all symbols of e bits
unfoldable shifted : ℕ → Bool
unfolding times every
shifted e = every (2 ^ e) (λ a. eqb (times_z e a) (times e 2 a))

shifted_2 : T (shifted 2)
unfolding shifted
shifted_2 = tt

shifted_4 : T (shifted 4)
unfolding shifted
shifted_4 = tt

shifted_6 : T (shifted 6)
unfolding shifted
shifted_6 = tt

pub is_times_two : (q a : ℕ) → a < 2 ^ bits_of q → times_z (bits_of q) a ≡ times (bits_of q) 2 a
unfolding shifted
is_times_two q a l =
    eqb→eq (times_z (bits_of q) a) (times (bits_of q) 2 a)
    (of_every (2 ^ bits_of q) (λ a. eqb (times_z (bits_of q) a) (times (bits_of q) 2 a)) (each (λ e. T (shifted e)) shifted_2 shifted_4 shifted_6 q) a l)

-- no bit comes out
pub two_times : (q a : ℕ) → a + a < 2 ^ bits_of q → times (bits_of q) 2 a ≡ 2 * a
two_times q a l = sym (is_times_two q a (omega arith)) ∙ times_z_within (bits_of q) a l ∙ omega arith

pub two_times_half : (q : ℕ) → times (bits_of q) 2 (half_of q / 2) ≡ half_of q
two_times_half q = two_times q (half_of q / 2) (omega (arith, half_even q, half_lt q)) ∙ half_even q

pub plus_one : (a : ℕ) → plus (2 * a) 1 ≡ 2 * a + 1
plus_one a = let e : 2 * a ≡ a * 2 ^ 1 = omega arith in ap (λ (x : ℕ). plus x 1) e ∙ plus_shifted a 1 1 (omega arith) ∙ omega arith
