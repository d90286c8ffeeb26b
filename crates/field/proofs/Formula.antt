-- The product as the code works it out: z times a number by a comparison, and the bits of the second factor one by one.
-- Assumes nothing.
use mathlib.Core.Bool.{Bool, true, false, cond}
use mathlib.Core.Path.{◌≡◌, ap, ap₂, ◌∙◌}
use Prim.Native.Nat.{ℕ, ◌+◌, ◌-◌, ◌*◌, ◌/◌, ◌%◌, ◌^◌, ◌≤◌, ◌<◌}
use native.Mathlib.Nat.{zero-mul, mod-eq_of_lt, div-eq_of_lt, add-mul-div_right, mul-add-mod_self_right}
use native.Mathlib.Omega.{arith}
use lib.Dec.{eqb}
use lib.Pow.{pow_pos, pow_mono}
use borrow.Author.Tests.{ne_eqb}
use Rattle.field.specs.Curve.{bits_of}
use Rattle.field.specs.Plus.{plus}
use Rattle.field.specs.Product.{times_z, times}
use Rattle.field.specs.Inner.FourBits.{four_bits}
use Rattle.field.proofs.Plus.{plus_ac, plus_zero, plus_shifted}
use Rattle.field.proofs.Product.{times_z_lt}
use Rattle.field.proofs.Fields.{two_bits}

-- no bit comes out
pub times_z_within : (e a : ℕ) → a + a < 2 ^ e → times_z e a ≡ a + a
unfolding times_z
times_z_within e a h =
    let twice : a * 2 ≡ a + a = omega arith in
    ap (λ (x : ℕ). plus (x % 2 ^ e) (x / 2 ^ e % 2 * 3)) twice
    ∙ ap₂ (λ (x y : ℕ). plus x (y % 2 * 3)) (mod-eq_of_lt h) (div-eq_of_lt h)
    ∙ plus_zero (a + a)

-- a bit comes out
pub times_z_out : (e a : ℕ) → 2 ≤ e → 2 ^ e ≤ a + a → a < 2 ^ e → times_z e a ≡ plus (a + a) (2 ^ e + 3)
unfolding times_z
times_z_out e a two h small =
    let r = a + a - 2 ^ e in
    let l : r < 2 ^ e = omega arith in
    let twice : a * 2 ≡ 1 * 2 ^ e + r = omega arith in
    let turned : a * 2 ≡ r + 1 * 2 ^ e = omega arith in
    let rest : a * 2 % 2 ^ e ≡ r = ap (λ (x : ℕ). x % 2 ^ e) twice ∙ mul-add-mod_self_right 1 (2 ^ e) r ∙ mod-eq_of_lt l in
    let bit : a * 2 / 2 ^ e ≡ 0 + 1 = ap (λ (x : ℕ). x / 2 ^ e) turned ∙ add-mul-div_right r 1 (pow_pos e) ∙ ap (λ (x : ℕ). x + 1) (div-eq_of_lt l) in
    let four : 4 ≤ 2 ^ e = pow_mono two in
    let left : plus (1 * 2 ^ e) r ≡ a + a = plus_shifted 1 e r l ∙ omega arith in
    let right : plus (1 * 2 ^ e) 3 ≡ 2 ^ e + 3 = plus_shifted 1 e 3 (omega arith) ∙ omega arith in
    let twice_out : plus r 3 ≡ plus (plus (1 * 2 ^ e) r) (plus (1 * 2 ^ e) 3) = simp plus_ac in
    ap₂ (λ (x y : ℕ). plus x (y % 2 * 3)) rest bit ∙ twice_out ∙ ap₂ plus left right

-- ---- the product by four bits, and by two more

by_two : (a b : ℕ) → a < 4 → b < 4 → times 2 a b ≡ four_bits 2 a b
unfolding times
by_two a b ha hb =
    let none : b / 2 / 2 ≡ 0 = omega arith in
    rw (mod-eq_of_lt ha, none) (simp (plus_ac, zero-mul))

by_four : (a b : ℕ) → a < 16 → times 4 a b ≡ four_bits 4 a b
unfolding times
by_four a b ha = rw (mod-eq_of_lt ha) (simp plus_ac)

pub times_by_four : (q a b : ℕ) → (q ≡ 8 → ⊥) → a < 2 ^ bits_of q → b < 2 ^ bits_of q → times (bits_of q) a b ≡ four_bits (bits_of q) a b
times_by_four q a b n = rw (ne_eqb q 8 n) (go (eqb q 2))
  where
    go : (t : Bool) → a < 2 ^ cond t 2 4 → b < 2 ^ cond t 2 4 → times (cond t 2 4) a b ≡ four_bits (cond t 2 4) a b
    go true = by_two a b
    go false = λ ha hb. by_four a b ha

-- the two bits after the four lowest
abbrev pub next_bits : ℕ → ℕ → ℕ → ℕ
next_bits e a b = let a4 = times_z e (times_z e (times_z e (times_z e a))) in plus (b / 2 / 2 / 2 / 2 % 2 * a4) (b / 2 / 2 / 2 / 2 / 2 % 2 * times_z e a4)

six_terms : (a b c d e f : ℕ) → plus a (plus b (plus c (plus d (plus e (plus f 0))))) ≡ plus (plus (plus a b) (plus c d)) (plus e f)
six_terms a b c d e f = simp plus_ac

pub times_by_six : (a b : ℕ) → a < 64 → times 6 a b ≡ plus (four_bits 6 a b) (next_bits 6 a b)
unfolding times
times_by_six a b ha =
    let z : ℕ → ℕ = times_z 6 in
    rw (mod-eq_of_lt ha)
    (six_terms (b % 2 * a) (b / 2 % 2 * z a) (b / 2 / 2 % 2 * z (z a)) (b / 2 / 2 / 2 % 2 * z (z (z a)))
    (b / 2 / 2 / 2 / 2 % 2 * z (z (z (z a)))) (b / 2 / 2 / 2 / 2 / 2 % 2 * z (z (z (z (z a))))))

-- what is z times a number is a symbol
pub times_z_symbol : (q a r : ℕ) → r ≡ times_z (bits_of q) a → r < 2 ^ bits_of q
times_z_symbol q a r e = rw e (times_z_lt (bits_of q) (two_bits q) a)
