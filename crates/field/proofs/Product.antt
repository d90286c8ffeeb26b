-- The product of the field of 2^e elements is bilinear, commutes, associates and has the unit 1, for every e from 2 on.
-- A map that is linear and passes z through passes `combine` through (`through`), and each element is a combination of the
-- powers of z (`combine_one`); both the order and the grouping of factors follow from these two.
-- Assumes nothing.
use mathlib.Core.Path.{◌≡◌, refl, sym, ap, ap₂, ◌∙◌}
use Prim.Native.Nat.{ℕ, zero, suc, ◌+◌, ◌*◌, ◌/◌, ◌%◌, ◌^◌, ◌≤◌, ◌<◌}
use native.Mathlib.Nat.{zero-mul, one-mul, mul-one, add_comm, mul_assoc, pow-suc, pow-succ', mod-lt, mod-mod, mod-one, add-mul}
use native.Mathlib.Nat.{mul_right_comm, add-mul-div_right, mul-add-mod_self_right, div-add-mod', zero-lt-suc, mod-eq_of_lt, div-eq_of_lt}
use native.Mathlib.Omega.{arith}
use lib.Arith.{mod-mul}
use lib.Pow.{pow_pos, pow_mono, pow-lt}
use Rattle.field.specs.Product.{times_z, combine, times}
use Rattle.field.specs.Plus.{plus}
use Rattle.field.proofs.Plus.{low_bit, plus_lt, plus_mod, plus_div, plus_shifted, plus_half, plus_exchange, plus_double, plus_comm}
use Rattle.field.proofs.Plus.{plus_self, plus_zero, bit_plus, plus_bits}

-- ---- z times a number

pub times_z_plus : (e a b : ℕ) → times_z e (plus a b) ≡ plus (times_z e a) (times_z e b)
unfolding times_z
times_z_plus e a b =
    ap (λ (x : ℕ). plus (x % 2 ^ e) (x / 2 ^ e % 2 * 3)) (plus_double a b)
    ∙ ap₂ plus
    (plus_mod (a * 2) (b * 2) e)
    (ap (λ (x : ℕ). x % 2 * 3) (plus_div (a * 2) (b * 2) e) ∙ plus_bits (a * 2 / 2 ^ e) (b * 2 / 2 ^ e) 3)
    ∙ plus_exchange (a * 2 % 2 ^ e) (b * 2 % 2 ^ e) (a * 2 / 2 ^ e % 2 * 3) (b * 2 / 2 ^ e % 2 * 3)

-- ---- maps that pass sums and z through, and so every combination

pub record Passes (e : ℕ) (f : ℕ → ℕ) : Type 0 where
  pub sums : (a b : ℕ) → f (plus a b) ≡ plus (f a) (f b)
  pub z : (a : ℕ) → f (times_z e a) ≡ times_z e (f a)

module _ (e : ℕ) (f : ℕ → ℕ) (l : Passes e f) where
  zero_through : f 0 ≡ 0
  zero_through = ap f (sym (plus_self 0)) ∙ l.sums 0 0 ∙ plus_self (f 0)

  bit_through : (n a : ℕ) → f (n % 2 * a) ≡ n % 2 * f a
  bit_through n a = low_bit (λ x. f (x * a) ≡ x * f a) (simp zero-mul zero_through) (simp one-mul) n

  pub through : (n a b : ℕ) → f (combine e n a b) ≡ combine e n (f a) b
  unfolding combine
  through zero a b = zero_through
  through (suc n) a b =
      l.sums (b % 2 * a) (combine e n (times_z e a) (b / 2))
      ∙ ap₂ plus (bit_through b a) (through n (times_z e a) (b / 2) ∙ ap (λ (x : ℕ). combine e n x (b / 2)) (l.z a))

times_z_linear : (e : ℕ) → Passes e (times_z e)
times_z_linear e = record { sums = times_z_plus e; z = λ a. refl }

-- ---- combinations are linear in both arguments

combine_left : (e n a b c : ℕ) → combine e n (plus a b) c ≡ plus (combine e n a c) (combine e n b c)
unfolding combine
combine_left e zero a b c = refl
combine_left e (suc n) a b c =
    ap₂ plus (bit_plus c a b)
    (ap (λ (x : ℕ). combine e n x (c / 2)) (times_z_plus e a b) ∙ combine_left e n (times_z e a) (times_z e b) (c / 2))
    ∙ plus_exchange (c % 2 * a) (c % 2 * b) (combine e n (times_z e a) (c / 2)) (combine e n (times_z e b) (c / 2))

combine_right : (e n a b c : ℕ) → combine e n a (plus b c) ≡ plus (combine e n a b) (combine e n a c)
unfolding combine
combine_right e zero a b c = refl
combine_right e (suc n) a b c =
    ap₂ plus (plus_bits b c a)
    (ap (combine e n (times_z e a)) (plus_half b c) ∙ combine_right e n (times_z e a) (b / 2) (c / 2))
    ∙ plus_exchange (b % 2 * a) (c % 2 * a) (combine e n (times_z e a) (b / 2)) (combine e n (times_z e a) (c / 2))

-- ---- z times a number reads its e lowest bits

even : (x y : ℕ) → (x + y * 2) % 2 ≡ x % 2
even x y = omega arith

times_z_mod : (e a : ℕ) → times_z e (a % 2 ^ e) ≡ times_z e a
unfolding times_z
times_z_mod e a = ap₂ (λ (x y : ℕ). plus x (y * 3)) (sym low) (sym bit)
  where
    twice : a * 2 ≡ a / 2 ^ e * 2 * 2 ^ e + a % 2 ^ e * 2
    twice =
        ap (λ (x : ℕ). x * 2) (sym (div-add-mod' a (2 ^ e))) ∙ add-mul (a / 2 ^ e * 2 ^ e) (a % 2 ^ e) 2
        ∙ ap (λ (x : ℕ). x + a % 2 ^ e * 2) (mul_right_comm (a / 2 ^ e) (2 ^ e) 2)

    low : a * 2 % 2 ^ e ≡ a % 2 ^ e * 2 % 2 ^ e
    low = ap (λ (x : ℕ). x % 2 ^ e) twice ∙ mul-add-mod_self_right (a / 2 ^ e * 2) (2 ^ e) (a % 2 ^ e * 2)

    bit : a * 2 / 2 ^ e % 2 ≡ a % 2 ^ e * 2 / 2 ^ e % 2
    bit =
        ap (λ (x : ℕ). x / 2 ^ e % 2) (twice ∙ add_comm (a / 2 ^ e * 2 * 2 ^ e) (a % 2 ^ e * 2))
        ∙ ap (λ (x : ℕ). x % 2) (add-mul-div_right (a % 2 ^ e * 2) (a / 2 ^ e * 2) (pow_pos e))
        ∙ even (a % 2 ^ e * 2 / 2 ^ e) (a / 2 ^ e)

-- ---- each element is a combination of the powers of z

times_z_power : (e i : ℕ) → suc i < e → times_z e (2 ^ i) ≡ 2 ^ suc i
unfolding times_z
times_z_power e i h =
    ap (λ (x : ℕ). plus (x % 2 ^ e) (x / 2 ^ e % 2 * 3)) (sym (pow-suc 2 i))
    ∙ ap₂ (λ (x y : ℕ). plus x (y % 2 * 3)) (mod-eq_of_lt (pow-lt h)) (div-eq_of_lt (pow-lt h))
    ∙ plus_zero (2 ^ suc i)

bit_power : (b i : ℕ) → b % 2 * 2 ^ i < 2 ^ suc i
bit_power b i = low_bit (λ x. x * 2 ^ i < 2 ^ suc i) (simp zero-mul (pow_pos (suc i))) (simp one-mul (pow-lt (omega arith))) b

combine_power : (e n i b : ℕ) → i + n ≤ e → combine e n (2 ^ i) b ≡ b % 2 ^ n * 2 ^ i
unfolding combine
combine_power e zero i b h = simp (mod-one, zero-mul)
combine_power e (suc zero) i b h = plus_zero (b % 2 * 2 ^ i)
combine_power e (suc (suc n)) i b h =
    ap (λ (x : ℕ). plus (b % 2 * 2 ^ i) (combine e (suc n) x (b / 2))) (times_z_power e i (omega arith))
    ∙ ap (plus (b % 2 * 2 ^ i)) (combine_power e (suc n) (suc i) (b / 2) (omega arith))
    ∙ plus_comm (b % 2 * 2 ^ i) (b / 2 % 2 ^ suc n * 2 ^ suc i)
    ∙ plus_shifted (b / 2 % 2 ^ suc n) (suc i) (b % 2 * 2 ^ i) (bit_power b i)
    ∙ sym (ap (λ (x : ℕ). x * 2 ^ i) digits ∙ add-mul (b / 2 % 2 ^ suc n * 2) (b % 2) (2 ^ i)
    ∙ ap (λ (x : ℕ). x + b % 2 * 2 ^ i)
    (mul_assoc (b / 2 % 2 ^ suc n) 2 (2 ^ i) ∙ ap (λ (x : ℕ). b / 2 % 2 ^ suc n * x) (sym (pow-succ' 2 i))))
  where
    digits : b % 2 ^ suc (suc n) ≡ b / 2 % 2 ^ suc n * 2 + b % 2
    digits = ap (λ (x : ℕ). b % x) (pow-suc 2 (suc n)) ∙ mod-mul b (pow_pos (suc n)) (zero-lt-suc 1)

-- ---- the laws of the product

module _ (e : ℕ) (two : 2 ≤ e) where
  pub times_z_lt : (a : ℕ) → times_z e a < 2 ^ e
  unfolding times_z
  times_z_lt a =
      plus_lt e (a * 2 % 2 ^ e) (a * 2 / 2 ^ e % 2 * 3) (mod-lt (a * 2) (pow_pos e))
      (low_bit (λ x. x * 3 < 2 ^ e) (pow_pos e) (pow_mono two) (a * 2 / 2 ^ e))

  combine_lt : (n a b : ℕ) → a < 2 ^ e → combine e n a b < 2 ^ e
  unfolding combine
  combine_lt zero a b h = pow_pos e
  combine_lt (suc n) a b h =
      plus_lt e (b % 2 * a) (combine e n (times_z e a) (b / 2))
      (low_bit (λ x. x * a < 2 ^ e) (simp zero-mul (pow_pos e)) (simp one-mul h) b)
      (combine_lt n (times_z e a) (b / 2) (times_z_lt a))

  pub times_lt : (a b : ℕ) → times e a b < 2 ^ e
  unfolding times
  times_lt a b = combine_lt e (a % 2 ^ e) b (mod-lt a (pow_pos e))

  pub times_plus : (a b c : ℕ) → times e a (plus b c) ≡ plus (times e a b) (times e a c)
  unfolding times
  times_plus a b c = combine_right e e (a % 2 ^ e) b c

  pub times_mod : (a b : ℕ) → times e (a % 2 ^ e) b ≡ times e a b
  unfolding times
  times_mod a b = ap (λ (x : ℕ). combine e e x b) (mod-mod a (2 ^ e))

  pub times_one_mod : (b : ℕ) → times e 1 b ≡ b % 2 ^ e
  unfolding times
  times_one_mod b =
      ap (λ (x : ℕ). combine e e x b) (mod-eq_of_lt (pow-lt {i = 0} (omega arith)))
      ∙ combine_power e e 0 b (omega arith) ∙ mul-one (b % 2 ^ e)

  left_linear : (b : ℕ) → Passes e (λ x. times e x b)
  unfolding times
  left_linear b =
      record {
        sums = λ a c. ap (λ (x : ℕ). combine e e x b) (plus_mod a c e) ∙ combine_left e e (a % 2 ^ e) (c % 2 ^ e) b;
        z = λ a. ap (λ (x : ℕ). combine e e x b) (mod-eq_of_lt (times_z_lt a) ∙ sym (times_z_mod e a))
            ∙ sym (through e (times_z e) (times_z_linear e) e (a % 2 ^ e) b);
      }

  pub times_comm : (a b : ℕ) → times e a b ≡ times e b a
  unfolding times
  times_comm a b =
      sym (times_mod a b) ∙ ap (λ (x : ℕ). times e x b) (sym (times_one_mod a))
      ∙ through e (λ x. times e x b) (left_linear b) e (1 % 2 ^ e) a
      ∙ ap (λ (x : ℕ). combine e e x a) (times_mod 1 b ∙ times_one_mod b)

  right_linear : (a : ℕ) → Passes e (times e a)
  right_linear a = record { sums = times_plus a; z = λ b. times_comm a (times_z e b) ∙ (left_linear a).z b ∙ ap (times_z e) (times_comm b a) }

  pub times_assoc : (a b c : ℕ) → times e (times e a b) c ≡ times e a (times e b c)
  unfolding times
  times_assoc a b c =
      sym (through e (times e a) (right_linear a) e (b % 2 ^ e) c
      ∙ ap (λ (x : ℕ). combine e e x c)
      (times_comm a (b % 2 ^ e) ∙ times_mod b a ∙ times_comm b a ∙ sym (mod-eq_of_lt (times_lt a b))))

  pub times_one : (a : ℕ) → a < 2 ^ e → times e 1 a ≡ a
  times_one a h = times_one_mod a ∙ mod-eq_of_lt h
