-- The laws of powers.
-- Assumes nothing.
use mathlib.Core.Path.{◌≡◌, refl, sym, ap, ◌∙◌}
use Prim.Native.Nat.{ℕ, zero, suc, ◌+◌, ◌*◌, ◌^◌, ◌<◌}
use native.Mathlib.Nat.{zero-add, suc-add, pow-suc}
use native.Mathlib.Omega.{arith}
use native.Mathlib.Numerals.{add-one}
use Rattle.field.specs.Field.{Field}
use Rattle.field.specs.Power.{power}
use Rattle.field.proofs.FieldLaws.{times_exchange, times_one_right}

module _ (F : Field) where
  pub power_zero : (a : ℕ) → power F a 0 ≡ 1
  unfolding power
  power_zero a = refl

  pub power_suc : (a n : ℕ) → power F a (suc n) ≡ F.times a (power F a n)
  unfolding power
  power_suc a n = refl

  pub power_next : (a n : ℕ) → power F a (n + 1) ≡ F.times a (power F a n)
  power_next a n = ap (power F a) (add-one n) ∙ power_suc a n

  pub power_one : (a : ℕ) → a < F.size → power F a 1 ≡ a
  power_one a l = power_suc a 0 ∙ ap (F.times a) (power_zero a) ∙ times_one_right F a l

  pub power_lt : (a n : ℕ) → power F a n < F.size
  unfolding power
  power_lt a zero = F.two_le
  power_lt a (suc n) = F.times_lt a (power F a n)

  pub power_add : (a m n : ℕ) → power F a (m + n) ≡ F.times (power F a m) (power F a n)
  unfolding power
  power_add a zero n = ap (power F a) (zero-add n) ∙ sym (F.times_one (power F a n) (power_lt a n))
  power_add a (suc m) n =
      ap (power F a) (suc-add m n) ∙ ap (F.times a) (power_add a m n) ∙ sym (F.times_assoc a (power F a m) (power F a n))

  pub power_times : (a b n : ℕ) → power F (F.times a b) n ≡ F.times (power F a n) (power F b n)
  unfolding power
  power_times a b zero = sym (F.times_one 1 F.two_le)
  power_times a b (suc n) = ap (F.times (F.times a b)) (power_times a b n) ∙ times_exchange F a b (power F a n) (power F b n)

  -- n squarings
  unfoldable pub squared : ℕ → ℕ → ℕ
  squared zero a = a
  squared (suc n) a = squared n (F.times a a)

  pub power_squared : (n a : ℕ) → a < F.size → power F a (2 ^ n) ≡ squared n a
  unfolding squared
  power_squared zero a l = power_one a l
  power_squared (suc n) a l =
      let e : 2 ^ n * 2 ≡ 2 ^ n + 2 ^ n = omega arith in
      ap (power F a) (pow-suc 2 n ∙ e) ∙ power_add a (2 ^ n) (2 ^ n) ∙ sym (power_times a a (2 ^ n)) ∙ power_squared n (F.times a a) (F.times_lt a a)
