-- What follows at once from the laws of a field.
-- Assumes nothing.
use mathlib.Core.Path.{◌≡◌, sym, ap, ap₂, ◌∙◌}
use Prim.Native.Nat.{ℕ, ◌<◌}
use native.Mathlib.Omega.{arith}
use Rattle.field.specs.Plus.{plus}
use Rattle.field.specs.Field.{Field}
use Rattle.field.proofs.Plus.{plus_self}

module _ (F : Field) where
  open F use {size, two_le, times, times_lt, times_comm, times_assoc, times_plus, times_one, inverse, times_inverse}

  pub zero_lt : 0 < size
  zero_lt = omega (arith, two_le)

  pub times_zero : (a : ℕ) → times a 0 ≡ 0
  times_zero a = ap (times a) (sym (plus_self 0)) ∙ times_plus a 0 0 ∙ plus_self (times a 0)

  pub zero_times : (a : ℕ) → times 0 a ≡ 0
  zero_times a = times_comm 0 a ∙ times_zero a

  pub plus_times : (a b c : ℕ) → times (plus a b) c ≡ plus (times a c) (times b c)
  plus_times a b c = times_comm (plus a b) c ∙ times_plus c a b ∙ ap₂ plus (times_comm c a) (times_comm c b)

  pub times_left_comm : (a b c : ℕ) → times a (times b c) ≡ times b (times a c)
  times_left_comm a b c = sym (times_assoc a b c) ∙ ap (λ (x : ℕ). times x c) (times_comm a b) ∙ times_assoc b a c

  pub times_exchange : (a b c d : ℕ) → times (times a b) (times c d) ≡ times (times a c) (times b d)
  times_exchange a b c d = times_assoc a b (times c d) ∙ ap (times a) (times_left_comm b c d) ∙ sym (times_assoc a c (times b d))

  pub times_one_right : (a : ℕ) → a < size → times a 1 ≡ a
  times_one_right a l = times_comm a 1 ∙ times_one a l

  pub inverse_times : (a : ℕ) → a < size → (a ≡ 0 → ⊥) → times (inverse a) a ≡ 1
  inverse_times a l n = times_comm (inverse a) a ∙ times_inverse a l n

  -- a factor that is not 0 can be taken away
  pub times_cancel : (a b : ℕ) → a < size → (a ≡ 0 → ⊥) → b < size → times (inverse a) (times a b) ≡ b
  times_cancel a b l n k =
      sym (times_assoc (inverse a) a b) ∙ ap (λ (x : ℕ). times x b) (inverse_times a l n) ∙ times_one b k

  pub zero_of_times : (a b : ℕ) → a < size → (a ≡ 0 → ⊥) → b < size → times a b ≡ 0 → b ≡ 0
  zero_of_times a b l n k e = sym (times_cancel a b l n k) ∙ ap (times (inverse a)) e ∙ times_zero (inverse a)

  pub times_ne_zero : (a b : ℕ) → a < size → b < size → (a ≡ 0 → ⊥) → (b ≡ 0 → ⊥) → times a b ≡ 0 → ⊥
  times_ne_zero a b al bl an bn e = bn (zero_of_times a b al an bl e)

  pub inverse_ne_zero : (a : ℕ) → a < size → (a ≡ 0 → ⊥) → inverse a ≡ 0 → ⊥
  inverse_ne_zero a l n e =
      let z : ◌≡◌ {A = ℕ} 0 1 = sym (times_zero a) ∙ ap (times a) (sym e) ∙ times_inverse a l n in omega arith
