-- A finite field of characteristic 2 whose elements are the numbers below its size. The sum is `plus`.
-- The product is total on ℕ, and its laws hold of all numbers; only the unit and the inverse ask that a number is an element.
use Rattle.std.specs.Prelude.{◌≡◌, ℕ, ◌<◌}
use Rattle.field.specs.Plus.{plus}

pub record Field : Type 0 where
  pub size : ℕ
  pub two_le : 1 < size
  pub times : ℕ → ℕ → ℕ
  pub inverse : ℕ → ℕ
  pub plus_lt : (a b : ℕ) → a < size → b < size → plus a b < size
  pub times_lt : (a b : ℕ) → times a b < size
  pub times_comm : (a b : ℕ) → times a b ≡ times b a
  pub times_assoc : (a b c : ℕ) → times (times a b) c ≡ times a (times b c)
  pub times_plus : (a b c : ℕ) → times a (plus b c) ≡ plus (times a b) (times a c)
  pub times_one : (a : ℕ) → a < size → times 1 a ≡ a
  pub inverse_lt : (a : ℕ) → inverse a < size
  pub times_inverse : (a : ℕ) → a < size → (a ≡ 0 → ⊥) → times a (inverse a) ≡ 1
