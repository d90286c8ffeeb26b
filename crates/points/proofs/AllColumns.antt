-- All columns of short blocks, as a function lends them: the first of sixteen, as many as there are symbols.
-- Assumes nothing.
use mathlib.Core.List.{List}
use mathlib.Core.Path.{◌≡◌, refl, sym, ap, ◌∙◌}
use Prim.Native.Nat.{ℕ, ◌*◌, ◌≤◌}
use native.Mathlib.Omega.{arith}
use lib.ListN.{length, take}
use Rattle.field.specs.Curve.{IsShort}
use Rattle.field.proofs.Curves.{short_curve, short_sizes}
use Rattle.points.specs.Series.{columns_by_powers, columns_of}
use Rattle.points.specs.Passing.{passing, up_to}
use Rattle.points.proofs.Series.{powers_4, by_powers_4, first_columns, second_columns, small_columns, length_columns}

pub lent_small : (q series : ℕ) (l : List ℕ) → q ≡ 2 → l ≡ up_to 16 → (take (q * q) l ≡ columns_of q series) × (length l ≡ 16)
unfolding passing
lent_small q series l e is = rw (e, is, small_columns series) (refl, refl)

pub lent_second : (q series : ℕ) (l : List ℕ) → q ≡ 4 → series ≡ 2 → l ≡ columns_by_powers 4 → (take (q * q) l ≡ columns_of q series) × (length l ≡ 16)
unfolding powers_4
lent_second q series l e second is = rw (e, is, second_columns 4 series second, by_powers_4) (refl, refl)

pub lent_first : (q series : ℕ) (l : List ℕ) → q ≡ 4 → (series ≡ 2 → ⊥) → l ≡ up_to 16 → (take (q * q) l ≡ columns_of q series) × (length l ≡ 16)
unfolding passing
lent_first q series l e first is = rw (e, is, first_columns 4 series first) (refl, refl)

module _ (q series : ℕ) (curve : IsShort q) (n : ℕ) (l : List ℕ) (is_n : n ≡ q * q) (is_l : (take (q * q) l ≡ columns_of q series) × (length l ≡ 16)) where
  pub columns_are : take n l ≡ columns_of q series
  columns_are = ap (λ (n : ℕ). take n l) is_n ∙ is_l.0

  pub columns_fit : n ≤ length l
  columns_fit = omega (arith, is_n, (short_sizes q curve).symbols, is_l.1)

  pub columns_long : n ≡ length (take n l)
  columns_long = is_n ∙ sym (ap length columns_are ∙ length_columns q series (short_curve q curve))
