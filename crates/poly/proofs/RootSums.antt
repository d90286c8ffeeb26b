-- POWER SUMS at u different roots of y^u + y + a, for one a and an even u: the sum of y^b over them is 0 for b < u - 1, and 1 for b = u - 1.
-- For the sum of the roots' indicators is 1 at each of them, so it is the constant 1; and its coefficients are these sums.
-- Assumes nothing.
use mathlib.Core.List.{List}
use mathlib.Core.Path.{◌≡◌, sym, ap, ◌∙◌}
use Prim.Native.Nat.{ℕ, suc, ◌+◌, ◌-◌, ◌≤◌, ◌<◌}
use native.Mathlib.Omega.{arith}
use borrow.Author.Tests.{ne_eqb}
use lib.Dec.{eqb}
use lib.ListN.{length}
use Rattle.field.specs.Plus.{plus}
use Rattle.field.specs.Field.{Field}
use Rattle.field.specs.Power.{power}
use Rattle.field.specs.Sum.{sum}
use Rattle.field.proofs.Plus.{plus_zero}
use Rattle.field.proofs.Sums.{sum_plus, sum_even, sum_single, sum_lt}
use Rattle.poly.specs.Lists.{Nodup, one_if}
use Rattle.poly.specs.Inner.Ranges.{Below}
use Rattle.poly.specs.Inner.Linear.{entry}
use Rattle.poly.specs.Inner.Polynomials.{value}
use Rattle.poly.specs.Inner.Indicators.{indicator}
use Rattle.poly.specs.Inner.RootInterpolation.{TrinomialRoots}
use Rattle.poly.proofs.Lists.{one_if_le, each_mem, get_or_nodup}
use Rattle.poly.proofs.Values.{value_sum}
use Rattle.poly.proofs.Roots.{constant, value_unique}
use Rattle.poly.proofs.Indicators.{indicator_lt, indicator_here, indicator_there}

-- the constant 1
abbrev one : ℕ → ℕ
one j = one_if (eqb j 0)

module _ (F : Field) (u h : ℕ) (even : u ≡ h + h) (some : 1 ≤ h) (ys : List ℕ) (long : length ys ≡ u) (small : Below F.size ys)
    (r : TrinomialRoots F u ys) where
  one_lt : (j : ℕ) → one j < F.size
  one_lt j = omega (arith, one_if_le (eqb j 0), F.two_le)

  value_one : (y : ℕ) → value F u one y ≡ 1
  value_one y =
      let whole : u ≡ suc (u - 1) = omega arith in
      ap (λ (k : ℕ). value F k one y) whole
      ∙ constant F one (u - 1) y (one_lt 0) (λ i l. ap one_if (ne_eqb (suc i) 0 (λ e. omega arith)))

  distinct : Nodup ys
  distinct = get_or_nodup ys 0 (λ s t a b. r.different s t (omega (arith, long)) (omega (arith, long)))

  -- the sum of the indicators
  summed : ℕ → ℕ
  summed j = sum u (λ s. indicator F u (entry ys s) j)

  takes_one : (t : ℕ) → t < u → value F u summed (entry ys t) ≡ 1
  unfolding summed
  takes_one t l =
      value_sum F u u (λ s. indicator F u (entry ys s)) (entry ys t)
      ∙ sum_single u t (λ s. value F u (indicator F u (entry ys s)) (entry ys t)) l
      (λ s k d. indicator_there F u (entry ys s) (entry ys t) (omega (arith, even, some)) (small s) (small t) (λ e. d (r.different s t k l e))
      (r.roots s t k l))
      ∙ indicator_here F u h (entry ys t) even some

  summed_one : (j : ℕ) → j < u → summed j ≡ one j
  unfolding summed
  summed_one =
      value_unique F ys u summed one small distinct (λ j l. sum_lt F u _ (λ s k. indicator_lt F u (entry ys s) j)) (λ j l. one_lt j)
      (omega (arith, long))
      (each_mem (λ (y : ℕ). value F u summed y ≡ value F u one y) 0 ys (λ t l. takes_one t (omega (arith, long)) ∙ sym (value_one (entry ys t))))

  power_sum : (j : ℕ) → j < u → sum u (λ s. power F (entry ys s) (u - 1 - j)) ≡ one j
  unfolding summed indicator
  power_sum j l =
      let none : sum u (λ s. one j) ≡ 0 = ap (λ (k : ℕ). sum k (λ s. one j)) even ∙ sum_even h (one j) in
      sym (plus_zero _) ∙ ap (plus (sum u (λ s. power F (entry ys s) (u - 1 - j)))) (sym none)
      ∙ sym (sum_plus u (λ s. power F (entry ys s) (u - 1 - j)) (λ s. one j)) ∙ summed_one j l

  -- THE POWER SUMS
  pub root_sum_low : (b : ℕ) → b < u - 1 → sum u (λ s. power F (entry ys s) b) ≡ 0
  root_sum_low b l =
      let e : b ≡ u - 1 - (u - 1 - b) = omega arith in
      ap (λ (k : ℕ). sum u (λ s. power F (entry ys s) k)) e ∙ power_sum (u - 1 - b) (omega arith)
      ∙ ap one_if (ne_eqb (u - 1 - b) 0 (λ z. omega arith))

  pub root_sum_top : sum u (λ s. power F (entry ys s) (u - 1)) ≡ 1
  root_sum_top =
      let e : u - 1 ≡ u - 1 - 0 = omega arith in
      ap (λ (k : ℕ). sum u (λ s. power F (entry ys s) k)) e ∙ power_sum 0 (omega (arith, even, some))
