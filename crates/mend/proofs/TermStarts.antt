-- Where the grids of the terms start: by the quotient and the remainder of a term's entry, which are its exponents.
-- Assumes nothing.
use mathlib.Core.Bool.{true}
use mathlib.Core.List.{List}
use mathlib.Core.Path.{◌≡◌, ap, ap₂, ◌∙◌}
use Prim.Native.Nat.{ℕ, suc, ◌+◌, ◌*◌, ◌/◌, ◌%◌, ◌≤◌, ◌<◌}
use native.Mathlib.Nat.{mod-lt, mul-le-mul, div-le_self}
use native.Mathlib.Omega.{arith}
use lib.ListN.{length, get_or}
use Rattle.field.specs.Curve.{IsShort}
use Rattle.field.proofs.Curves.{short_curve, short_sizes}
use Rattle.poly.specs.Inner.Ranges.{writes}
use Rattle.poly.proofs.Lists.{get_or_map}
use Rattle.poly.proofs.Writes.{writes_in}
use Rattle.points.proofs.Passing.{at_place}
use Rattle.code.specs.Terms.{is_term, x_power, y_power, weights, size}
use Rattle.code.specs.Inner.Grid.{entry_of, entries_of}
use Rattle.code.proofs.GridEntries.{Split, entry_at_most}
use Rattle.code.proofs.Weights.{curve_pos, entry_x, entry_y}
use Rattle.mend.specs.Inner.Products.{start_of, Starts}

-- term n, whose entry e divided by q is i with the remainder j
module _ (q : ℕ) (curve : IsShort q) (s n e i j : ℕ) (l : n < size q s) (is : e ≡ get_or (entries_of q s) n 0) (d : Split q e i j) where
  abbrev w : ℕ
  w = get_or (weights q s) n 0

  of_weight : e ≡ entry_of q w
  of_weight = is ∙ get_or_map (entry_of q) (weights q s) 0 0 n l

  term : is_term q w ≡ true
  term = (at_place (is_term q) (suc s) n l).1

  x_is : i ≡ x_power q w
  x_is = d.0 ∙ ap (λ (k : ℕ). k / q) of_weight ∙ entry_x q (curve_pos q (short_curve q curve)) w term

  y_is : j ≡ y_power q w
  y_is = d.1 ∙ ap (λ (k : ℕ). k % q) of_weight ∙ entry_y q (curve_pos q (short_curve q curve)) w term

  pub start_is : (count : ℕ) → 64 * count * j + 64 * i ≡ start_of q s count n
  start_is count = ap₂ (λ (a b : ℕ). 64 * count * b + 64 * a) x_is y_is

  -- and it is small
  pub start_small : s < 64 → (count : ℕ) → count ≤ 16 → 64 * count * j + 64 * i ≤ 8192
  start_small low count h =
      let a : 64 * count ≤ 1024 = omega arith in
      let b : j ≤ 4 = omega (arith, (short_sizes q curve).high, d.1, mod-lt e (curve_pos q (short_curve q curve))) in
      omega (arith, mul-le-mul a b, d.0, div-le_self e q, is, entry_at_most q (curve_pos q (short_curve q curve)) s n l)

-- all written
pub starts_written : (q s count : ℕ) (l starts : List ℕ) (n : ℕ) → starts ≡ writes l n (start_of q s count) → n ≡ size q s → size q s ≤ length l
    → Starts q s count starts
starts_written q s count l starts n is all fits =
    record {
      at = λ i b. ap (λ (t : List ℕ). get_or t i 0) is ∙ writes_in l (start_of q s count) n i (omega arith) (omega arith);
    }
