-- Weights over all points, for any q > 1: the terms x^i·y^j with i < q·q and j < q have weights up to n + 2g − 1, two terms whose product is the
-- heaviest, x^(q·q−1)·y^(q−1), have weights that add up to that; and the partners of orders.
-- Assumes nothing.
use mathlib.Core.Path.{◌≡◌, ap, ◌∙◌}
use Prim.Native.Nat.{ℕ, suc, ◌+◌, ◌-◌, ◌*◌, ◌/◌, ◌%◌, ◌≤◌, ◌<◌}
use native.Mathlib.Nat.{mod-lt, mul-one, mul-suc, suc-mul, mul-add, mul_comm, mul_assoc, mul-le-mul_left, div-add-mod, div-lt_iff_lt-mul}
use native.Mathlib.Decide.{dec_lt}
use native.Mathlib.Omega.{arith}
use Rattle.field.specs.Curve.{curve_of}
use Rattle.code.specs.Inner.Grid.{weight_of}
use Rattle.code.proofs.Weights.{twice_genus}
use Rattle.dual.specs.Partner.{partner}
use Rattle.dual.specs.Inner.PointSums.{heaviest}

-- the term that, times that of entry e, is the heaviest
abbrev pub mate_x : ℕ → ℕ → ℕ
mate_x q e = q * q - 1 - e / q

abbrev pub mate_y : ℕ → ℕ → ℕ
mate_y q e = q - 1 - e % q

module _ (q : ℕ) (two : 1 < q) where
  -- 2g in numbers
  doubled : 2 * (curve_of q).genus ≡ q * (q - 1)
  doubled = twice_genus q (omega arith)

  square : q * (q - 1) + q ≡ q * q
  square = let e : suc (q - 1) ≡ q = omega arith in omega (arith, mul-suc q (q - 1), ap (λ (x : ℕ). q * x) e)

  cube : q * (q * q - 1) + q ≡ q * q * q
  cube =
      let one : 1 ≤ q = omega arith in
      let e : suc (q * q - 1) ≡ q * q = omega (arith, mul-le-mul_left q one, mul-one q) in
      omega (arith, mul-suc q (q * q - 1), ap (λ (x : ℕ). q * x) e, mul_assoc q q q)

  -- x^(q·q−1)·y^(q−1)
  top : q * (q * q - 1) + suc q * (q - 1) ≡ heaviest q
  top = omega (arith, cube, square, suc-mul q (q - 1), doubled)

  -- 2g is 2 at least
  genus : 2 ≤ 2 * (curve_of q).genus
  genus = let one : 1 ≤ q - 1 = omega arith in omega (arith, mul-le-mul_left q one, mul-one q, doubled)

  -- ---- sums by induction

  -- y^(q−1) leaves x a power below the highest
  pub x_below : (a b : ℕ) → b ≡ q - 1 → q * a + suc q * b < heaviest q → a < q * q - 1
  x_below a b e l = elim (dec_lt a (q * q - 1)) [
    | yes h ↦ h
    | no d ↦ let h : q * q - 1 ≤ a = omega arith in absurd (omega (arith, mul-le-mul_left q h, top, ap (λ (x : ℕ). suc q * x) e))
  ]

  -- x^(q+1)·y^r and y^(r+1), in the place of y^(q+r)
  pub replaced_below : (a b r : ℕ) → b ≡ q + r → q * a + suc q * b < heaviest q
      → (q * (a + suc q) + suc q * r < heaviest q) × (q * a + suc q * suc r < heaviest q)
  replaced_below a b r e l =
      let one : 1 ≤ q = omega arith in
      let w : suc q * b ≡ suc q * q + suc q * r = ap (λ (x : ℕ). suc q * x) e ∙ mul-add (suc q) q r in (
        omega (arith, mul-add q a (suc q), mul_comm q (suc q)),
        omega (arith, mul-suc (suc q) r, mul-le-mul_left (suc q) one, mul-one (suc q)),
      )

  -- ---- the entries of a grid

  pub weight_le : (e : ℕ) → e < q * q * q → weight_of q e ≤ heaviest q
  weight_le e l =
      let h : e % q ≤ q - 1 = omega (arith, mod-lt e {m = q} (omega arith)) in
      omega (arith, mul-le-mul_left q h, genus, doubled)

  weight_exponents : (e : ℕ) → weight_of q e ≡ q * (e / q) + suc q * (e % q)
  weight_exponents e = omega (arith, div-add-mod e q, suc-mul q (e % q))

  pub mate_exact : (e : ℕ) → e < q * q * q → (mate_x q e + e / q ≡ q * q - 1) × (mate_y q e + e % q ≡ q - 1)
  mate_exact e l =
      let pos : 0 < q = omega arith in
      (omega (arith, (div-lt_iff_lt-mul {x = e} {y = q * q} pos).1 l), omega (arith, mod-lt e pos))

  mate_weight : (e : ℕ) → e < q * q * q → q * mate_x q e + suc q * mate_y q e + weight_of q e ≡ heaviest q
  mate_weight e l =
      let h = mate_exact e l in
      omega (
        arith,
        weight_exponents e,
        mul-add q (mate_x q e) (e / q),
        mul-add (suc q) (mate_y q e) (e % q),
        ap (λ (x : ℕ). q * x) h.0,
        ap (λ (x : ℕ). suc q * x) h.1,
        top,
      )

  -- the mate of an entry above m is of the partner order
  pub mate_order : (m e : ℕ) → e < q * q * q → m < weight_of q e → q * mate_x q e + suc q * mate_y q e ≤ partner q m
  mate_order m e l k = omega (arith, mate_weight e l)

  -- times a lighter entry it is below the heaviest
  pub mate_light : (e d : ℕ) → e < q * q * q → weight_of q d < weight_of q e
      → q * (mate_x q e + d / q) + suc q * (mate_y q e + d % q) < heaviest q
  mate_light e d l k =
      omega (arith, mate_weight e l, weight_exponents d, mul-add q (mate_x q e) (d / q), mul-add (suc q) (mate_y q e) (d % q))

  -- ---- orders

  pub partner_light : (m : ℕ) → m < q * q * q → m + partner q m < heaviest q
  partner_light m l = omega (arith, genus)

  -- from 2g − 1 on the partner is an order from 2g − 1 on, and m is its partner
  pub partner_order : (m : ℕ) → 2 * (curve_of q).genus - 1 ≤ m → m < (curve_of q).points
      → (2 * (curve_of q).genus - 1 ≤ partner q m) × (partner q m < (curve_of q).points) × (partner q (partner q m) ≡ m)
  partner_order m k l = (omega (arith, genus), omega (arith, genus), omega (arith, genus))
