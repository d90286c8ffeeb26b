-- `dual::term_sums::row_vanishes` meets its contract: each turn tests the sum of one power of x.
-- Assumes nothing.
use mathlib.Core.List.{List}
use mathlib.Core.Path.{◌≡◌, refl, ◌∙◌}
use Prim.Native.Nat.{ℕ, ◌+◌, ◌*◌, ◌≤◌, ◌<◌}
use native.Mathlib.Nat.{suc-mul, mul-le-mul_right}
use native.Mathlib.Omega.{arith}
use Rattle.field.specs.Curve.{IsShort}
use Rattle.field.specs.Sum.{sum}
use Rattle.field.proofs.Fields.{field_of}
use Rattle.field.proofs.Curves.{short_sizes, short_not_long}
use Rattle.poly.specs.Inner.Linear.{entry}
use Rattle.poly.proofs.LaneLaws.{is_lanes}
use Rattle.poly.proofs.LanePowers.{raised, raised_lanes, raised_none, raised_more, raised_below, raised_sum}
use Rattle.dual.proofs.RowTests.{RowTested, row_none, row_more, row_fails, row_last}
use Rattle.dual.proofs.term_sums.row_vanishes.Goals as goal

-- the lanes are those of the power i, for which the weight is w
abbrev Tested : ℕ → ℕ → ℕ → List ℕ → List ℕ → List ℕ → ℕ → Type 0
Tested q m j places row v w = RowTested q m j (λ i. sum 16 (raised (field_of q) places row i)) (λ i. v ≡ raised_lanes (field_of q) places row i) w

-- what is summed of the lanes
lanes_sum : (q m j : ℕ) (places row v : List ℕ) (w : ℕ) (h : Tested q m j places row v w) (u : ℕ) → u ≡ sum 16 (entry v)
    → u ≡ sum 16 (raised (field_of q) places row h.i)
lanes_sum q m j places row v w h u e = e ∙ raised_sum (field_of q) places row v h.i h.kept

-- the weight of y^j is small
first_weight : (q j : ℕ) → IsShort q → j < q → (q * j ≤ 12) × (q ≤ 4)
first_weight q j short l =
    let high = (short_sizes q short).high in
    (omega (arith, high, mul-le-mul_right j high), high)

pub loop-w-init : goal.loop-w-init
loop-w-init c =
    let x = c.args in
    let w = first_weight x.q x.j c.requires.0 c.requires.4 in (
      omega (arith, w.0, w.1, c.requires.4),
      row_none x.q x.m x.j _ _ (x.q * x.j + x.j) (omega (arith, suc-mul x.q x.j))
          (raised_none (field_of x.q) x.places.now x.row x.row c.requires.2 (is_lanes (entry x.row) x.row c.requires.3 (λ t k. refl))),
    )

pub returns-then-sum-ne0 : goal.returns-then-sum-ne0
returns-then-sum-ne0 c =
    let x = c.args in
    let l = c.loop-w in
    let u = c.sum in
    row_fails x.q x.m x.j _ _ l.w l.invariant.1 u.result
    (lanes_sum x.q x.m x.j x.places.now x.row l.v l.w l.invariant.1 u.result u.ensures)
    (omega (arith, c.loop-w-test.true)) (λ e. c.if-sum-ne0.true e)

pub multiply_in-v-requires : goal.multiply_in-v-requires
multiply_in-v-requires c =
    let x = c.args in
    let l = c.loop-w in
    let h = l.invariant.1 in
    record {
      blocks = short_not_long x.q c.requires.0;
      symbols = (c.requires.1, raised_below (field_of x.q) x.places.now x.row l.v h.i h.kept);
    }

pub loop-w-preserved : goal.loop-w-preserved
loop-w-preserved c =
    let x = c.args in
    let l = c.loop-w in
    let h = l.invariant.1 in
    let u = c.sum in
    let F = field_of x.q in (
      omega (arith, c.loop-w-test.true),
      row_more x.q x.m x.j _ _ l.w h u.result (lanes_sum x.q x.m x.j x.places.now x.row l.v l.w h u.result u.ensures) (omega (arith, c.if-sum-ne0.false)) _
          (raised_more F x.places.now x.row l.v h.i h.kept _ c.multiply_in-v.ensures),
    )

pub returns : goal.returns
returns c =
    let x = c.args in
    let l = c.loop-w in
    row_last x.q x.m x.j _ _ l.w l.invariant.1 c.sum-2.result
    (lanes_sum x.q x.m x.j x.places.now x.row l.v l.w l.invariant.1 c.sum-2.result c.sum-2.ensures) (omega (arith, c.if-m-w.false))
    (omega (arith, c.loop-w-test.false))
