-- `code::grid::order_at_most` meets its contract: the entries before e are of a weight up to m, or 0.
-- Assumes nothing.
use mathlib.Core.Path.{◌≡◌, sym, ap, subst}
use Prim.Native.Nat.{ℕ, ◌+◌, ◌-◌, ◌*◌, ◌≤◌}
use native.Mathlib.Omega.{arith}
use lib.ListN.{length}
use Rattle.field.specs.declared.curve.Curve.{Curve}
use Rattle.poly.specs.Inner.Ranges.{part}
use Rattle.poly.proofs.Parts.{length_part}
use Rattle.code.specs.Inner.Highest.{Highest}
use Rattle.code.proofs.Order.{within_zero, within_start, within_less, within_rest, within_turn, within_stop}
use Rattle.code.proofs.Weights.{curve_pos}
use Rattle.code.proofs.grid.order_at_most.Goals as goal
use Rattle.code.proofs.grid.order_at_most.Goals.{After-divide-d, else-more-m, then-more-m, then-m-curve+else-grid-e-ne0, else-m-curve}

-- the weights of x^i and of y^j, for the exponents of entry e
in_x : (c : goal.After-divide-d) → let i = c.divide-d.result.whole in
    c.at-curve.result.weight_x * i
    ≡ c.args.q * i
in_x c = ap (λ (v : Curve). v.weight_x * c.divide-d.result.whole) c.at-curve.ensures

in_y : (c : goal.After-divide-d) → let j = c.divide-d.result.rest in
    c.at-curve.result.weight_y * j
    ≡ (c.args.q + 1) * j
in_y c = ap (λ (v : Curve). v.weight_y * c.divide-d.result.rest) c.at-curve.ensures

pub loop-e-init : goal.loop-e-init
loop-e-init c =
    let q = c.args.q in
    let m = c.args.m in
    let grid = c.args.grid.now in
    let more = c.at-curve.result.symbols in
    let is : more ≡ q * q = ap (λ (v : Curve). v.symbols) c.at-curve.ensures in
    elim c.if-more-m.branch [ then-more-m v ↦ rw v.e-is (within_start q m grid (curve_pos q c.requires.0) (m - more) (omega (arith, v.if-more-m.true, is))) | else-more-m v ↦ rw v.e-is (within_zero q m grid) ]

pub returns-then-m-e : goal.returns-then-m-e
returns-then-m-e c =
    let x = c.args in
    let l = c.loop-e in
    let grid = x.grid.now in
    let k : l.e ≤ length grid = omega (arith, c.loop-e-test.true) in
    within_rest x.q x.m grid l.e _ l.invariant c.if-m-e.true k
    (subst (λ (n : ℕ). Highest (part grid l.e (length grid)) n c.highest.result) (length_part grid l.e (length grid) k (omega arith))
    c.highest.ensures)

pub returns-then-grid-e-ne0 : goal.returns-then-grid-e-ne0
returns-then-grid-e-ne0 c =
    let l = c.loop-e in
    sym (within_stop c.args.q c.args.m l.e _ _ c.args.grid.now c.divide-d.ensures l.invariant (length c.args.grid.now)
    c.loop-e-test.true
    (omega (arith, c.if-m-curve.true, in_x (goal.at.returns-then-grid-e-ne0 c).After-divide-d, in_y (goal.at.returns-then-grid-e-ne0 c).After-divide-d)) c.if-grid-e-ne0.true)

pub loop-e-preserved : goal.loop-e-preserved
loop-e-preserved c =
    let l = c.loop-e in
    within_turn c.args.q c.args.m l.e _ _ c.args.grid.now c.divide-d.ensures l.invariant
    (elim c.if-m-curve.branch [
      | then-m-curve+else-grid-e-ne0 v ↦ λ k. v.if-grid-e-ne0.false
      | else-m-curve v ↦ λ k. absurd (omega (arith, v.if-m-curve.false, in_x (goal.at.loop-e-preserved c).After-divide-d, in_y (goal.at.loop-e-preserved c).After-divide-d))
    ])

pub returns : goal.returns
returns c =
    let x = c.args in
    let l = c.loop-e in
    sym (within_less x.q x.m x.grid.now l.e (length x.grid.now) c.loop-e-test.false l.invariant)
