-- `mend::locator::bring_entries` meets its contract: entry by entry. Assumes nothing.
use mathlib.Core.Path.{◌≡◌, ap}
use Prim.Native.Nat.{◌+◌, ◌*◌}
use native.Mathlib.Omega.{arith}
use Rattle.field.specs.declared.curve.Curve.{Curve}
use Rattle.field.proofs.Curves.{short_not_long}
use Rattle.mend.specs.Inner.Products.{grid_from}
use Rattle.mend.proofs.HeavyEntries.{heavy_light, weight_split, bring_ready, bring_turn}
use Rattle.mend.proofs.locator.bring_entries.Goals as goal
use Rattle.mend.proofs.locator.bring_entries.Goals.{After-divide-d, else-m-s, then-m-s}

-- the weights of x^i and of y^j, for the exponents of entry e
in_x : (c : goal.After-divide-d) → let i = c.divide-d.result.whole in
    c.at-curve.result.weight_x * i ≡ c.args.q * i
in_x c = ap (λ (v : Curve). v.weight_x * c.divide-d.result.whole) c.at-curve.ensures

in_y : (c : goal.After-divide-d) → let j = c.divide-d.result.rest in
    c.at-curve.result.weight_y * j ≡ (c.args.q + 1) * j
in_y c = ap (λ (v : Curve). v.weight_y * c.divide-d.result.rest) c.at-curve.ensures

pub bring_entry-requires : goal.bring_entry-requires
bring_entry-requires c =
    let x = c.args in
    let l = c.loop-e in
    let ready = bring_ready x.q x.m x.s x.n x.starts.now x.grids.now c.requires.short.3 l.e l.work l.invariant.1 in record {
      well_formed = (ready.0, ready.1, short_not_long x.q c.requires.short.0);
      e_in_bounds = omega (arith, c.requires.short.5, c.loop-e-test.true);
      by_index = λ i b. c.requires.by_index i l.e (omega (arith, c.requires.short.3)) c.loop-e-test.true;
    }

pub loop-e-preserved : goal.loop-e-preserved
loop-e-preserved c =
    let x = c.args in
    let l = c.loop-e in
    let e = c.loop-e-test.true in
    let g = grid_from x.n x.starts.now x.grids.now in
    let w = weight_split x.q l.e _ _ c.divide-d.ensures in (
      omega (arith, e),
      elim c.if-m-s.branch [
        | then-m-s v ↦ rw v.work-is (bring_turn x.q x.m x.s x.n x.starts.now x.grids.now c.requires.short.3 l.e l.work l.invariant.1 _ e
            (omega (arith, v.if-m-s.true, in_x (goal.at.loop-e-preserved c).After-divide-d, in_y (goal.at.loop-e-preserved c).After-divide-d, w)) v.bring_entry.ensures.well_formed_2 v.bring_entry.ensures.holds_more)
        | else-m-s v ↦ rw v.work-is (heavy_light x.q x.m x.s g l.work l.e l.invariant.1 (omega (arith, v.if-m-s.false, in_x (goal.at.loop-e-preserved c).After-divide-d, in_y (goal.at.loop-e-preserved c).After-divide-d, w)))
      ],
    )
