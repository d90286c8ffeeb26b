-- `dual::term_sums::rows_vanish` meets its contract: each turn tests the row of one power of y.
-- Assumes nothing.
use mathlib.Core.Path.{sym, ap, ◌∙◌, subst}
use Prim.Native.Nat.{◌+◌, ◌*◌}
use native.Mathlib.Omega.{arith}
use lib.ListN.{length, get_or}
use Rattle.field.proofs.Fields.{field_of}
use Rattle.poly.specs.Inner.Ranges.{Below}
use Rattle.poly.proofs.LaneLaws.{length_lanes, lanes_below}
use Rattle.dual.specs.Inner.StagedSums.{sum_by_power_of_x, PowersVanish, Tells}
use Rattle.dual.proofs.RowTests.{rows_more, rows_failed, rows_all}
use Rattle.dual.proofs.StagedSums.{row_told}
use Rattle.dual.proofs.term_sums.rows_vanish.Goals as goal
use Rattle.dual.proofs.term_sums.rows_vanish.Goals.{After-row_vanishes}

-- what the row tells
told : (c : goal.After-row_vanishes) → let x = c.args in
    let j = c.loop-j.j in
    Tells c.row_vanishes.result (PowersVanish x.q x.m j (λ i. sum_by_power_of_x 16 x.q x.columns.now i (λ t. get_or x.rows.now (16 * j + t) 0)))
told c =
    let x = c.args in
    let j = c.loop-j.j in
    row_told x.q x.m j x.columns.now x.rows.now _ _ c.load-places.ensures c.take-row.ensures
    c.row_vanishes.result c.row_vanishes.ensures

pub row_vanishes-requires : goal.row_vanishes-requires
row_vanishes-requires c =
    let x = c.args in
    let load = c.load-places.ensures in
    let row = c.take-row.ensures in (
      c.requires.1,
      subst (Below (field_of x.q).size) (sym load) (lanes_below _ (field_of x.q).size (λ t k. c.requires.0.columns_below t)),
      subst (Below (field_of x.q).size) (sym row) (lanes_below _ (field_of x.q).size (λ t k. c.requires.0.symbols (16 * c.loop-j.j + t))),
      ap length row ∙ length_lanes _,
      c.loop-j-test.true,
      c.requires.3,
    )

pub returns-then-not-row_vanishes : goal.returns-then-not-row_vanishes
returns-then-not-row_vanishes c =
    let x = c.args in
    let l = c.loop-j in
    rows_failed x.q x.m _ l.j l.invariant.1 c.loop-j-test.true _ (told (goal.at.returns-then-not-row_vanishes c).After-row_vanishes) c.if-not-row_vanishes.true

pub loop-j-preserved : goal.loop-j-preserved
loop-j-preserved c =
    let x = c.args in
    let l = c.loop-j in
    (omega (arith, c.loop-j-test.true), rows_more x.q x.m _ l.j l.invariant.1 _ (told (goal.at.loop-j-preserved c).After-row_vanishes) c.if-not-row_vanishes.false)

pub returns : goal.returns
returns c =
    let l = c.loop-j in
    rows_all c.args.q c.args.m _ l.j l.invariant.1 c.loop-j-test.false
