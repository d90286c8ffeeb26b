-- `code::encoding::evaluate_rows` meets its contract: each turn writes the row of one power of y.
-- Assumes nothing.
use mathlib.Core.Path.{◌≡◌, refl, ◌∙◌}
use Prim.Native.Nat.{◌+◌, ◌-◌, ◌*◌, ◌≤◌}
use native.Mathlib.Omega.{arith}
use borrow.Rule.Slice.PartMut.{same_len_mid}
use lib.ListN.{length, get_or}
use Rattle.field.proofs.Fields.{field_of}
use Rattle.poly.specs.Inner.Polynomials.{value}
use Rattle.poly.specs.Inner.Linear.{entry}
use Rattle.poly.specs.Inner.Lanes.{lanes}
use Rattle.poly.proofs.Blocks.{block_start, block_fits}
use Rattle.code.proofs.Stages.{places_at, places_below, rows_turn}
use Rattle.code.proofs.encoding.evaluate_rows.Goals as goal
use Rattle.code.proofs.encoding.evaluate_rows.Goals.{In-loop-j, Joined-q-eq8, else-q-eq8, then-q-eq8}

-- the row is within rows
fits : (c : goal.In-loop-j) → c.loop-j.at + 16 ≤ length c.loop-j.rows
fits c =
    let l = c.loop-j in
    omega (arith, l.invariant.0, l.invariant.1, c.requires.le_n.2, block_fits 16 l.j c.args.q c.loop-j-test.true)

-- the values of the row's polynomial
row_is : (c : goal.Joined-q-eq8) → let x = c.args in
    c.if-q-eq8.row ≡ lanes (λ t. value (field_of x.q) c.terms-k.result (λ i. get_or x.grid.now (x.q * i + c.loop-j.j) 0)
    (entry c.copy.new.dst t))
row_is c =
    elim c.if-q-eq8.branch [
      | then-q-eq8 v ↦ v.row-is ∙ v.evaluate-row.ensures
      | else-q-eq8 v ↦ v.row-is ∙ v.evaluate-row-else-q-eq8.ensures
    ]

pub evaluate-row-requires-clause-below : goal.evaluate-row-requires-clause-below
evaluate-row-requires-clause-below c =
    let h = c.requires.staged.0 in
    (h.symbols, places_below c.args.q c.args.columns.now h.few _ c.copy.ensures h.columns_below)

pub evaluate-row-requires-else-q-eq8-clause-below : goal.evaluate-row-requires-else-q-eq8-clause-below
evaluate-row-requires-else-q-eq8-clause-below c =
    let h = c.requires.staged.0 in
    (h.symbols, places_below c.args.q c.args.columns.now h.few _ c.copy.ensures h.columns_below)

pub loop-j-preserved : goal.loop-j-preserved
loop-j-preserved c =
    let l = c.loop-j in
    let places = c.copy in
    let terms = c.terms-k in
    let e = c.copy-in-loop-j in
    let last = e.new.dst in (
      block_start 16 l.j l.at (l.at + 16) l.invariant.0 refl,
      same_len_mid l.at (l.at + 16 - l.at) l.rows last e.auto.dst ∙ l.invariant.1,
      rows_turn c.args.q c.args.columns.now c.args.n c.args.grid.now l.rows places.new.dst _ last l.j
          terms.result l.at l.invariant.2 l.invariant.0 (fits (goal.at.loop-j-preserved c).In-loop-j)
          (places_at c.args.q c.args.columns.now c.requires.staged.0.few places.new.dst places.ensures)
          terms.ensures (row_is (goal.at.loop-j-preserved c).Joined-q-eq8) e.ensures,
    )
