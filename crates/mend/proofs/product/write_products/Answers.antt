-- `mend::product::write_products` meets its contract: power of y by power of y. Assumes nothing.
use mathlib.Core.Path.{◌≡◌, sym, ◌∙◌, subst}
use Prim.Native.Nat.{ℕ, ◌+◌, ◌*◌, ◌≤◌}
use native.Mathlib.Nat.{le_antisymm}
use native.Mathlib.Omega.{arith}
use lib.ListN.{length}
use Rattle.field.proofs.Curves.{short_curve, short_sizes}
use Rattle.poly.proofs.Parts.{length_part}
use Rattle.points.specs.Series.{columns_of}
use Rattle.points.proofs.Series.{full_columns, length_columns, full_places}
use Rattle.mend.specs.Inner.Products.{Products}
use Rattle.mend.proofs.ProductGrids.{full_word, takes_grid, product_start}
use Rattle.mend.proofs.ProductBlocks.{block_before, Producing, producing_none, producing_more}
use Rattle.mend.proofs.product.write_products.Goals as goal
use Rattle.mend.proofs.product.write_products.Goals.{In-loop-j}

-- what the loop has so far, and that the next part fits
so : (c : goal.In-loop-j) → let l = c.loop-j in
    let q = c.args.q in let series = c.args.series in let curve = short_curve q c.requires.short.0 in
    Producing q (columns_of q series) (full_columns q series curve) (length_columns q series curve)
    c.args.word.now c.args.count c.args.grids.now l.grids l.grid l.j l.at
so c = c.loop-j.invariant.1 (short_curve _ c.requires.short.0)

fits : (c : goal.In-loop-j) → c.loop-j.at + 64 * c.args.count ≤ length c.loop-j.grids
fits c =
    let l = c.loop-j in
    omega (arith, (so (goal.at.In-loop-j c).In-loop-j).is_at, (so (goal.at.In-loop-j c).In-loop-j).long, c.requires.q_in_bounds, block_before (64 * c.args.count) l.j c.args.q c.loop-j-test.true)

pub interpolate_short-grid-requires : goal.interpolate_short-grid-requires
interpolate_short-grid-requires c =
    (full_word c.args.q c.args.series (short_curve _ c.requires.short.0) c.args.word.now c.requires.short.1 c.requires.short.2, c.requires.short.0)

pub loop-j-init : goal.loop-j-init
loop-j-init c =
    let q = c.args.q in let series = c.args.series in
    let r = c.interpolate_short-grid in (
      omega arith,
      λ curve. producing_none q (columns_of q series) (full_columns q series curve) (length_columns q series curve) c.args.word.now c.args.count
          c.args.grids.now r.result r.ensures.1
          (product_start q (columns_of q series) (full_columns q series curve) (length_columns q series curve) c.args.word.now r.result
          c.requires.short.2
          (takes_grid q (columns_of q series) (full_columns q series curve) (length_columns q series curve) c.args.word.now r.result
          r.ensures.0)),
    )

pub overflow_add-end : goal.overflow_add-end
overflow_add-end c =
    let l = c.loop-j in
    let h = l.invariant.1 (short_curve _ c.requires.short.0) in
    omega (arith, h.is_at, h.long, c.requires.q_in_bounds, block_before (64 * c.args.count) l.j c.args.q c.loop-j-test.true)

pub slice_bounds-write_multiples-end-in-loop-j : goal.slice_bounds-write_multiples-end-in-loop-j
slice_bounds-write_multiples-end-in-loop-j c = fits (goal.at.slice_bounds-write_multiples-end-in-loop-j c).In-loop-j

pub write_multiples-requires : goal.write_multiples-requires
write_multiples-requires c =
    let l = c.loop-j in
    let h = so (goal.at.write_multiples-requires c).In-loop-j in (
      c.requires.short.0,
      c.requires.short.1,
      h.grid_long,
      h.next.symbols,
      length_part l.grids l.at (l.at + 64 * c.args.count) (omega arith) (fits (goal.at.write_multiples-requires c).In-loop-j) ∙ omega arith,
    )

pub loop-j-preserved : goal.loop-j-preserved
loop-j-preserved c =
    let l = c.loop-j in
    let q = c.args.q in let series = c.args.series in
    let w = c.write_multiples in
    let long = length_part l.grids l.at (l.at + 64 * c.args.count) (omega arith)
    (fits (goal.at.loop-j-preserved c).In-loop-j) in (
      omega arith,
      λ curve. producing_more q (columns_of q series) (full_columns q series curve) (length_columns q series curve) (length c.args.word.now)
          (c.requires.short.1 ∙ sym (full_places q series curve)) (omega (arith, c.requires.short.1, (short_sizes q c.requires.short.0).points))
          c.args.word.now c.args.count c.args.grids.now l.grids l.grid _ _ l.j l.at (l.invariant.1 curve)
          (fits (goal.at.loop-j-preserved c).In-loop-j) (w.auto.out ∙ long
          ∙ omega arith) (w.ensures series) c.times_y-grid.ensures,
    )

pub returns : goal.returns
returns c =
    let l = c.loop-j in
    let e : l.j ≡ c.args.q = le_antisymm l.invariant.0 c.loop-j-test.false in
    subst (λ (j : ℕ). Products c.args.q (columns_of c.args.q c.args.series) c.args.word.now c.args.count l.grids j) e
    (l.invariant.1 (short_curve _ c.requires.short.0)).done
