-- `mend::product::write_multiples` meets its contract: block by block. Assumes nothing.
use mathlib.Core.List.{List}
use mathlib.Core.Path.{◌≡◌, sym, ◌∙◌, subst}
use Prim.Native.Nat.{ℕ, ◌+◌, ◌≤◌}
use native.Mathlib.Nat.{mul-suc, mul-le-mul_left, le_antisymm}
use native.Mathlib.Omega.{arith}
use lib.ListN.{length, length-replicate}
use Rattle.field.proofs.Curves.{short_curve, short_sizes}
use Rattle.poly.proofs.Entries.{zeros}
use Rattle.poly.proofs.Multiples.{stored_all}
use Rattle.points.specs.Series.{columns_of}
use Rattle.points.proofs.Series.{full_columns, length_columns, full_places}
use Rattle.mend.specs.Inner.Products.{Multiples}
use Rattle.mend.proofs.ProductBlocks.{Multiplying, multiplying_none, multiplying_more}
use Rattle.mend.proofs.product.write_multiples.Goals as goal
use Rattle.mend.proofs.product.write_multiples.Goals.{In-loop-i}

-- what the loop has so far, here in series 1, and that the next block fits
so : (c : goal.In-loop-i) → let l = c.loop-i in
    let q = c.args.q in
    Multiplying q (columns_of q 1) (full_columns q 1 (short_curve q c.requires.0)) (length_columns q 1 (short_curve q c.requires.0))
    c.args.first.now c.args.out.now l.out l.grid l.i l.at
so c = c.loop-i.invariant.1 1 (short_curve _ c.requires.0)

fits : (c : goal.In-loop-i) → c.loop-i.at + 64 ≤ length c.loop-i.out
fits c =
    let l = c.loop-i in
    omega (arith, (so (goal.at.In-loop-i c).In-loop-i).is_at, (so (goal.at.In-loop-i c).In-loop-i).long, c.requires.4, mul-suc 64 l.i, mul-le-mul_left 64 c.loop-i-test.true)

pub loop-i-init : goal.loop-i-init
loop-i-init c =
    let q = c.args.q in
    let e = c.copy.ensures ∙ stored_all 64 c.args.first.now (zeros 64) c.requires.2 (length-replicate {A = ℕ} 64 0) in (
      omega arith,
      λ series curve. subst (λ (g : List ℕ). Multiplying q (columns_of q series) (full_columns q series curve) (length_columns q series curve)
          c.args.first.now c.args.out.now c.args.out.now g 0 0) (sym e)
          (multiplying_none q (columns_of q series) (full_columns q series curve) (length_columns q series curve)
          c.args.first.now c.args.out.now c.requires.2 c.requires.3),
    )

pub overflow_add-end : goal.overflow_add-end
overflow_add-end c =
    let l = c.loop-i in
    let h = l.invariant.1 1 (short_curve _ c.requires.0) in
    omega (arith, h.is_at, h.long, c.requires.4, mul-suc 64 l.i, mul-le-mul_left 64 c.loop-i-test.true)

pub slice_bounds-copy-end-in-loop-i-2 : goal.slice_bounds-copy-end-in-loop-i-2
slice_bounds-copy-end-in-loop-i-2 c = fits (goal.at.slice_bounds-copy-end-in-loop-i-2 c).In-loop-i

pub times_x-grid-requires : goal.times_x-grid-requires
times_x-grid-requires c =
    let h = so (goal.at.times_x-grid-requires c).In-loop-i in
    (c.requires.0, c.requires.1, omega (arith, h.grid_long, c.requires.1, (short_sizes c.args.q c.requires.0).points), h.symbols)

pub loop-i-preserved : goal.loop-i-preserved
loop-i-preserved c =
    let l = c.loop-i in
    let q = c.args.q in (
      omega arith,
      λ series curve. multiplying_more q (columns_of q series) (full_columns q series curve) (length_columns q series curve)
          c.args.n (c.requires.1 ∙ sym (full_places q series curve)) c.args.first.now c.args.out.now
          l.out l.grid _ _ l.i l.at (l.invariant.1 series curve)
          (fits (goal.at.loop-i-preserved c).In-loop-i) c.copy-in-loop-i.ensures
          c.times_x-grid.ensures,
    )

pub returns : goal.returns
returns c series =
    let l = c.loop-i in
    let e : l.i ≡ c.args.count = le_antisymm l.invariant.0 c.loop-i-test.false in
    subst (λ (i : ℕ). Multiples c.args.q (columns_of c.args.q series) c.args.first.now l.out i) e
    (l.invariant.1 series (short_curve _ c.requires.0)).done
