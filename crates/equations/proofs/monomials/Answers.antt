-- `code::equation::monomials` meets its contract: each turn writes one row, which is x times the one before.
-- Assumes nothing.
use mathlib.Core.Path.{refl, ◌∙◌}
use Prim.Native.Nat.{◌+◌, ◌-◌, ◌*◌, ◌≤◌}
use native.Mathlib.Nat.{mul_comm}
use native.Mathlib.Omega.{arith}
use borrow.Rule.Slice.PartMut.{same_len_mid}
use lib.ListN.{length}
use Rattle.poly.proofs.Blocks.{blocks_none, block_fits}
use Rattle.code.specs.Inner.Rows.{term_at}
use Rattle.equations.proofs.Equations.{row_start, row_turn, row_stored}
use Rattle.equations.proofs.monomials.Goals as goal
use Rattle.equations.proofs.monomials.Goals.{In-loop-i}

-- the row is within the grid
fits : (c : goal.In-loop-i) → c.loop-i.i * c.args.q + c.args.q ≤ length c.loop-i.grid
fits c =
    let l = c.loop-i in
    omega (arith, l.invariant.0, c.requires.short.1, block_fits c.args.q l.i c.args.n c.loop-i-test.true, mul_comm l.i c.args.q)

pub loop-i-init : goal.loop-i-init
loop-i-init c =
    let x = c.args in (
      refl,
      row_start x.q x.x x.y c.requires.short.0 _ c.powers.ensures,
      blocks_none x.q (term_at x.q x.x x.y) x.grid.now,
    )

pub loop-i-preserved : goal.loop-i-preserved
loop-i-preserved c =
    let x = c.args in
    let l = c.loop-i in
    let e = c.copy_from_slice in
    let at = l.i * x.q in
    let room = fits (goal.at.loop-i-preserved c).In-loop-i in (
      same_len_mid at (at + x.q - at) l.grid e.new.self e.auto.self ∙ l.invariant.0,
      row_turn x.q x.x x.y c.requires.short.0 l.i l.row _ l.invariant.1 c.scale.ensures,
      row_stored x.q x.x x.y c.requires.short.0 l.grid l.row e.new.self l.i at l.invariant.2 l.invariant.1 (mul_comm l.i x.q) room e.ensures.after,
    )
