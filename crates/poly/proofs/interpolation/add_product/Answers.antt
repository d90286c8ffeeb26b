-- `poly::interpolation::add_product` meets its contract. The invariant of its loop: the products with the first i coefficients are added.
-- Assumes nothing.
use Prim.Native.Nat.{◌+◌, ◌*◌, ◌≤◌}
use native.Mathlib.Omega.{arith}
use lib.ListN.{length}
use Rattle.field.proofs.Fields.{field_of}
use Rattle.poly.proofs.Crossings.{product_none, product_skip, product_turn, row_room}
use Rattle.poly.proofs.interpolation.add_product.Goals as goal
use Rattle.poly.proofs.interpolation.add_product.Goals.{In-loop-i, else-f-i-ne0, then-f-i-ne0}

-- the row is within work
room : (c : goal.In-loop-i) → c.args.w * c.loop-i.i + c.args.n ≤ length c.loop-i.work
room c =
    let l = c.loop-i in
    row_room c.args.w c.args.n (length c.args.f.now) l.i (length l.work)
    (omega (arith, c.requires.n_in_bounds.1, l.auto.work)) c.loop-i-test.true

pub loop-i-init : goal.loop-i-init
loop-i-init c = product_none _ _ _ _ _ _ c.requires.below.2

pub loop-i-preserved : goal.loop-i-preserved
loop-i-preserved c =
    let l = c.loop-i in
    let a = c.args in
    elim c.if-f-i-ne0.branch [
      | then-f-i-ne0 w ↦ product_turn (field_of 8) a.w a.n a.f.now a.src.now a.work.now l.i l.work (room (goal.at.loop-i-preserved c).In-loop-i)
          w.add_scaled_long.new.dst c.if-f-i-ne0.work w.add_scaled_long.ensures w.work-is l.invariant
      | else-f-i-ne0 w ↦ product_skip (field_of 8) a.w a.n a.f.now a.src.now a.work.now l.i l.work c.if-f-i-ne0.work
          w.work-is w.if-f-i-ne0.false l.invariant
    ]
