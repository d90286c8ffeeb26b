-- `poly::rows::scale` meets its contract. The invariant of its loop: the first elements, up to the index, are written.
-- Assumes nothing.
use mathlib.Core.Path.{◌≡◌, ap, ◌∙◌}
use Prim.Native.Nat.{◌<◌}
use native.Mathlib.Omega.{arith}
use lib.ListN.{length, get_or, take, take-append-drop}
use lib.Seq.{length-take-le}
use Rattle.field.proofs.Fields.{field_of}
use Rattle.poly.specs.Inner.Ranges.{writes}
use Rattle.poly.specs.Inner.Rows.{scaled}
use Rattle.poly.proofs.Writes.{writes_end, front_kept, front_turn}
use Rattle.poly.proofs.rows.scale.Goals as goal
use Rattle.poly.proofs.rows.scale.Goals.{Start, In-loop-x}

-- how many elements the loop goes over
long : (c : goal.Start) → length (take c.args.n c.args.row.now) ≡ c.args.n
long c = length-take-le c.args.n c.args.row.now c.requires.n_in_bounds

-- there is an element at the index, and it is as it was
some : (c : goal.In-loop-x) → c.loop-x.x-index < length c.loop-x.x-items
some c = omega (arith, c.loop-x-test.true, c.loop-x.auto.x-items)

kept : (c : goal.In-loop-x) → get_or c.loop-x.x-items c.loop-x.x-index 0 ≡ get_or c.args.row.now c.loop-x.x-index 0
kept c = front_kept _ _ _ _ c.loop-x.x-index (some c) c.loop-x.invariant

pub loop-x-init : goal.loop-x-init
unfolding writes
loop-x-init c = take-append-drop c.args.n c.args.row.now

pub times-requires-clause-symbols : goal.times-requires-clause-symbols
times-requires-clause-symbols c =
    let r = c.requires.c_bound in
    let below : c.loop-x.x-index < c.args.n = omega (arith, c.loop-x-test.true, long (goal.at.times-requires-clause-symbols c).Start) in
    (r.0, rw (kept (goal.at.times-requires-clause-symbols c).In-loop-x) (r.1 c.loop-x.x-index below))

pub loop-x-preserved : goal.loop-x-preserved
loop-x-preserved c =
    let here = (goal.at.loop-x-preserved c).In-loop-x in
    front_turn _ _ _ _ c.loop-x.x-index _ (some here) c.loop-x.invariant
    (c.times.ensures ∙ ap ((field_of c.args.q).times c.args.c) (kept here))

pub returns : goal.returns
unfolding scaled
returns c =
    let l = c.loop-x in
    let e = long (goal.at.returns c).Start in
    writes_end _ _ _ l.x-index _ l.invariant (omega (arith, l.auto.x-index-end, e)) (omega (arith, c.loop-x-test.false, e))
