-- `session::clear_conflicts` meets its contract. The invariant of its loop: the first i have no conflict left.
-- Assumes nothing.
use mathlib.Core.Path.{refl, ap, ◌∙◌}
use native.Mathlib.Omega.{arith}
use lib.ListN.{length-set}
use Rattle.poly.specs.Inner.Ranges.{writes}
use Rattle.poly.proofs.Writes.{writes_turn, writes_kept, writes_end, writes_map}
use Rattle.session.specs.Arrived.{conflict_as_missing}
use Rattle.session.proofs.clear_conflicts.Goals as goal

pub loop-place-init : goal.loop-place-init
unfolding writes
loop-place-init c = (omega arith, refl, refl)

pub loop-place-preserved : goal.loop-place-preserved
loop-place-preserved c =
    let l = c.loop-place in
    let was = writes_kept _ _ l.places l.place-index l.invariant.2 in
    let next = writes_turn _ _ l.places l.place-index _ l.invariant.2 (c.conflict_as_missing.ensures ∙ ap conflict_as_missing was) in
    (omega arith, simp length-set l.invariant.1, next)

pub returns : goal.returns
returns c =
    let l = c.loop-place in
    writes_end _ _ l.places l.place-index _ l.invariant.2 l.invariant.0 (omega arith) ∙ writes_map conflict_as_missing _
