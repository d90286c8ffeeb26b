-- `mend::mend_word` meets its contract: the only candidate is written where its word is near; without one, no message is near.
-- Assumes nothing.
use mathlib.Core.Bool.{true}
use mathlib.Core.List.{List}
use mathlib.Core.Path.{sym, ◌∙◌, subst}
use Prim.Native.Nat.{ℕ, ◌≤◌}
use lib.ListN.{length}
use Rattle.mend.specs.Inner.Candidates.{OnlyNear}
use Rattle.mend.proofs.Menders.{Passed, mended_none}
use Rattle.poly.proofs.Fronts.{lent_long, front_long, front_fits, front_again, again_long}
use Rattle.mend.proofs.Answering.{passed, message_short}
use Rattle.mend.proofs.mend_word.Goals as goal
use Rattle.mend.proofs.mend_word.Goals.{Start, Then-find}

-- what the checks say
accepted : (c : goal.Start) → let x = c.args in
    Passed x.q x.series x.m x.word.now (length x.message.now) (length x.codeword.now) (length x.marks.now)
accepted c = let x = c.args in passed x.q x.series x.m x.word.now x.message.now x.codeword.now x.marks.now c.requires

short : (c : goal.Start) → length c.args.message.now ≤ 64
short c = let x = c.args in message_short x.q x.series x.m x.word.now x.message.now x.codeword.now x.marks.now c.requires

-- the only message that can be near
only : (c : goal.Then-find) → let x = c.args in
    OnlyNear x.q x.series x.m x.word.now c.find.new.message true
only c =
    let x = c.args in
    subst (OnlyNear x.q x.series x.m x.word.now c.find.new.message) c.if-find.true c.find.ensures

pub radius-t-requires : goal.radius-t-requires
radius-t-requires c = let a = (accepted (goal.at.radius-t-requires c).Start).mendable in (a.curve, a.order)

pub slice_bounds-only-end : goal.slice_bounds-only-end
slice_bounds-only-end c = short (goal.at.slice_bounds-only-end c).Start

pub slice_bounds-find-end : goal.slice_bounds-find-end
slice_bounds-find-end c = sym (lent_long 64 _ (short (goal.at.slice_bounds-find-end c).Start))

pub find-requires : goal.find-requires
find-requires c =
    ((accepted (goal.at.find-requires c).Start).mendable, c.radius-t.ensures, lent_long 64 _ (short (goal.at.find-requires c).Start) ∙ (accepted (goal.at.find-requires c).Start).message_long)

pub slice_bounds-only-end-then-find : goal.slice_bounds-only-end-then-find
slice_bounds-only-end-then-find c =
    front_fits _ c.find.new.message _ (front_long 64 _ (short (goal.at.slice_bounds-only-end-then-find c).Start) c.find.new.message c.find.auto.message)

pub slice_bounds-write_near-end : goal.slice_bounds-write_near-end
slice_bounds-write_near-end c =
    sym (again_long _ c.find.new.message _ (front_long 64 _ (short (goal.at.slice_bounds-write_near-end c).Start) c.find.new.message c.find.auto.message))

pub write_near-requires : goal.write_near-requires
write_near-requires c =
    let x = c.args in record {
      marks_value = c.requires;
      t_value = (
        c.radius-t.ensures,
        subst (λ (v : List ℕ). OnlyNear x.q x.series x.m x.word.now v true)
            (sym (front_again _ c.find.new.message _ (front_long 64 _ (short (goal.at.write_near-requires c).Start) c.find.new.message
            c.find.auto.message))) (only (goal.at.write_near-requires c).Then-find),
      );
    }

pub returns : goal.returns
returns c =
    let x = c.args in
    mended_none x.q x.series x.m x.word.now x.message.now x.codeword.now x.marks.now c.requires
    (subst (OnlyNear x.q x.series x.m x.word.now c.find.new.message) c.if-find.false c.find.ensures)
