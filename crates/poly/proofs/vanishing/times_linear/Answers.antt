-- `vanishing::times_linear` meets its contract. The loop's invariant: the first elements, up to the index, are written, and before is
-- what stood before that.
-- Assumes nothing.
use mathlib.Core.Path.{◌≡◌, refl, sym, ap, ap₂, ◌∙◌}
use Prim.Native.Nat.{◌<◌}
use native.Mathlib.Numerals.{add-one}
use native.Mathlib.Omega.{arith}
use lib.ListN.{length, get_or, take, take-append-drop}
use lib.Seq.{length-take-le}
use Rattle.field.specs.Plus.{plus}
use Rattle.field.proofs.Plus.{is_plus}
use Rattle.field.proofs.Fields.{field_of}
use Rattle.poly.specs.Inner.Ranges.{writes}
use Rattle.poly.specs.Inner.Linear.{entry}
use Rattle.poly.proofs.Writes.{writes_end, front_kept, front_turn}
use Rattle.poly.proofs.Values.{shift, linear_shift}
use Rattle.poly.proofs.vanishing.times_linear.Goals as goal
use Rattle.poly.proofs.vanishing.times_linear.Goals.{Start, In-loop-x}

-- how many elements the loop goes over
long : (c : goal.Start) → length (take c.args.n c.args.out.now) ≡ c.args.n
long c = length-take-le c.args.n c.args.out.now c.requires.0

-- there is an element at the index, and it is as it was
some : (c : goal.In-loop-x) → c.loop-x.x-index < length c.loop-x.x-items
some c = omega (arith, c.loop-x-test.true, c.loop-x.auto.x-items)

kept : (c : goal.In-loop-x) → get_or c.loop-x.x-items c.loop-x.x-index 0 ≡ get_or c.args.out.now c.loop-x.x-index 0
kept c = front_kept _ _ _ _ c.loop-x.x-index (some c) c.loop-x.invariant.1

pub loop-x-init : goal.loop-x-init
unfolding writes
loop-x-init c = (refl, take-append-drop c.args.n c.args.out.now)

pub times-requires-clause-symbols : goal.times-requires-clause-symbols
times-requires-clause-symbols c =
    let p = c.requires in
    (p.1, rw (kept (goal.at.times-requires-clause-symbols c).In-loop-x) (p.2 c.loop-x.x-index))

pub loop-x-preserved : goal.loop-x-preserved
loop-x-preserved c =
    let l = c.loop-x in
    let a = c.args in
    let f = entry a.out.now in
    let here = (goal.at.loop-x-preserved c).In-loop-x in (
      kept here ∙ ap (shift f) (sym (add-one l.x-index)),
      front_turn _ _ _ _ l.x-index _ (some here) l.invariant.1
          (is_plus c.times.result l.before ∙ ap₂ plus (c.times.ensures ∙ ap ((field_of a.q).times a.a) (kept here)) l.invariant.0
          ∙ sym (linear_shift (field_of a.q) a.a f l.x-index)),
    )

pub returns : goal.returns
returns c =
    let l = c.loop-x in
    let e = long (goal.at.returns c).Start in
    writes_end _ _ _ l.x-index _ l.invariant.1 (omega (arith, l.auto.x-index-end, e)) (omega (arith, c.loop-x-test.false, e))
