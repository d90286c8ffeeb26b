-- `recovery::write_indicators` meets its contract. The invariant of its loop: the rows of the gaps below p are written.
-- Assumes nothing.
use mathlib.Core.Path.{◌≡◌, ap, ◌∙◌}
use Prim.Native.Nat.{ℕ, ◌+◌, ◌*◌, ◌/◌, ◌%◌, ◌≤◌, ◌<◌}
use native.Mathlib.Omega.{arith}
use lib.ListN.{length, get_or}
use Rattle.field.proofs.Curves.{sizes}
use Rattle.points.specs.Points.{ys_of}
use Rattle.code.proofs.PlacePoints.{place_point}
use Rattle.recovery.proofs.IndicatorRows.{rows_none, rows_same, row_within, rows_more}
use Rattle.recovery.proofs.write_indicators.Goals as goal
use Rattle.recovery.proofs.write_indicators.Goals.{After-divide-d, In-loop-p, else-word-p, then-word-p}

-- the point of the gap
point : (c : goal.After-divide-d) → let p = c.loop-p.p in let d = c.divide-d.result in
    let a = c.args in
    (d.whole < length a.columns.now) × (a.q * get_or a.columns.now d.whole 0 + d.rest < a.q * a.q * a.q)
    × (get_or a.ys.now (a.q * get_or a.columns.now d.whole 0 + d.rest) 0
    ≡ get_or (ys_of a.q (get_or a.columns.now (p / a.q) 0)) (p % a.q) 0)
point c =
    let l = c.loop-p in
    place_point c.args.q c.args.columns.now c.requires.broken_over.0.over l.p _ _ c.divide-d.ensures
    (omega (arith, c.loop-p-test.true, c.requires.broken_over.0.long)) c.args.ys.now c.requires.yfactors.2

-- the next row
next : (c : goal.In-loop-p) → let a = c.args in let l = c.loop-p in
    (l.at + a.stride ≤ length l.vectors) × (l.count < length a.word.now)
next c =
    let a = c.args in
    let l = c.loop-p in
    let w = row_within a.q a.columns.now a.word.now a.stride a.vectors.now l.vectors l.count l.at l.p l.invariant
    c.loop-p-test.true c.requires.word_in_bounds.0 in
    (w.0, w.3)

pub loop-p-init : goal.loop-p-init
loop-p-init c =
    rows_none c.args.q c.args.columns.now c.args.word.now c.args.stride c.args.vectors.now c.requires.word_in_bounds.1

pub overflow_add-end : goal.overflow_add-end
overflow_add-end c = omega (arith, (next (goal.at.overflow_add-end c).In-loop-p).0)

pub slice_bounds-write-end : goal.slice_bounds-write-end
slice_bounds-write-end c = (next (goal.at.slice_bounds-write-end c).In-loop-p).0

pub write-requires : goal.write-requires
write-requires c =
    let a = c.args in
    let l = c.loop-p in
    let d = c.divide-d.result in
    let z = sizes a.q c.requires.broken_over.0.over.curve in
    let w = row_within a.q a.columns.now a.word.now a.stride a.vectors.now l.vectors l.count l.at l.p l.invariant
    c.loop-p-test.true c.requires.word_in_bounds.0 in record {
      curve = (
        c.requires.broken_over.0.over.curve,
        c.requires.yfactors.0,
        c.requires.yfactors.1,
        c.requires.broken_over.0.over.small _ (point (goal.at.write-requires c).After-divide-d).0,
        omega (arith, c.requires.yfactors.2.symbols (a.q * get_or a.columns.now d.whole 0 + d.rest), z.size),
      );
      q_in_bounds = (omega (arith, w.1, c.requires.broken_over.2), w.2);
    }

pub loop-p-preserved : goal.loop-p-preserved
loop-p-preserved c =
    let a = c.args in
    let h = c.requires.broken_over in
    let l = c.loop-p in
    let k = c.loop-p-test.true in
    let w = row_within a.q a.columns.now a.word.now a.stride a.vectors.now l.vectors l.count l.at l.p l.invariant
    k c.requires.word_in_bounds.0 in
    elim c.if-word-p.branch [
      | then-word-p v ↦ rw (v.vectors-is, v.count-is, v.at-is)
          (rows_more a.q a.columns.now a.word.now a.stride a.vectors.now l.vectors l.count l.at l.p l.invariant k
          c.requires.word_in_bounds.0 h.0.over.curve h.1 h.2 v.if-word-p.true _ _
          (ap (λ (t : ℕ). get_or a.columns.now t 0) v.divide-d.ensures.0)
          (place_point a.q a.columns.now h.0.over l.p _ _ v.divide-d.ensures (omega (arith, k, h.0.long)) a.ys.now c.requires.yfactors.2).2
          _ (v.write.auto.grid ∙ w.1) v.write.ensures.blocks.0 v.write.ensures.blocks.1 v.write.ensures.by_index)
      | else-word-p v ↦ rw (v.vectors-is, v.count-is, v.at-is)
          (rows_same a.q a.columns.now a.word.now a.stride a.vectors.now l.vectors l.count l.at l.p l.invariant k
          c.requires.word_in_bounds.0 v.if-word-p.false)
    ]
