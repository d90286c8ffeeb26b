-- `systematic::term_words::write_points` meets its contract. The invariant of its loop: the points of the places below p are written.
-- Assumes nothing.
use mathlib.Core.Path.{◌≡◌, ap}
use Prim.Native.Nat.{ℕ, ◌+◌, ◌*◌, ◌/◌, ◌%◌, ◌<◌}
use native.Mathlib.Omega.{arith}
use lib.ListN.{length, get_or}
use Rattle.field.proofs.Curves.{sizes}
use Rattle.points.specs.Points.{ys_of}
use Rattle.code.proofs.PlacePoints.{place_point}
use Rattle.systematic.proofs.TermRows.{points_more}
use Rattle.systematic.proofs.term_words.write_points.Goals as goal
use Rattle.systematic.proofs.term_words.write_points.Goals.{After-divide-d}

-- the point of the place
point : (c : goal.After-divide-d) → let p = c.loop-p.p in let d = c.divide-d.result in let a = c.args in
    (d.whole < length a.columns.now) × (a.q * get_or a.columns.now d.whole 0 + d.rest < a.q * a.q * a.q)
    × (get_or a.all.now (a.q * get_or a.columns.now d.whole 0 + d.rest) 0
    ≡ get_or (ys_of a.q (get_or a.columns.now (p / a.q) 0)) (p % a.q) 0)
point c =
    place_point c.args.q c.args.columns.now c.requires.columns.0 c.loop-p.p _ _ c.divide-d.ensures c.loop-p-test.true
    c.args.all.now c.requires.columns.1

pub loop-p-preserved : goal.loop-p-preserved
loop-p-preserved c =
    let a = c.args in
    let l = c.loop-p in
    let k = c.loop-p-test.true in
    let d = c.divide-d in
    let w = point (goal.at.loop-p-preserved c).After-divide-d in
    let z = sizes a.q c.requires.columns.0.curve in (
      omega arith,
      points_more a.q a.columns.now a.xs.now a.ys.now l.xs l.ys l.p l.invariant.1 (omega (arith, c.requires.columns_in_bounds.0))
          (omega (arith, c.requires.columns_in_bounds.1)) _ _ (omega (arith, c.requires.columns.0.small d.result.whole w.0, z.size))
          (c.requires.columns.1.symbols (a.q * get_or a.columns.now d.result.whole 0 + d.result.rest))
          (ap (λ (t : ℕ). get_or a.columns.now t 0) d.ensures.0) w.2,
    )
