-- `systematic::term_words::write_points` meets its contract. The invariant of its loop: the points of the places below p are written.
use Prim.Native.Nat.{◌-◌, ◌≤◌}
use Rattle.systematic.proofs.TermRows.{PointsBelow}
use Rattle.systematic.proofs.term_words.write_points.Given as goal

abbrev pub invariant-loop-p : goal.invariant-loop-p
invariant-loop-p l = (l.p ≤ l.n) × PointsBelow l.q l.columns l.initial.xs l.initial.ys l.xs l.ys l.p
