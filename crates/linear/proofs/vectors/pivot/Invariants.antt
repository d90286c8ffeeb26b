-- `linear::vectors::pivot` meets its contract. The invariant of its loop: from i on v is 0 at every place that counts.
use Rattle.linear.proofs.Eliminating.{Searching}
use Rattle.linear.proofs.vectors.pivot.Given as goal

abbrev pub invariant-loop-i : goal.invariant-loop-i
invariant-loop-i l = Searching l.high l.v l.i
