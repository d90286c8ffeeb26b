-- `job::bringing::bring_equations` meets its contract: the symbols below p are counted and collected.
use mathlib.Core.Path.{◌≡◌}
use Prim.Native.Nat.{◌+◌}
use lib.ListN.{length}
use Rattle.job.specs.Inner.Bringing.{Counted, Collecting}
use Rattle.job.proofs.bringing.bring_equations.Given as goal

abbrev pub invariant-loop-p : goal.invariant-loop-p
invariant-loop-p l =
    let p = l.next + length l.yielded in
    (length l.work ≡ length l.initial.work) × Counted l.word l.budget l.next 0 p l.brought × Collecting l.q l.columns l.m l.word l.initial.work l.next l.rows l.work p l.rank
