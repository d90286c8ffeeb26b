-- `job::bringing::compare` meets its contract: the symbols below p are counted and compared.
use Prim.Native.Nat.{◌+◌}
use lib.ListN.{length}
use Rattle.job.specs.Inner.Bringing.{Counted, Compared}
use Rattle.job.proofs.bringing.compare.Given as goal

abbrev pub invariant-loop-p : goal.invariant-loop-p
invariant-loop-p l =
    let from = l.fn.from in
    let p = from.next + length l.yielded in
    Counted l.word l.budget from.next from.brought p l.brought × Compared l.word l.whole from.next from.rank p l.rank
