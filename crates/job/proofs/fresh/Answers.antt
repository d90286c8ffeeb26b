-- `job::fresh` meets its contract: the word is copied to the front of missing places.
-- Assumes nothing.
use mathlib.Core.List.{List, ◌++◌}
use mathlib.Core.Path.{ap}
use Prim.Native.Nat.{ℕ}
use lib.ListN.{length, drop, replicate}
use Rattle.job.proofs.Freshness.{made_fresh}
use Rattle.job.proofs.fresh.Goals as goal

pub returns : goal.returns
returns c =
    let x = c.args in
    made_fresh x.q x.series x.m x.word.now _ (replicate 64 0) (replicate 64 0)
    (ap (λ (front : List ℕ). front ++ drop (length x.word.now) (replicate 64 255)) c.copy_from_slice.ensures.after)
