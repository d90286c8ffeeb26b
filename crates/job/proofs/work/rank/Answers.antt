-- `job::work::rank` meets its contract: the rows below k that have 1 at their own unknown are counted.
-- Assumes nothing.
use mathlib.Core.Path.{◌∙◌}
use Prim.Native.Nat.{◌+◌, ◌*◌}
use native.Mathlib.Omega.{arith}
use borrow.Author.Rules.{rules}
use borrow.Author.Tests.{tests}
use lib.Dec.{eqb}
use Rattle.std.proofs.lemmas.Iterator.{YieldsList-from_range}
use Rattle.std.proofs.lemmas.Iterator.Consumers.{YieldsList-from_filter, count_from_yields_List}
use Rattle.poly.specs.Inner.Linear.{entry}
use Rattle.job.proofs.Formed.{rank_counted}
use Rattle.job.proofs.work.rank.Goals as goal

pub returns : goal.returns
returns c =
    let x = c.args in
    count_from_yields_List c.filter.result _ c.count.ensures.ran
    (YieldsList-from_filter _ (λ p. eqb (entry x.work.now (p * 64 + p)) 1) (YieldsList-from_range 0 x.k x.k c.filter.ensures.source (omega arith)) c.filter.ensures.closure
    (λ p b q k. search (rules, tests)))
    ∙ rank_counted x.k x.work.now
