-- `job::work::rows` meets its contract: each row below k is formed.
-- Assumes nothing.
use mathlib.Core.Path.{refl, ◌∙◌}
use native.Mathlib.Omega.{arith}
use borrow.Author.Rules.{rules}
use Rattle.std.proofs.lemmas.Iterator.{YieldsList-from_range}
use Rattle.std.proofs.lemmas.Iterator.Search.{all_from_yields_List}
use Rattle.job.specs.Inner.Formed.{row_formed}
use Rattle.job.proofs.Formed.{every_below}
use Rattle.job.proofs.work.rows.Goals as goal

pub returns : goal.returns
returns c =
    let x = c.args in
    all_from_yields_List (row_formed 64 x.k x.work.now) _ _ _ c.all.ensures.ran (YieldsList-from_range 0 x.k x.k refl (omega arith)) (λ y b q k. search rules)
    ∙ every_below (row_formed 64 x.k x.work.now) x.k
