-- `job::work::row_formed` meets its contract: the row's own entry decides, and where it is 1, those after it.
-- Assumes nothing.
use mathlib.Core.Path.{◌≡◌, sym}
use native.Mathlib.Omega.{arith}
use borrow.Author.Rules.{rules}
use borrow.Author.Tests.{tests}
use Rattle.std.proofs.lemmas.Iterator.{cases_from_all, YieldsList-from_slice}
use Rattle.job.proofs.Formed.{row_large, row_absent, row_decided}
use Rattle.job.proofs.work.row_formed.Goals as goal

pub returns-in-0 : goal.returns-in-0
returns-in-0 c = let x = c.args in sym (row_absent 64 x.k x.work.now x.p c.in-0.is)

pub returns-in-1 : goal.returns-in-1
returns-in-1 c =
    let x = c.args in
    row_decided 64 x.k x.work.now x.p c.requires.0 (omega (arith, c.requires)) c.in-1.is c.all.result
    (cases_from_all _ _ _ (λ y. y ≡ 0) (λ y. y ≡ 0 → ⊥) c.all.ensures.ran (YieldsList-from_slice _ (cc)) (λ y q k. search (rules, tests))
    (λ y q k. search (rules, tests)))

pub returns-in_default : goal.returns-in_default
returns-in_default c = let x = c.args in sym (row_large 64 x.k x.work.now x.p (λ e. omega arith) (λ e. omega arith))
