-- `job::tell` meets its contract: each of its tests is one of the reply's.
-- Assumes nothing.
use mathlib.Core.Path.{sym}
use Rattle.job.proofs.Tellings.{by_none, by_leaves, by_clash, by_several, by_message}
use Rattle.job.proofs.tell.Goals as goal

pub returns-in-None : goal.returns-in-None
returns-in-None c = let x = c.args in sym (by_none x.k x.n x.r c.if-r-n.true c.in-None.is)

pub returns-in-Some : goal.returns-in-Some
returns-in-Some c = let x = c.args in sym (by_leaves x.k x.n x.r _ c.if-r-n.true c.in-Some.is)

pub returns-in-None-rank : goal.returns-in-None-rank
returns-in-None-rank c = let x = c.args in sym (by_clash x.k x.n x.r c.if-r-n.false c.in-None-rank.is)

pub returns-in-Some-rank : goal.returns-in-Some-rank
returns-in-Some-rank c = let x = c.args in sym (by_several x.k x.n x.r _ c.if-r-n.false c.in-Some-rank.is c.if-rank-k.true)

pub returns-in-Some-2 : goal.returns-in-Some-2
returns-in-Some-2 c = let x = c.args in sym (by_message x.k x.n x.r _ c.if-r-n.false c.in-Some-rank.is c.if-rank-k.false)
