-- `job::work::formed` meets its contract.
-- Assumes nothing.
use mathlib.Core.Path.{sym, ◌∙◌}
use Prim.Native.Nat.{◌*◌}
use native.Mathlib.Omega.{arith}
use Rattle.job.proofs.Formed.{formed_not, formed_rows}
use Rattle.job.proofs.work.formed.Goals as goal

pub returns-then-first_bad-work : goal.returns-then-first_bad-work
returns-then-first_bad-work c =
    let x = c.args in
    sym (formed_not (x.q * x.q) x.k x.work.now c.requires.1 c.requires.2 _ c.first_bad.ensures c.if-first_bad-work.true)

pub returns : goal.returns
returns c =
    let x = c.args in
    c.rows.ensures
    ∙ sym (formed_rows (x.q * x.q) x.k x.work.now c.requires.1 c.requires.2 _ c.first_bad.ensures
    (omega (arith, c.if-first_bad-work.false)))
