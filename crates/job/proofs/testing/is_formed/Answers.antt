-- `job::testing::is_formed` meets its contract: nothing is asked after a clash, symbols of a message, and else a well-formed system.
-- Assumes nothing.
use Prim.Native.Nat.{◌≤◌}
use native.Mathlib.Omega.{arith}
use lib.ListN.{length}
use Rattle.field.proofs.Curves.{short_curve}
use Rattle.job.proofs.Usability.{usable_complete, usable_system}
use Rattle.job.proofs.testing.is_formed.Goals as goal
use Rattle.job.proofs.testing.is_formed.Goals.{Start}

-- the candidate has room for a message
room : (c : goal.Start) → c.args.k ≤ length c.args.candidate.now
room c = omega (arith, c.requires)

pub returns-then-complete : goal.returns-then-complete
returns-then-complete c =
    let x = c.args in
    λ m e.
    usable_complete x.q (short_curve x.q c.requires.0) x.k m e x.work.now x.candidate.now x.complete x.clash
    c.if-clash.false c.if-complete.true (room (goal.at.returns-then-complete c).Start) c.first_bad.result c.first_bad.ensures

pub returns : goal.returns
returns c =
    let x = c.args in
    λ m e.
    usable_system x.q (short_curve x.q c.requires.0) x.k m e x.work.now x.candidate.now x.complete x.clash
    c.if-clash.false c.if-complete.false c.formed.result c.formed.ensures
