-- `job::testing::usable` meets its contract: each of its tests is one of those that are asked.
-- Assumes nothing.
use mathlib.Core.Path.{◌≡◌, refl, sym, ◌∙◌}
use native.Mathlib.Omega.{arith}
use mathlib.Core.Bool.{false, false≢true}
use Rattle.std.specs.Prelude.{Ok, Err}
use Rattle.std.specs.Result.{is_err}
use Rattle.field.specs.Outcomes.{Outcome, Done}
use Rattle.field.specs.Curve.{IsShort}
use Rattle.field.proofs.Curves.{short_of_true}
use Rattle.job.proofs.Openings.{open_short}
use Rattle.job.proofs.Usability.{tested_curve}
use Rattle.job.proofs.testing.usable.Goals as goal
use Rattle.job.proofs.testing.usable.Goals.{After-at-curve}

-- an outcome that is no error
done_by : (o : Outcome) → is_err o ≡ false → o ≡ Done
done_by (Ok tt) e = refl
done_by (Err r) e = absurd (false≢true (sym e))

-- where the curve's numbers are known: it is one of short blocks
block : (c : goal.After-at-curve) → IsShort c.args.q
block c = short_of_true _ (sym c.is_short.ensures ∙ c.if-not-is_short.false)

pub returns-then-not-is_short : goal.returns-then-not-is_short
returns-then-not-is_short c =
    let x = c.args in
    tested_curve x.q x.series x.m x.places.now x.next x.work.now x.candidate.now x.complete x.clash
    (sym c.is_short.ensures ∙ c.if-not-is_short.true)

pub is_formed-requires : goal.is_formed-requires
is_formed-requires c =
    let o = c.opening in
    let x = c.args in
    let short = open_short x.q x.series x.m _ (sym o.ensures ∙ done_by o.result (sym c.is_err.ensures.value ∙ c.if-is_err.false)) in
    (block (goal.at.is_formed-requires c).After-at-curve, omega (arith, short, c.size.ensures), c.requires.1)
