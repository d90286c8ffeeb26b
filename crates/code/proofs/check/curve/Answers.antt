-- `code::check::curve` meets its contract: each way out has the tests that led there.
-- Assumes nothing.
use mathlib.Core.Path.{sym, ◌∙◌}
use Rattle.code.specs.Checks.{curve_checks}
use Rattle.code.proofs.check.curve.Goals as goal

pub returns-then-not-taken : goal.returns-then-not-taken
unfolding curve_checks
returns-then-not-taken c = rw c.if-not-taken.true

pub returns-then-not-is_series : goal.returns-then-not-is_series
unfolding curve_checks
returns-then-not-is_series c = rw (c.if-not-taken.false, sym c.is_series.ensures ∙ c.if-not-is_series.true)

pub returns : goal.returns
unfolding curve_checks
returns c = rw (c.if-not-taken.false, sym c.is_series.ensures ∙ c.if-not-is_series.false)
