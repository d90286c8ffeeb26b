-- `recovery::indicator::long_y_factors` meets its contract: the rule of the table, by two computed tests.
-- Assumes nothing.
use mathlib.Core.Path.{refl}
use native.Mathlib.Omega.{arith}
use Rattle.field.specs.Plus.{plus}
use Rattle.field.specs.Power.{power}
use Rattle.field.specs.Product.{times}
use Rattle.poly.specs.Inner.Indicators.{indicator}
use Rattle.recovery.proofs.IndicatorBlocks.{y_factors_table}
use Rattle.recovery.proofs.indicator.long_y_factors.Goals as goal

pub returns : goal.returns
unfolding times power plus indicator
returns c = y_factors_table 8 1024 _ refl (omega arith) tt tt
