-- `poly::lanes::scale` meets its contract: the factor stands in every lane.
-- Assumes nothing.
use mathlib.Core.Path.{◌∙◌}
use Rattle.field.proofs.Fields.{field_of}
use Rattle.poly.specs.Inner.Linear.{entry}
use Rattle.poly.proofs.LaneLaws.{lanes_constant}
use Rattle.poly.proofs.lanes.scale.Goals as goal

pub returns : goal.returns
returns c =
    let a = c.args in
    c.multiply.ensures ∙ lanes_constant (λ t u. (field_of a.q).times (entry a.a.now t) u) a.c
