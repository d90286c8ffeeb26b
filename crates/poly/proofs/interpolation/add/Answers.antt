-- `interpolation::add` meets its contract: each of the three ways adds c times the elements. Assumes nothing.
use mathlib.Core.Path.{ap, ◌∙◌}
use mathlib.Core.List.{List}
use Prim.Native.Nat.{ℕ}
use Rattle.field.specs.Plus.{plus}
use Rattle.field.proofs.Fields.{field_of}
use Rattle.poly.specs.Inner.Linear.{entry}
use Rattle.poly.specs.Inner.Lanes.{lanes}
use Rattle.poly.proofs.LaneLaws.{lanes_below}
use Rattle.poly.proofs.Crossings.{add_one_times, add_times}
use Rattle.poly.proofs.interpolation.add.Goals as goal

pub add_scaled-requires : goal.add_scaled-requires
add_scaled-requires c =
    (c.requires.0, rw c.take-b.ensures (lanes_below _ (field_of c.args.q).size (λ t k. c.requires.1 _)), c.requires.3)

pub returns-then-c-eq1 : goal.returns-then-c-eq1
returns-then-c-eq1 c =
    let a = c.args in
    c.plus.ensures ∙ ap (λ (b : List ℕ). lanes (λ t. plus (entry a.a.now t) (entry b t))) c.take-b.ensures
    ∙ add_one_times (field_of a.q) a.a.now a.src.now a.at a.c c.requires.1 c.if-c-eq1.true

pub returns-else-c-eq1 : goal.returns-else-c-eq1
returns-else-c-eq1 c =
    let a = c.args in
    c.add_scaled.ensures
    ∙ ap (λ (b : List ℕ). lanes (λ t. plus (entry a.a.now t) ((field_of a.q).times (entry b t) a.c)))
    c.take-b.ensures
    ∙ add_times (field_of a.q) a.a.now a.src.now a.at a.c
