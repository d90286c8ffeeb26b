-- `code::equation::powers` meets its contract: each power is x times the one before.
-- Assumes nothing.
use mathlib.Core.Path.{refl, sym, ap, ◌∙◌}
use native.Mathlib.Omega.{arith}
use lib.ListN.{length-set}
use Rattle.field.specs.Power.{power}
use Rattle.field.proofs.Fields.{field_of}
use Rattle.field.proofs.Powers.{power_zero, power_next, power_lt}
use Rattle.poly.specs.Inner.Ranges.{writes}
use Rattle.poly.proofs.Writes.{writes_turn}
use Rattle.equations.proofs.powers.Goals as goal

pub loop-entry-init : goal.loop-entry-init
unfolding writes
loop-entry-init c = (omega arith, refl, sym (power_zero (field_of c.args.q) c.args.x), refl)

pub times-next-requires : goal.times-next-requires
times-next-requires c =
    (c.requires, rw c.loop-entry.invariant.2 (power_lt (field_of c.args.q) c.args.x c.loop-entry.entry-index))

pub loop-entry-preserved : goal.loop-entry-preserved
loop-entry-preserved c =
    let x = c.args in
    let l = c.loop-entry in
    let F = field_of x.q in (
      omega arith,
      simp length-set l.invariant.1,
      c.times-next.ensures ∙ ap (F.times x.x) l.invariant.2 ∙ sym (power_next F x.x l.entry-index),
      writes_turn x.out.now (power F x.x) l.out l.entry-index l.next l.invariant.3 l.invariant.2,
    )
