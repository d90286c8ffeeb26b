-- `poly::interpolation::divide_row` meets its contract: a row divided by 1 is as it was.
-- Assumes nothing.
use mathlib.Core.Path.{sym, ap, ◌∙◌}
use Prim.Native.Nat.{ℕ}
use lib.ListN.{length}
use Rattle.field.proofs.Fields.{field_of}
use Rattle.poly.specs.Inner.Rows.{scaled}
use Rattle.poly.proofs.LaneLaws.{length_lanes, lanes_below}
use Rattle.poly.proofs.Multiples.{stored_all}
use Rattle.poly.proofs.Divisions.{divided_by_one, scaled_in_lanes}
use Rattle.poly.proofs.interpolation.divide_row.Goals as goal

pub returns-then-v-eq1 : goal.returns-then-v-eq1
returns-then-v-eq1 c =
    divided_by_one (field_of c.args.q) c.args.v c.args.row.now c.if-v-eq1.true c.requires.0 c.requires.1 c.requires.2

pub scale-b-requires : goal.scale-b-requires
scale-b-requires c =
    let F = field_of c.args.q in (
      rw c.inverse-c.ensures (F.inverse_lt c.args.v),
      rw c.take-a.ensures (lanes_below _ F.size (λ t k. c.requires.2 _)),
    )

pub returns : goal.returns
returns c =
    let a = c.args in
    let F = field_of a.q in
    c.copy_from_slice.ensures.after
    ∙ sym (stored_all 16 c.scale-b.result a.row.now (ap length c.scale-b.ensures ∙ length_lanes _) c.requires.3)
    ∙ scaled_in_lanes F _ a.row.now _ _ c.requires.3 c.take-a.ensures c.scale-b.ensures
    ∙ ap (λ (u : ℕ). scaled F u (length a.row.now) a.row.now) c.inverse-c.ensures
