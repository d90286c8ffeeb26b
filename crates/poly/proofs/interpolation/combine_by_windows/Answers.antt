-- `poly::interpolation::combine_by_windows` meets its contract: sixteen numbers at a time, from copies with zeros around them.
-- Assumes nothing.
use mathlib.Core.Path.{sym, ◌∙◌, subst}
use mathlib.Core.List.{List}
use Prim.Native.Nat.{ℕ, ◌-◌, ◌*◌}
use native.Mathlib.Omega.{arith}
use lib.ListN.{length}
use Rattle.field.proofs.Fields.{field_of}
use Rattle.field.proofs.FieldLaws.{zero_lt}
use Rattle.poly.specs.Inner.Interpolation.{Placed}
use Rattle.poly.proofs.Parts.{part_rest, below_take, below_part}
use Rattle.poly.proofs.Halves.{placed_below, combined_windows}
use Rattle.poly.proofs.Halves.{all_few, coefficients_few, work_room}
use Rattle.poly.proofs.interpolation.combine_by_windows.Goals as goal

pub write_crossed-requires : goal.write_crossed-requires
write_crossed-requires c =
    let l = c.place in
    let r = c.place-2 in
    let pos = zero_lt (field_of c.args.q) in
    let size = (field_of c.args.q).size in record {
      crossable = (
        record {
          f_below = c.requires.0.f_below;
          g_below = c.requires.0.g_below;
          left_below = placed_below size _ _ _ pos l.auto.out
              (below_take size c.args.work.now (16 * c.args.h) c.requires.0.work_below) l.ensures;
          right_below = placed_below size _ _ _ pos r.auto.out
              (below_part size c.args.work.now (16 * c.args.h) (length c.args.work.now) c.requires.0.work_below) r.ensures;
          same = c.requires.0.g_long ∙ sym c.requires.0.f_long;
          narrow = c.requires.1;
          low = rw c.requires.0.f_long (coefficients_few _ _ _ _ _ _ _ c.requires.0 c.requires.1 c.requires.2);
          high = omega arith;
        },
        all_few _ _ _ _ _ _ _ c.requires.0 c.requires.1 c.requires.2,
        c.requires.3,
      );
      by_index = (work_room _ _ _ _ _ _ _ c.requires.0, c.requires.0.work_below);
    }

pub returns : goal.returns
returns c =
    let w = c.write_crossed in
    combined_windows _ _ _ _ _ _ _ c.requires.0 _ _ _ c.place.ensures
    (subst (λ (x : List ℕ). Placed (c.args.w * (c.args.c - c.args.h)) x c.place-2.new.out)
    (part_rest c.args.work.now (16 * c.args.h)) c.place-2.ensures)
    w.ensures.0 w.ensures.1
