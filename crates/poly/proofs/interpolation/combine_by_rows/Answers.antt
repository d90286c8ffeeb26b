-- `poly::interpolation::combine_by_rows` meets its contract: both products are added to zeros.
-- Assumes nothing.
use mathlib.Core.Path.{◌∙◌}
use native.Mathlib.Omega.{arith}
use lib.ListN.{length}
use Rattle.poly.proofs.Entries.{below_zeros}
use Rattle.poly.proofs.Halves.{left_most, right_most, left_below, right_below}
use Rattle.poly.proofs.Halves.{first_room, other_room, combined_rows}
use Rattle.poly.proofs.interpolation.combine_by_rows.Goals as goal

pub add_product-requires : goal.add_product-requires
add_product-requires c =
    record {
      n_in_bounds = (
        omega (arith, c.copy.auto.dst, left_most _ _ _ _ _ _ _ c.requires),
        rw c.fill.auto.self (first_room _ _ _ _ _ _ _ c.requires),
      );
      below = (
        c.requires.g_below,
        rw c.copy.ensures (left_below _ _ _ _ _ _ _ c.requires),
        rw (c.fill.ensures.after (λ y h. h)) (below_zeros 64 (length c.args.work.now) (omega arith)),
      );
    }

pub add_product-requires-2 : goal.add_product-requires-2
add_product-requires-2 c =
    record {
      n_in_bounds = (
        omega (arith, c.copy-2.auto.dst, right_most _ _ _ _ _ _ _ c.requires),
        rw (c.add_product.auto.work ∙ c.fill.auto.self) (other_room _ _ _ _ _ _ _ c.requires),
      );
      below = (c.requires.f_below, rw c.copy-2.ensures (right_below _ _ _ _ _ _ _ c.requires), c.add_product.ensures.below);
    }

pub returns : goal.returns
returns c =
    combined_rows _ _ _ _ _ _ _ c.requires _ _ _ _ _ c.copy.ensures c.copy-2.ensures (c.fill.ensures.after (λ y h. h))
    c.add_product.ensures c.add_product-2.ensures
