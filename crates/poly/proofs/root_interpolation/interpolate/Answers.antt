-- `poly::root_interpolation::interpolate` meets its contract: the sums, with the last added to the first, are the coefficients.
-- Assumes nothing.
use Rattle.field.proofs.Fields.{field_of}
use Rattle.field.proofs.Plus.{is_plus}
use Rattle.poly.proofs.RootInterpolation.{root_interpolated}
use Rattle.poly.proofs.root_interpolation.interpolate.Goals as goal

pub returns : goal.returns
returns c =
    let e = c.sum_powers in
    root_interpolated (field_of c.args.q) c.args.places.now c.args.values.now c.args.row.now c.requires.0 c.requires.1
    e.new.row e.auto.row e.ensures _ (is_plus _ _)
