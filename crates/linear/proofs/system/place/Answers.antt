-- `linear::system::place` meets its contract.
-- Assumes nothing.
use mathlib.Core.Path.{◌≡◌, ap, ◌∙◌}
use mathlib.Core.List.{List}
use Prim.Native.Nat.{ℕ, ◌+◌, ◌*◌}
use native.Mathlib.Omega.{arith}
use Rattle.field.proofs.Fields.{field_of, inverse_lt}
use Rattle.poly.specs.Inner.Ranges.{part, put}
use Rattle.poly.specs.Inner.Rows.{stored, scaled, divided, placed}
use Rattle.poly.proofs.Parts.{put_is}
use Rattle.linear.proofs.system.place.Goals as goal

pub scale-requires : goal.scale-requires
scale-requires c =
    record {
      n_in_bounds = omega (arith, c.requires.well_formed.1.long);
      c_bound = (rw c.inverse-c.ensures (inverse_lt _ _), λ j h. c.requires.well_formed.1.symbols j (omega arith), c.requires.well_formed.2);
    }

pub returns : goal.returns
unfolding placed divided
returns c =
    let w : List ℕ = c.args.work.now in
    let base : ℕ = c.args.i * c.args.stride in
    let end : ℕ = base + c.args.stride in
    let n : ℕ = c.args.k + 1 in
    let pivot = c.inverse-c in
    let scaled_row : _ ≡ scaled (field_of c.args.q) pivot.result n c.args.row.now =
    c.scale.ensures in
    put_is w base end _ (omega arith)
    ∙ ap (put w base end)
    (c.copy.ensures
    ∙ ap (λ (r : List ℕ). stored n r (part w base end))
    (scaled_row ∙ ap (λ (x : ℕ). scaled (field_of c.args.q) x n c.args.row.now) pivot.ensures))
