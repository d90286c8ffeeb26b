-- `code::point::padded_ys` meets its contract: the table is copied to the front of zeros.
-- Assumes nothing.
use mathlib.Core.List.{List}
use mathlib.Core.Path.{ap, ◌∙◌}
use Prim.Native.Nat.{ℕ}
use native.Mathlib.Omega.{arith}
use lib.ListN.{get_or}
use Rattle.field.proofs.Curves.{short_sizes}
use Rattle.poly.proofs.Entries.{padded}
use Rattle.points.proofs.YsTables.{padded_table}
use Rattle.points.proofs.padded_ys.Goals as goal

pub returns : goal.returns
returns c =
    let e = c.copy in
    let y = c.ys-all in
    padded_table c.args.q _ e.new.dst y.ensures (omega (arith, e.auto.dst, (short_sizes c.args.q c.requires).points))
    (λ p. ap (λ (x : List ℕ). get_or x p 0) e.ensures ∙ padded 80 64 _ (omega arith) (omega arith) p)
