-- `code::point::padded_long_ys` meets its contract: the table is copied to the front of zeros.
-- Assumes nothing.
use mathlib.Core.List.{List}
use mathlib.Core.Path.{ap, ◌∙◌}
use Prim.Native.Nat.{ℕ}
use native.Mathlib.Omega.{arith}
use lib.ListN.{get_or}
use Rattle.poly.proofs.Entries.{padded}
use Rattle.points.proofs.YsTables.{padded_table}
use Rattle.points.proofs.padded_long_ys.Goals as goal

pub returns : goal.returns
returns c =
    let e = c.copy in
    let y = c.long_ys-all in
    padded_table 8 _ e.new.dst y.ensures.ys (omega (arith, e.auto.dst))
    (λ p. ap (λ (x : List ℕ). get_or x p 0) e.ensures ∙ padded 528 512 _ (omega arith) (omega arith) p)
