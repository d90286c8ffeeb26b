-- `linear::vectors::write_factors_in` meets its contract. The invariant of its loop: the first s are written.
use mathlib.Core.Path.{◌≡◌}
use Prim.Native.Nat.{◌≤◌}
use lib.ListN.{length}
use Rattle.field.proofs.Fields.{field_of}
use Rattle.poly.specs.Inner.Ranges.{writes}
use Rattle.linear.proofs.vectors.write_factors_in.Given as goal

abbrev pub invariant-loop-s : goal.invariant-loop-s
invariant-loop-s g l =
    (l.s ≤ length l.initial.factors) × (length l.factors ≡ length l.initial.factors)
    × (l.factors ≡ writes l.initial.factors l.s (λ i. (field_of l.q).times i l.c))
