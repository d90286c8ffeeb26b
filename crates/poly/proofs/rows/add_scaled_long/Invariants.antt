-- `poly::rows::add_scaled_long` meets its contract. The invariant of its loop: the first j are written.
use mathlib.Core.Path.{◌≡◌}
use Prim.Native.Nat.{◌≤◌}
use lib.ListN.{length}
use Rattle.field.specs.Plus.{plus}
use Rattle.field.proofs.Fields.{field_of}
use Rattle.poly.specs.Inner.Ranges.{writes}
use Rattle.poly.specs.Inner.Linear.{entry}
use Rattle.poly.proofs.rows.add_scaled_long.Given as goal

abbrev pub invariant-loop-j : goal.invariant-loop-j
invariant-loop-j l =
    (l.j ≤ l.n) × (length l.dst ≡ length l.initial.dst) × (l.dst ≡ writes l.initial.dst l.j (λ i. plus (entry l.initial.dst i) ((field_of 8).times l.c (entry l.src i))))
