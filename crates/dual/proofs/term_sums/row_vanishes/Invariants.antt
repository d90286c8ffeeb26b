-- `dual::term_sums::row_vanishes` meets its contract: each turn tests the sum of one power of x.
use mathlib.Core.List.{List}
use mathlib.Core.Path.{◌≡◌}
use Prim.Native.Nat.{ℕ, ◌+◌, ◌-◌, ◌≤◌}
use Rattle.field.specs.Sum.{sum}
use Rattle.field.proofs.Fields.{field_of}
use Rattle.poly.proofs.LanePowers.{raised, raised_lanes}
use Rattle.dual.proofs.RowTests.{RowTested}
use Rattle.dual.proofs.term_sums.row_vanishes.Given as goal

-- the lanes are those of the power i, for which the weight is w
abbrev Tested : ℕ → ℕ → ℕ → List ℕ → List ℕ → List ℕ → ℕ → Type 0
Tested q m j places row v w = RowTested q m j (λ i. sum 16 (raised (field_of q) places row i)) (λ i. v ≡ raised_lanes (field_of q) places row i) w

abbrev pub invariant-loop-w : goal.invariant-loop-w
invariant-loop-w l = (l.w ≤ l.m + 16) × Tested l.q l.m l.j l.places l.initial.v l.v l.w

abbrev pub decreases-loop-w : goal.decreases-loop-w
decreases-loop-w l = l.m - l.w
