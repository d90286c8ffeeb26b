-- `dual::term_sums::add_powers` meets its contract: each turn adds the lanes to one row and multiplies them by their places.
use mathlib.Core.Path.{◌≡◌}
use Prim.Native.Nat.{◌-◌, ◌*◌, ◌≤◌}
use Rattle.field.proofs.Fields.{field_of}
use Rattle.dual.proofs.StagedSums.{Adding}
use Rattle.dual.proofs.term_sums.add_powers.Given as goal

abbrev pub invariant-loop-j : goal.invariant-loop-j
invariant-loop-j l = (l.j ≤ l.q) × (l.at ≡ 16 * l.j) × Adding (field_of l.q) l.places l.initial.v l.initial.rows l.rows l.v l.j
