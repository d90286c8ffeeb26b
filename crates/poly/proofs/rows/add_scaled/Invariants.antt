-- `poly::rows::add_scaled` meets its contract: block by block.
use mathlib.Core.List.{List}
use Prim.Native.Nat.{ℕ, ◌-◌, ◌*◌, ◌≤◌}
use Rattle.field.specs.Plus.{plus}
use Rattle.field.proofs.Fields.{field_of}
use Rattle.poly.specs.Inner.Linear.{entry}
use Rattle.poly.proofs.Fillings.{Filled}
use Rattle.poly.proofs.rows.add_scaled.Given as goal

-- what is written
abbrev sums : ℕ → ℕ → List ℕ → List ℕ → ℕ → ℕ
sums q c src dst j = plus (entry dst j) ((field_of q).times c (entry src j))

abbrev pub invariant-loop-at : goal.invariant-loop-at
invariant-loop-at l = (l.at ≤ 16 * l.blocks) × Filled 0 (sums l.q l.c l.src l.initial.dst) l.initial.dst l.dst l.at

abbrev pub decreases-loop-at : goal.decreases-loop-at
decreases-loop-at l = 16 * l.blocks - l.at
