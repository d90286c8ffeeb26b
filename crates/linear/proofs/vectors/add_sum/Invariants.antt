-- `linear::vectors::add_sum` meets its contract: block by block.
use mathlib.Core.List.{List}
use Prim.Native.Nat.{ℕ, ◌*◌}
use Rattle.field.specs.Plus.{plus}
use Rattle.poly.specs.Inner.Linear.{entry}
use Rattle.poly.proofs.Fillings.{Filled}
use Rattle.linear.proofs.vectors.add_sum.Given as goal

-- what is written
abbrev sums : List ℕ → List ℕ → List ℕ → ℕ → ℕ
sums low top v j = plus (entry v j) (plus (entry low j) (entry top j))

abbrev pub invariant-loop-i : goal.invariant-loop-i
invariant-loop-i l = Filled 0 (sums l.low l.top l.initial.v) l.initial.v l.v (16 * l.i)
