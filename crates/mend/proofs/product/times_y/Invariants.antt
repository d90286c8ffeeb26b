-- `mend::product::times_y` meets its contract: entry by entry. Assumes nothing.
use mathlib.Core.Path.{◌≡◌}
use Prim.Native.Nat.{◌-◌, ◌/◌, ◌%◌, ◌≤◌}
use Rattle.poly.specs.Inner.Ranges.{writes}
use Rattle.mend.specs.Inner.Products.{times_y_at}
use Rattle.mend.proofs.product.times_y.Given as goal

abbrev pub invariant-loop-e : goal.invariant-loop-e
invariant-loop-e l = (l.e ≤ l.n) × (l.r ≡ writes l.initial.r l.e (λ ee. times_y_at l.q l.grid (ee / l.q) (ee % l.q)))
