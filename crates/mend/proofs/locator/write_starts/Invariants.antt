-- `mend::locator::write_starts` meets its contract: term by term. Assumes nothing.
use mathlib.Core.Path.{◌≡◌}
use Prim.Native.Nat.{◌-◌, ◌≤◌}
use Rattle.poly.specs.Inner.Ranges.{writes}
use Rattle.mend.specs.Inner.Products.{start_of}
use Rattle.mend.proofs.locator.write_starts.Given as goal

abbrev pub invariant-loop-n : goal.invariant-loop-n
invariant-loop-n l = (l.n ≤ l.k) × (l.starts ≡ writes l.initial.starts l.n (start_of l.q l.s l.count))
