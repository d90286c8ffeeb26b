-- `linear::system::dot` meets its contract.
use mathlib.Core.Path.{◌≡◌}
use Prim.Native.Nat.{◌≤◌}
use Rattle.field.specs.Plus.{plus}
use Rattle.field.proofs.Fields.{field_of}
use Rattle.poly.specs.Inner.Linear.{entry, dot}
use Rattle.linear.proofs.system.dot.Given as goal

abbrev pub invariant-loop-j : goal.invariant-loop-j
invariant-loop-j l = (l.j ≤ l.n) × (l.r ≡ plus l.start (dot (field_of l.q) l.j (entry l.a) (entry l.b)))
