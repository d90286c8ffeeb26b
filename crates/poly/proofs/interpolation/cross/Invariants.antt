-- `interpolation::cross` meets its contract. The invariant of its loop: the products with the first i coefficients are added up.
use mathlib.Core.Path.{◌≡◌}
use Prim.Native.Nat.{◌+◌}
use Rattle.field.proofs.Fields.{field_of}
use Rattle.poly.specs.Inner.Lanes.{lanes}
use Rattle.poly.specs.Inner.Interpolation.{crossed}
use Rattle.poly.proofs.interpolation.cross.Given as goal

abbrev pub invariant-loop-i : goal.invariant-loop-i
invariant-loop-i l = l.sum ≡ lanes (λ t. crossed (field_of l.q) l.w l.i l.f l.g l.left l.right (l.at + t))
