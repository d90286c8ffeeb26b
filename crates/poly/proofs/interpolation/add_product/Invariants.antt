-- `poly::interpolation::add_product` meets its contract. The invariant of its loop: the products with the first i coefficients are added.
use Rattle.field.proofs.Fields.{field_of}
use Rattle.poly.specs.Inner.Interpolation.{ProductAdded}
use Rattle.poly.proofs.interpolation.add_product.Given as goal

abbrev pub invariant-loop-i : goal.invariant-loop-i
invariant-loop-i l = ProductAdded (field_of 8) l.w l.n l.f l.src l.initial.work l.work l.i
