-- `poly::interpolation::divide` meets its contract. The invariant of its loop: the rows of the columns before number 16 * i are divided.
use Prim.Native.Nat.{◌*◌, min}
use lib.ListN.{length}
use Rattle.field.proofs.Fields.{field_of}
use Rattle.poly.specs.Inner.Interpolation.{RowsDivided}
use Rattle.poly.proofs.interpolation.divide.Given as goal

abbrev pub invariant-loop-i : goal.invariant-loop-i
invariant-loop-i l = RowsDivided (field_of l.q) l.columns 0 (min (length l.columns) (16 * l.i)) l.initial.work l.work
