-- `poly::interpolation::divide_rows` meets its contract. The invariant of its loop: the first t rows are divided.
use Rattle.field.proofs.Fields.{field_of}
use Rattle.poly.specs.Inner.Interpolation.{RowsDivided}
use Rattle.poly.proofs.interpolation.divide_rows.Given as goal

abbrev pub invariant-loop-t : goal.invariant-loop-t
invariant-loop-t l = RowsDivided (field_of l.q) l.columns l.from l.t l.initial.rows l.rows
