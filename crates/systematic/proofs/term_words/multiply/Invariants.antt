-- `systematic::term_words::multiply` meets its contract: block by block.
use mathlib.Core.List.{List}
use Prim.Native.Nat.{ℕ, ◌*◌}
use lib.ListN.{length}
use Rattle.field.proofs.Fields.{field_of}
use Rattle.poly.specs.Inner.Linear.{entry}
use Rattle.poly.proofs.Fillings.{Filled}
use Rattle.systematic.proofs.term_words.multiply.Given as goal

-- what is written
abbrev products : ℕ → List ℕ → List ℕ → ℕ → ℕ
products q by row j = (field_of q).times (entry by j) (entry row j)

abbrev pub invariant-loop-i : goal.invariant-loop-i
invariant-loop-i l = Filled 0 (products l.q l.by l.initial.row) l.initial.row l.row (16 * l.i)
