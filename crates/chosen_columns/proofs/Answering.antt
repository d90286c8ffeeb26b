-- The calls over chosen columns, past their checks: what their inner functions ask.
-- Assumes nothing.
use mathlib.Core.Bool.{true, false}
use mathlib.Core.List.{List}
use Prim.Native.Nat.{ℕ}
use lib.ListN.{length}
use Rattle.code.specs.Inner.Encodable.{Encodable}
use Rattle.code.specs.Inner.Readable.{Readable}
use Rattle.code.specs.Inner.Recovering.{BrokenOver}
use Rattle.code.proofs.FullColumns.{encodable_over, readable_over, recoverable_over}
use Rattle.chosen_columns.proofs.Checking.{Passed, passed_columns}

module _ (q : ℕ) (columns : List ℕ) (m : ℕ) where
  pub encodable : (message word : List ℕ) → Passed false false q columns m message (length word) → Encodable q columns m message word
  encodable message word p = encodable_over q columns (passed_columns false false q columns m message (length word) p) m p.order message word p.accepted

  pub readable : (word message : List ℕ) → Passed false true q columns m word (length message) → Readable q columns m word message
  readable word message p = readable_over q columns (passed_columns false true q columns m word (length message) p) m p.order word message p.accepted

  pub broken_over : (word message : List ℕ) → Passed true true q columns m word (length message) → BrokenOver q columns m word
  broken_over word message p =
      recoverable_over q columns (passed_columns true true q columns m word (length message) p) m p.order word _ _ p.accepted
