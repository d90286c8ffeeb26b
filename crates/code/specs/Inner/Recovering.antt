-- A broken word over columns.
use Rattle.std.specs.Prelude.{Bool, not, List, ◌⊎◌, ◌≡◌, ℕ, ◌*◌, ◌≤◌, ◌<◌, eqb, length, get_or}
use Rattle.field.proofs.Fields.{field_of}
use Rattle.poly.specs.Inner.Linear.{entry}
use Rattle.points.specs.Inner.Columns.{Columns}

-- the symbol at p isn't missing
abbrev pub present : List ℕ → ℕ → Bool
present broken p = not (eqb (entry broken p) 255)

-- a broken word over a list of columns, of an order m
pub record BrokenOver (q : ℕ) (columns : List ℕ) (m : ℕ) (word : List ℕ) : Type 0 where
  pub over : Columns q columns
  pub few : length columns ≤ q * q
  pub order : m < q * length columns
  pub long : length word ≡ q * length columns
  pub value : (p : ℕ) → p < length word → (get_or word p 0 ≡ 255) ⊎ (get_or word p 0 < (field_of q).size)
