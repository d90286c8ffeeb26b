-- The words of the terms, side by side in rows of 64 symbols.
use Rattle.std.specs.Prelude.{List, ◌≡◌, ℕ, ◌+◌, ◌*◌, ◌/◌, ◌%◌, ◌<◌, length, get_or}
use Rattle.field.specs.Power.{power}
use Rattle.field.proofs.Fields.{field_of}
use Rattle.poly.specs.Inner.Ranges.{Below, Blocks}
use Rattle.poly.specs.Inner.Linear.{entry}
use Rattle.points.specs.Inner.Columns.{column_y}
use Rattle.code.specs.Terms.{size}
use Rattle.code.specs.Inner.Grid.{entries_of}
use Rattle.code.specs.Inner.Rows.{row_of}

-- row i has the powers i of the base's symbols
pub record PowerRows (q : ℕ) (base : List ℕ) (count : ℕ) (table : List ℕ) : Type 0 where
  pub symbols : Below (field_of q).size table
  pub at : Blocks 64 (λ i p. power (field_of q) (entry base p) i) table count

-- the x and the y of each place of a word over the columns, in lists of symbols
pub record PointLists (q : ℕ) (columns xs ys : List ℕ) : Type 0 where
  pub xs_symbols : Below (field_of q).size xs
  pub ys_symbols : Below (field_of q).size ys
  pub x_at : (p : ℕ) → p < q * length columns → entry xs p ≡ get_or columns (p / q) 0
  pub y_at : (p : ℕ) → p < q * length columns → entry ys p ≡ column_y q columns (p / q) (p % q)

-- row t has the word of term t
pub record TermWords (q : ℕ) (columns : List ℕ) (m : ℕ) (vectors : List ℕ) : Type 0 where
  pub symbols : Below (field_of q).size vectors
  pub at : (t p : ℕ) → t < size q m → p < q * length columns → entry vectors (64 * t + p) ≡ row_of q columns m p t

-- row t, for each t below count, is the product of the rows of powers that term t has: row i of those of x and row j of those of y, where
-- q * i + j is the term's entry in a grid
pub record ProductRows (q m : ℕ) (xpowers ypowers vectors : List ℕ) (count : ℕ) : Type 0 where
  pub symbols : Below (field_of q).size vectors
  pub at : (t p : ℕ) → t < count → p < 64 → entry vectors (64 * t + p)
      ≡ (field_of q).times (entry ypowers (64 * (get_or (entries_of q m) t 0 % q) + p)) (entry xpowers (64 * (get_or (entries_of q m) t 0 / q) + p))
