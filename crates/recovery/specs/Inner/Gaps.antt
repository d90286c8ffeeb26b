-- Recovery by the missing symbols: the words that agree with a broken one are the word with 0 at its gaps plus a combination of the words that
-- are 1 at one gap and 0 elsewhere, and so are their grids.
use Rattle.std.specs.Prelude.{Bool, cond, List, ◌≡◌, ℕ, ◌+◌, ◌-◌, ◌*◌, ◌/◌, ◌%◌, ◌≤◌, ◌<◌, eqb, ltb, length, get_or}
use Rattle.field.proofs.Fields.{field_of}
use Rattle.std.specs.Prelude.{Err}
use Rattle.field.specs.Outcomes.{Done}
use Rattle.field.specs.declared.outcome.Refusal.TheVariants.{NoMessage, Several}
use Rattle.poly.specs.Lists.{one_if}
use Rattle.poly.specs.Inner.Ranges.{Below}
use Rattle.poly.specs.Inner.Linear.{entry}
use Rattle.poly.specs.Inner.Polynomials.{value}
use Rattle.poly.specs.Inner.Indicators.{indicator}
use Rattle.linear.specs.Inner.Combinations.{Family, Symbols}
use Rattle.points.specs.Passing.{passing}
use Rattle.points.specs.Inner.Columns.{column_y}
use Rattle.code.specs.Answers.{Answer, answered}
use Rattle.code.specs.Inner.Grid.{weight_of, gather, order_at_most}

-- the polynomial whose coefficient of x^i·y^j is f (q·i + j), at the y number s of column t
abbrev pub grid_at : ℕ → List ℕ → (ℕ → ℕ) → ℕ → ℕ → ℕ
grid_at q columns f t s =
    value (field_of q) q (λ j. value (field_of q) (length columns) (λ i. f (q * i + j)) (get_or columns t 0)) (column_y q columns t s)

-- the coefficient of x^i·y^j of the polynomial that is 1 at the point (x, y) and 0 at every other of all columns
abbrev pub point_term : ℕ → ℕ → ℕ → ℕ → ℕ → ℕ
point_term q x y i j = (field_of q).times (indicator (field_of q) (q * q) x i) (indicator (field_of q) q y j)

-- the symbol at p is missing
pub record Gap (broken : List ℕ) (p : ℕ) : Type 0 where
  pub within : p < length broken
  pub missing : entry broken p ≡ 255

-- the gaps, ascending
abbrev pub gaps_of : List ℕ → List ℕ
gaps_of broken = passing (λ p. eqb (entry broken p) 255) (length broken)

-- the symbol at p, and 0 at a gap
abbrev pub known : List ℕ → ℕ → ℕ
known broken p = cond (eqb (entry broken p) 255) 0 (entry broken p)

-- the grid of the word with 0 at the gaps is added, and each vector is the grid of the word that is 1 at one gap and 0 elsewhere
pub record GapGrids (q : ℕ) (columns broken gaps : List ℕ) (S : Family) : Type 0 where
  pub symbols : Symbols (field_of q) (q * length columns) (length gaps) S
  pub added : (t s : ℕ) → t < length columns → s < q → grid_at q columns S.added t s ≡ known broken (q * t + s)
  pub vectors : (p t s : ℕ) → p < length gaps → t < length columns → s < q
      → grid_at q columns (S.vector p) t s ≡ one_if (eqb (q * t + s) (entry gaps p))

-- the weight of entry e is above m
abbrev pub heavy : ℕ → ℕ → ℕ → Bool
heavy q m e = ltb m (weight_of q e)

-- a list has a row of stride numbers for each gap: the grid of the polynomial that is 1 at the gap's point and 0 at every other, and zeros
pub record IndicatorRows (q : ℕ) (columns gaps : List ℕ) (stride : ℕ) (vectors : List ℕ) : Type 0 where
  pub symbols : Below (field_of q).size vectors
  pub at : (p i j : ℕ) → p < length gaps → i < length columns → j < q → entry vectors (stride * p + (q * i + j))
      ≡ point_term q (get_or columns (entry gaps p / q) 0) (column_y q columns (entry gaps p / q) (entry gaps p % q)) i j
  pub zeros : (p i : ℕ) → p < length gaps → q * length columns ≤ i → i < stride → entry vectors (stride * p + i) ≡ 0

-- what is answered from the grid that elimination leaves, count gaps' vectors having the rank
abbrev pub rest_answer : ℕ → ℕ → ℕ → ℕ → List ℕ → List ℕ → Answer
rest_answer q m count rank grid slice =
    cond (order_at_most q m (length grid) grid) (cond (ltb rank count) (answered (Err (Several (count - rank))) slice) (answered Done (gather q m grid)))
    (answered (Err NoMessage) slice)

-- the grid of the word with 0 at the gaps, and zeros
pub record KnownGrid (q : ℕ) (columns broken grid : List ℕ) : Type 0 where
  pub symbols : Below (field_of q).size grid
  pub at : (t s : ℕ) → t < length columns → s < q → grid_at q columns (entry grid) t s ≡ known broken (q * t + s)
  pub zeros : (i : ℕ) → q * length columns ≤ i → entry grid i ≡ 0
