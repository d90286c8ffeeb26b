-- What the inner functions of unencoding ask and give. A word is over a list of different columns; its grid has the coefficient of x^i·y^j
-- at q·i + j.
use Rattle.std.specs.Prelude.{Bool, cond, List, ◌≡◌, ℕ, ◌+◌, ◌*◌, ◌≤◌, ◌<◌, length, get_or}
use Rattle.field.proofs.Fields.{field_of}
use Rattle.std.specs.Prelude.{Err}
use Rattle.field.specs.Outcomes.{Done}
use Rattle.field.specs.declared.outcome.Refusal.TheVariants.{NoMessage}
use Rattle.poly.specs.Inner.Ranges.{Below}
use Rattle.poly.specs.Inner.Polynomials.{value}
use Rattle.poly.proofs.Interpolants.{at_column}
use Rattle.points.specs.Series.{columns_of}
use Rattle.points.specs.Inner.Columns.{Columns, column_y}
use Rattle.code.specs.Terms.{size}
use Rattle.code.specs.Word.{word_of}
use Rattle.code.specs.Fitting.{fitting}
use Rattle.code.specs.Inner.Grid.{gather, order_at_most}
use Rattle.code.specs.Answers.{Answer, answered}
use Rattle.code.specs.Unencoded.{the_message}

-- ---- the two stages

-- a word over the columns, or as many other symbols
pub record WordOver (q : ℕ) (columns word : List ℕ) : Type 0 where
  pub over : Columns q columns
  pub few : length columns ≤ q * q
  pub long : length word ≡ q * length columns
  pub symbols : Below (field_of q).size word

-- the first stage: work has sixteen numbers for each column, those of column t from 16 * t on: the coefficients of its polynomial in y,
-- which takes the word's values at that column's y, and zeros
pub record InterpolatedInY (q : ℕ) (columns word work : List ℕ) : Type 0 where
  pub symbols : Below (field_of q).size work
  pub is : (t s : ℕ) → t < length columns → s < q
      → value (field_of q) q (λ j. get_or work (16 * t + j) 0) (column_y q columns t s) ≡ get_or word (q * t + s) 0
  pub zeros : (t j : ℕ) → t < length columns → q ≤ j → j < 16 → get_or work (16 * t + j) 0 ≡ 0

-- both stages: the grid of the word, whose polynomial takes the word's value at the y number s of each column t
abbrev pub grid_value : ℕ → List ℕ → List ℕ → ℕ → ℕ → ℕ
grid_value q columns grid t s = value (field_of q) q (at_column (field_of q) q columns grid t) (column_y q columns t s)

pub record GridOf (q : ℕ) (columns word grid : List ℕ) : Type 0 where
  pub long : length grid ≡ q * length columns
  pub symbols : Below (field_of q).size grid
  pub is : (t s : ℕ) → t < length columns → s < q → grid_value q columns grid t s ≡ get_or word (q * t + s) 0

-- the same in the front of zeros
pub record GridInFront (q : ℕ) (columns word grid : List ℕ) : Type 0 where
  pub symbols : Below (field_of q).size grid
  pub is : (t s : ℕ) → t < length columns → s < q → grid_value q columns grid t s ≡ get_or word (q * t + s) 0
  pub zeros : (i : ℕ) → q * length columns ≤ i → get_or grid i 0 ≡ 0

-- ---- the message

-- a word over the columns, and room for its message of order m
pub record Readable (q : ℕ) (columns : List ℕ) (m : ℕ) (word message : List ℕ) : Type 0 where
  pub whole : WordOver q columns word
  pub order : m < q * length columns
  pub room : length message ≡ size q m

-- of the messages that have the word over the columns, the one
abbrev pub read_over : ℕ → List ℕ → ℕ → List ℕ → List ℕ → Answer
read_over q columns m word slice = the_message (fitting (q * q) (size q m) (word_of q columns m) word) slice

-- of a long block: its message where the call decodes, and else its word
abbrev pub long_answer : Bool → ℕ → ℕ → List ℕ → List ℕ → Answer
long_answer decodes series m input slice =
    cond decodes (read_over 8 (columns_of 8 series) m input slice) (answered Done (word_of 8 (columns_of 8 series) m input))

-- of a grid, its message where it has no coefficient of a weight above m
abbrev pub grid_answer : ℕ → ℕ → List ℕ → List ℕ → Answer
grid_answer q m grid slice = cond (order_at_most q m (length grid) grid) (answered Done (gather q m grid)) (answered (Err NoMessage) slice)
