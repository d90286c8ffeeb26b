-- The products of a word with the terms x^i·y^j, as grids.
use Rattle.std.specs.Prelude.{cond, List, ◌≡◌, ℕ, ◌+◌, ◌-◌, ◌*◌, ◌/◌, ◌%◌, ◌≤◌, ◌<◌, eqb, ltb, length, get_or}
use Rattle.field.specs.Plus.{plus}
use Rattle.field.proofs.Fields.{field_of}
use Rattle.poly.specs.Inner.Ranges.{Below, part}
use Rattle.points.specs.Points.{ys_of}
use Rattle.code.specs.Terms.{x_power, y_power, weights, size}
use Rattle.code.specs.Inner.Readable.{grid_value}
use Rattle.code.specs.Inner.Rows.{term_at}

-- the x and the y of place p
abbrev pub x_at : ℕ → List ℕ → ℕ → ℕ
x_at q columns p = get_or columns (p / q) 0

abbrev pub y_at : ℕ → List ℕ → ℕ → ℕ
y_at q columns p = get_or (ys_of q (x_at q columns p)) (p % q) 0

-- the polynomial of the grid takes f p at each place p of the columns
pub record Takes (q : ℕ) (columns : List ℕ) (f : ℕ → ℕ) (grid : List ℕ) : Type 0 where
  pub symbols : Below (field_of q).size grid
  pub is : (t s : ℕ) → t < length columns → s < q → grid_value q columns grid t s ≡ f (q * t + s)

-- r is x times the polynomial of a grid of n entries: one row further, and since x^(q·q) is x, the last row is added to row 1
pub record TimesX (q n : ℕ) (grid r : List ℕ) : Type 0 where
  pub long : length r ≡ 64
  pub symbols : Below (field_of q).size r
  pub low : (j : ℕ) → j < q → get_or r j 0 ≡ 0
  pub wrapped : (j : ℕ) → j < q → get_or r (q + j) 0 ≡ plus (get_or grid j 0) (get_or grid (n - q + j) 0)
  pub high : (e : ℕ) → q ≤ e → q + e < n → get_or r (q + e) 0 ≡ get_or grid e 0

-- the coefficient of x^i·y^(q - 1)
abbrev pub top : ℕ → List ℕ → ℕ → ℕ
top q grid i = get_or grid (q * i + (q - 1)) 0

-- the coefficient of x^i in x^(q + 1) times the polynomial that stands before y^(q - 1), x^(q·q) being x
abbrev pub turned : ℕ → List ℕ → ℕ → ℕ
turned q grid i =
    cond (eqb i 0) 0
    (cond (ltb i (q + 1)) (top q grid (q * q - (q + 2) + i))
    (cond (eqb i (q + 1)) (plus (top q grid 0) (top q grid (q * q - 1))) (top q grid (i - (q + 1)))))

-- the coefficient of x^i·y^j in y times the polynomial of a grid, y^q being x^(q + 1) + y
abbrev pub times_y_at : ℕ → List ℕ → ℕ → ℕ → ℕ
times_y_at q grid i j =
    cond (eqb j 0) (turned q grid i) (cond (eqb j 1) (plus (get_or grid (q * i) 0) (top q grid i)) (get_or grid (q * i + (j - 1)) 0))

-- x^i·y^j times the word, at place p
abbrev pub product : ℕ → List ℕ → List ℕ → ℕ → ℕ → ℕ → ℕ
product q columns word i j p = (field_of q).times (term_at q (x_at q columns p) (y_at q columns p) i j) (get_or word p 0)

-- the number i of blocks of 64
abbrev pub block : List ℕ → ℕ → List ℕ
block l i = part l (64 * i) (64 * i + 64)

-- whatever the word: where the first grid is that of y^j times it, the blocks of out are those of x^0·y^j, x^1·y^j, .. times it
abbrev pub Multiples : ℕ → List ℕ → List ℕ → List ℕ → ℕ → Type 0
Multiples q columns first out count =
    (word : List ℕ) (j : ℕ) → Takes q columns (product q columns word 0 j) first
    → (i : ℕ) → i < count → Takes q columns (product q columns word i j) (block out i)

-- for each j below n, count blocks: those of x^0·y^j, x^1·y^j, .. times the word
pub record Products (q : ℕ) (columns word : List ℕ) (count : ℕ) (grids : List ℕ) (n : ℕ) : Type 0 where
  pub at : (j i : ℕ) → j < n → i < count
      → Takes q columns (product q columns word i j) (block (part grids (64 * count * j) (64 * count * j + 64 * count)) i)

-- where the block of term n, counted by ascending weight, starts
abbrev pub start_of : ℕ → ℕ → ℕ → ℕ → ℕ
start_of q s count n = let w = get_or (weights q s) n 0 in 64 * count * y_power q w + 64 * x_power q w

-- the starts of all terms of order s
pub record Starts (q s count : ℕ) (starts : List ℕ) : Type 0 where
  pub at : (n : ℕ) → n < size q s → get_or starts n 0 ≡ start_of q s count n

-- the entry e of the grid of term n, and the whole grid, which has m entries
abbrev pub entry_from : List ℕ → List ℕ → ℕ → ℕ → ℕ
entry_from starts grids e n = get_or grids (get_or starts n 0 + e) 0

abbrev pub grid_from : ℕ → List ℕ → List ℕ → ℕ → List ℕ
grid_from m starts grids n = part grids (get_or starts n 0) (get_or starts n 0 + m)
