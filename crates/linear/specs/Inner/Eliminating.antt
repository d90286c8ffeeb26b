-- What the functions that eliminate ask and leave.
use Rattle.std.specs.Prelude.{Bool, not, List, ◌⊎◌, ◌≡◌, ℕ, ◌+◌, ◌-◌, ◌*◌, ◌%◌, ◌≤◌, ◌<◌, T, eqb, length}
use Rattle.field.specs.Plus.{plus}
use Rattle.field.specs.Field.{Field}
use Rattle.poly.specs.Inner.Ranges.{Below}
use Rattle.poly.specs.Inner.Linear.{entry}
use Rattle.linear.specs.Inner.Combinations.{ZeroOn, clear}

-- the entries at which high isn't 0 count
abbrev pub marked : List ℕ → ℕ → Bool
marked high i = not (eqb (entry high i) 0)

-- marks are masks: all bits at the entries that count, none elsewhere
abbrev pub Masks : List ℕ → Type 0
Masks high = (i : ℕ) → (entry high i ≡ 0) ⊎ (entry high i ≡ 255)

-- r is one more than the last place that counts and where v isn't 0; or 0, where v is 0 at every one
pub record Last (high v : List ℕ) (r : ℕ) : Type 0 where
  pub within : r ≤ length high
  pub none : r ≡ 0 → ZeroOn (marked high) (length high) (entry v)
  pub some : 0 < r → T (marked high (r - 1)) × (entry v (r - 1) ≡ 0 → ⊥)

-- room for count rows of n symbols each, the first of which is 0; n is a multiple of 16
pub record Table (F : Field) (n count : ℕ) (table : List ℕ) : Type 0 where
  pub sixteens : n % 16 ≡ 0
  pub room : n * count ≤ length table
  pub symbols : Below F.size table
  pub zero : (j : ℕ) → j < n → entry table j ≡ 0

-- row s of a table, for each s below count, is s times v
pub record Multiples (F : Field) (n count : ℕ) (v : ℕ → ℕ) (table : List ℕ) : Type 0 where
  pub at : (s j : ℕ) → s < count → j < n → entry table (n * s + j) ≡ F.times s (v j)

-- rows 2·a and 2·a + 1 are written: z times row a, without and with row 1 added; those before are as they were
pub record Doubled (F : Field) (n a : ℕ) (table₀ table : List ℕ) : Type 0 where
  pub symbols : Below F.size table
  pub even : (j : ℕ) → j < n → entry table (n * (2 * a) + j) ≡ F.times 2 (entry table₀ (n * a + j))
  pub odd : (j : ℕ) → j < n → entry table (n * (2 * a + 1) + j) ≡ plus (F.times 2 (entry table₀ (n * a + j))) (entry table₀ (n + j))
  pub kept : (i : ℕ) → i < n * (2 * a) → entry table i ≡ entry table₀ i

-- what clearing reads: factors has c times each symbol s at s, and the tables have the multiples of v by the halves of the symbols
pub record Clearing (F : Field) (half n i c : ℕ) (v : ℕ → ℕ) (factors low top : List ℕ) : Type 0 where
  pub place : i < n
  pub sixteens : n % 16 ≡ 0
  pub room : F.size ≤ length factors
  pub low_room : n * half ≤ length low
  pub top_room : n * half ≤ length top
  pub scaled : (s : ℕ) → s < F.size → entry factors s ≡ F.times s c
  pub low_rows : Multiples F n half v low
  pub top_rows : Multiples F n half (λ j. F.times half (v j)) top

-- the first k of the vectors of n symbols have v times c times their entry i added, and the others are as they were
pub record AllCleared (F : Field) (n i c : ℕ) (v : ℕ → ℕ) (vectors₀ vectors : List ℕ) (k : ℕ) : Type 0 where
  pub symbols : Below F.size vectors
  pub done : (p j : ℕ) → p < k → j < n
      → entry vectors (n * p + j) ≡ plus (entry vectors₀ (n * p + j)) (F.times (F.times (entry vectors₀ (n * p + i)) c) (v j))
  pub kept : (j : ℕ) → n * k ≤ j → entry vectors j ≡ entry vectors₀ j

-- the first vector was the pivot for entry s of the others, count of them, and of the one that is apart
pub record PivotTaken (F : Field) (n s count : ℕ) (vectors₀ vectors grid₀ grid : List ℕ) : Type 0 where
  pub symbols : Below F.size vectors
  pub grid_symbols : Below F.size grid
  pub others : (p i : ℕ) → 0 < p → p ≤ count → i < n
      → entry vectors (n * p + i) ≡ clear F s (entry vectors₀) (λ i. entry vectors₀ (n * p + i)) i
  pub apart : (i : ℕ) → i < n → entry grid i ≡ clear F s (entry vectors₀) (entry grid₀) i

-- the first vector was 0 at every place that counts, and all is as it was; or it was the pivot for one of them
pub record Stepped (F : Field) (count : ℕ) (high vectors₀ vectors grid₀ grid : List ℕ) (r : ℕ) : Type 0 where
  pub few : r ≤ 1
  pub none : r ≡ 0 → ZeroOn (marked high) (length high) (entry vectors₀) × (vectors ≡ vectors₀) × (grid ≡ grid₀)
  pub some : r ≡ 1 → (s : ℕ) × (s < length high) × T (marked high s) × (entry vectors₀ s ≡ 0 → ⊥)
      × PivotTaken F (length high) s count vectors₀ vectors grid₀ grid
