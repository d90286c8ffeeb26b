-- The sums of a word's symbols against the terms x^i·y^j, in two stages: over the y of each column, then over the columns.
use Rattle.std.specs.Prelude.{Bool, true, List, ◌↔◌, ◌≡◌, ℕ, suc, ◌+◌, ◌*◌, ◌/◌, ◌%◌, ◌≤◌, ◌<◌, length, get_or}
use Rattle.field.specs.Power.{power}
use Rattle.field.specs.Sum.{sum}
use Rattle.field.proofs.Fields.{field_of}
use Rattle.poly.specs.Inner.Ranges.{Below, Blocks}
use Rattle.points.specs.Inner.Columns.{column_y}

-- the first stage: the first n symbols of column t, each times its y to the power j
abbrev pub first_symbols : ℕ → ℕ → List ℕ → List ℕ → ℕ → ℕ → ℕ
first_symbols n q columns word j t = sum n (λ s. (field_of q).times (get_or word (q * t + s) 0) (power (field_of q) (column_y q columns t s) j))

-- all of them
abbrev pub column_sum : ℕ → List ℕ → List ℕ → ℕ → ℕ → ℕ
column_sum q = first_symbols q q

-- what the first stage leaves of the first n symbols of sixteen columns at most: sixteen lanes for each power of y, those of the columns first
pub record SummedInY (n q : ℕ) (columns word rows : List ℕ) : Type 0 where
  pub sums : Blocks 16 (first_symbols n q columns word) rows q
  pub symbols : Below (field_of q).size rows

-- the second stage: numbers of n columns, each times its x to the power i
abbrev pub sum_by_power_of_x : ℕ → ℕ → List ℕ → ℕ → (ℕ → ℕ) → ℕ
sum_by_power_of_x n q columns i f = sum n (λ t. (field_of q).times (f t) (power (field_of q) (get_or columns t 0) i))

-- both
abbrev pub staged_sum : ℕ → List ℕ → List ℕ → ℕ → ℕ → ℕ
staged_sum q columns word i j = sum_by_power_of_x (length columns) q columns i (column_sum q columns word j)

-- ---- what is told by a Bool

-- every sum f i of a term x^i·y^j of the order m is 0
abbrev pub PowersVanish : ℕ → ℕ → ℕ → (ℕ → ℕ) → Type 0
PowersVanish q m j f = (i : ℕ) → q * i + suc q * j ≤ m → f i ≡ 0

-- so for each j
abbrev pub TermsVanish : ℕ → ℕ → (ℕ → ℕ → ℕ) → Type 0
TermsVanish q m f = (j : ℕ) → j < q → PowersVanish q m j (λ i. f i j)

-- the Bool is true exactly where the claim holds
abbrev pub Tells : Bool → Type 0 → Type 0
Tells b claim = (b ≡ true) ↔ claim

-- ---- long blocks: what the first stage leaves of sixteen columns stands together, 128 numbers, and there are four such parts

abbrev pub long_entry : List ℕ → ℕ → ℕ → ℕ
long_entry rows j t = get_or rows (128 * (t / 16) + (16 * j + t % 16)) 0
