-- Places that are sure to fix the codeword, which are called staircases: for each y^j of a term of the order m, more columns than the greatest
-- power of x beside y^j have more than j of the places each. And the test of it.
use Rattle.std.specs.Prelude.{Bool, false, not, ◌||◌, ℕ, suc, ◌+◌, ◌-◌, ◌*◌, ◌/◌, ◌≤◌, ◌<◌, eqb, leb, ltb, length}
use mathlib.Core.List.{List, [], ◌∷◌, Memᴰ as Mem}
use Rattle.field.specs.Tests.{every}
use Rattle.poly.specs.Lists.{Nodup}
use Rattle.points.specs.Passing.{passing}
use Rattle.code.specs.Inner.Grid.{weight_of}

-- the greatest i of a term x^i·y^j of the order m: q·i + (q+1)·j ≤ m
abbrev pub highest_x : ℕ → ℕ → ℕ → ℕ
highest_x q m j = (m - suc q * j) / q

-- more than j of the places are in column number t: they are q·t + s for these s
pub record Holding (q : ℕ) (places : List ℕ) (j t : ℕ) : Type 0 where
  pub numbers : List ℕ
  pub distinct : Nodup numbers
  pub enough : j < length numbers
  pub small : (s : ℕ) → Mem s numbers → s < q
  pub held : (s : ℕ) → Mem s numbers → Mem (q * t + s) places

-- more such columns than the greatest power of x beside y^j
pub record Stair (q : ℕ) (columns : List ℕ) (m : ℕ) (places : List ℕ) (j : ℕ) : Type 0 where
  pub numbers : List ℕ
  pub distinct : Nodup numbers
  pub enough : highest_x q m j < length numbers
  pub small : (t : ℕ) → Mem t numbers → t < length columns
  pub holding : (t : ℕ) → Mem t numbers → Holding q places j t

-- so for each y^j of a term
pub record Staircase (q : ℕ) (columns : List ℕ) (m : ℕ) (places : List ℕ) : Type 0 where
  pub stair : (j : ℕ) → j < q → suc q * j ≤ m → Stair q columns m places j

-- the places of c columns that are no heavier than m, where place q·t + s has the weight of x^t·y^s
abbrev pub light_places : ℕ → ℕ → ℕ → List ℕ
light_places q c m = passing (λ p. leb (weight_of q p) m) (q * c)

-- ---- the test

unfoldable pub is_among : List ℕ → ℕ → Bool
is_among [] p = false
is_among (x ∷ xs) p = eqb p x || is_among xs p

-- the s of the places q·t + s in column number t
abbrev pub held_by : ℕ → List ℕ → ℕ → List ℕ
held_by q places t = passing (λ s. is_among places (q * t + s)) q

-- those of the first c columns that have more than j of the places
abbrev pub columns_with : ℕ → ℕ → List ℕ → ℕ → List ℕ
columns_with q c places j = passing (λ t. ltb j (length (held_by q places t))) c

unfoldable pub is_staircase : ℕ → List ℕ → ℕ → List ℕ → Bool
is_staircase q columns m places =
    every q (λ j. not (leb (suc q * j) m) || ltb (highest_x q m j) (length (columns_with q (length columns) places j)))
