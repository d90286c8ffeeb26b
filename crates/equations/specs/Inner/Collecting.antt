-- The equations of a broken word over columns, and what the functions that bring them into a system ask and give.
use Rattle.std.specs.Prelude.{Option, Some, None, cond, List, ◌↔◌, ◌≡◌, ℕ, ◌<◌, eqb, get_or}
use Rattle.field.proofs.Fields.{field_of}
use Rattle.poly.specs.Inner.Linear.{entry, dot}
use Rattle.linear.specs.Inner.Systems.{flat, Satisfies, rank, WellFormed}
use Rattle.code.specs.Terms.{weights, size}
use Rattle.code.specs.Word.{monomial}
use Rattle.code.specs.Inner.Rows.{row_of}

-- row is the equation of the symbol s at the point (x, y)
pub record EquationAt (q m x y s : ℕ) (row : List ℕ) : Type 0 where
  pub coefficients : (n : ℕ) → n < size q m → entry row n ≡ monomial q (get_or (weights q m) n 0) x y
  pub side : entry row (size q m) ≡ s

-- the whole equation of the symbol s at place p: the coefficients, and s at k
abbrev pub equation_of : ℕ → List ℕ → ℕ → ℕ → ℕ → ℕ → ℕ
equation_of q columns m p s n = cond (eqb n (size q m)) s (row_of q columns m p n)

-- v meets the equations of the symbols that have arrived at places below n
pub record FitsBelow (q : ℕ) (columns : List ℕ) (m : ℕ) (word : List ℕ) (n : ℕ) (v : ℕ → ℕ) : Type 0 where
  pub at : (p : ℕ) → p < n → (get_or word p 0 ≡ 255 → ⊥) → dot (field_of q) (size q m) (row_of q columns m p) v ≡ get_or word p 0

-- work has r rows, and holds the equations of the symbols below n
pub record Collected (q : ℕ) (columns : List ℕ) (m : ℕ) (word work : List ℕ) (n r : ℕ) : Type 0 where
  pub formed : WellFormed (field_of q) 64 (size q m) work
  pub ranked : r ≡ rank (size q m) (flat 64 (size q m) work)
  pub same : (v : ℕ → ℕ) → FitsBelow q columns m word n v ↔ Satisfies (field_of q) (size q m) (flat 64 (size q m) work) v

-- v meets the equation of what stands at place p, where that is a symbol
abbrev pub FitsAt : ℕ → List ℕ → ℕ → ℕ → ℕ → (ℕ → ℕ) → Type 0
FitsAt q columns m p s v = (s ≡ 255 → ⊥) → dot (field_of q) (size q m) (row_of q columns m p) v ≡ s

-- how a step from a system of rank rows comes out: with a clash, and else with r rows that hold the place's equation too
pub record Taken (q : ℕ) (columns : List ℕ) (m p s rank₀ : ℕ) (work work' : List ℕ) (r : ℕ) : Type 0 where
  pub formed : WellFormed (field_of q) 64 (size q m) work'
  pub ranked : rank₀ ≡ rank (size q m) (flat 64 (size q m) work) → r ≡ rank (size q m) (flat 64 (size q m) work')
  pub both : (v : ℕ → ℕ) → (Satisfies (field_of q) (size q m) (flat 64 (size q m) work) v × FitsAt q columns m p s v)
      ↔ Satisfies (field_of q) (size q m) (flat 64 (size q m) work') v

abbrev pub Advanced : ℕ → List ℕ → ℕ → ℕ → ℕ → ℕ → List ℕ → List ℕ → Option ℕ → Type 0
Advanced q columns m p s rank₀ work work' None =
    (v : ℕ → ℕ) → Satisfies (field_of q) (size q m) (flat 64 (size q m) work) v → FitsAt q columns m p s v → ⊥
Advanced q columns m p s rank₀ work work' (Some r) = Taken q columns m p s rank₀ work work' r
