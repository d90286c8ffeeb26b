-- Systems of linear equations in k unknowns that are triangular: row p, where there is one, ends at the unknown p.
use Rattle.std.specs.Prelude.{Bool, true, false, not, List, ◌⊎◌, ◌↔◌, ◌≡◌, ℕ, ◌+◌, ◌-◌, ◌*◌, ◌≤◌, ◌<◌, T, eqb, length}
use Rattle.field.specs.Field.{Field}
use Rattle.poly.specs.Lists.{count, below}
use Rattle.poly.specs.Inner.Ranges.{Below}
use Rattle.poly.specs.Inner.Linear.{entry, dot, Holds}
use Rattle.linear.specs.declared.system.Effect.{Effect}
use Rattle.linear.specs.declared.system.Effect.TheVariants.{Pivot, Redundant, Contradiction}

-- rows of coefficients, each with a right-hand side; only those that are present count
pub record System : Type 0 where
  pub present : ℕ → Bool
  pub row : ℕ → ℕ → ℕ
  pub rhs : ℕ → ℕ

-- the system in a flat list: row p stands from p * stride on, its right-hand side at k, and it is present when its entry p is 1
abbrev pub flat : ℕ → ℕ → List ℕ → System
flat stride k work =
    record {
      present = λ p. eqb (entry work (p * stride + p)) 1;
      row = λ p j. entry work (p * stride + j);
      rhs = λ p. entry work (p * stride + k);
    }

-- v meets every row that is present
pub record Satisfies (F : Field) (k : ℕ) (S : System) (v : ℕ → ℕ) : Type 0 where
  pub holds : (p : ℕ) → p < k → T (S.present p) → dot F k (S.row p) v ≡ S.rhs p

-- the number of rows that are present
unfoldable pub rank : ℕ → System → ℕ
rank k S = count S.present (below k)

-- every row is present
abbrev pub Full : ℕ → System → Type 0
Full k S = (p : ℕ) → p < k → T (S.present p)

-- work is a square of symbols whose rows have 0 or 1 at their own unknown, and those that are present 0 at each later one
pub record WellFormed (F : Field) (stride k : ℕ) (work : List ℕ) : Type 0 where
  pub room : k < stride
  pub area : length work ≡ stride * stride
  pub symbols : Below F.size work
  pub diagonal : (p : ℕ) → p < k → ((flat stride k work).row p p ≡ 0) ⊎ ((flat stride k work).row p p ≡ 1)
  pub triangle : (p j : ℕ) → p < j → j < k → T ((flat stride k work).present p) → (flat stride k work).row p j ≡ 0

-- row has k coefficients and, at k, a right-hand side
pub record Equation (F : Field) (k : ℕ) (row : List ℕ) : Type 0 where
  pub long : k < length row
  pub symbols : (j : ℕ) → j ≤ k → entry row j < F.size

-- row is row₀ with rows of S taken out, which changes nothing where S is satisfied, and no coefficient from p on is left
pub record Reducing (F : Field) (k : ℕ) (S : System) (row₀ row : List ℕ) (p : ℕ) : Type 0 where
  pub long : length row ≡ length row₀
  pub symbols : (j : ℕ) → j ≤ k → entry row j < F.size
  pub within : p ≤ k
  pub zeros : (j : ℕ) → p ≤ j → j < k → entry row j ≡ 0
  pub same : (v : ℕ → ℕ) → Satisfies F k S v → Holds F k (entry row₀) v ↔ Holds F k (entry row) v

-- r is one more than the place of row's last coefficient, where S has no row; or 0, where no coefficient is left
pub record Reduced (F : Field) (k : ℕ) (S : System) (row₀ row : List ℕ) (r : ℕ) : Type 0 where
  pub reducing : Reducing F k S row₀ row r
  pub pivot : 0 < r → (entry row (r - 1) ≡ 0 → ⊥) × T (not (S.present (r - 1)))

-- S' is satisfied by what satisfies S and meets the equation r
pub record Joined (F : Field) (k : ℕ) (S : System) (r : ℕ → ℕ) (S' : System) : Type 0 where
  pub both : (v : ℕ → ℕ) → (Satisfies F k S v × Holds F k r v) ↔ Satisfies F k S' v

-- nothing that satisfies S meets the equation r
pub record Excluded (F : Field) (k : ℕ) (S : System) (r : ℕ → ℕ) : Type 0 where
  pub never : (v : ℕ → ℕ) → Satisfies F k S v → Holds F k r v → ⊥

-- what work' is after the equation r was brought into work, by the answer
abbrev pub Brought : Field → ℕ → ℕ → List ℕ → (ℕ → ℕ) → List ℕ → Effect → Type 0
Brought F stride k work r work' Pivot =
    Joined F k (flat stride k work) r (flat stride k work') × (rank k (flat stride k work') ≡ rank k (flat stride k work) + 1)
Brought F stride k work r work' Redundant = Joined F k (flat stride k work) r (flat stride k work') × (work' ≡ work)
Brought F stride k work r work' Contradiction = Excluded F k (flat stride k work) r × (work' ≡ work)

-- the first k elements of message are symbols that satisfy S
pub record Solution (F : Field) (k : ℕ) (S : System) (message : List ℕ) : Type 0 where
  pub symbols : (j : ℕ) → j < k → entry message j < F.size
  pub satisfies : Satisfies F k S (entry message)

-- message satisfies S, and no other k symbols do
pub record Solves (F : Field) (k : ℕ) (S : System) (message : List ℕ) : Type 0 where
  pub symbols : (j : ℕ) → j < k → entry message j < F.size
  pub solution : Satisfies F k S (entry message)
  pub only : (v : ℕ → ℕ) → ((j : ℕ) → j < k → v j < F.size) → Satisfies F k S v → (j : ℕ) → j < k → v j ≡ entry message j

-- the rows of all unknowns before r are present, and that of r, where r is below k, is not
pub record FirstFree (k : ℕ) (S : System) (r : ℕ) : Type 0 where
  pub within : r ≤ k
  pub rows : (p : ℕ) → p < r → T (S.present p)
  pub free : r < k → T (not (S.present r))

-- symbols that satisfy S' satisfy S, with 1 at p
pub record Fixed (F : Field) (k : ℕ) (S : System) (p : ℕ) (S' : System) : Type 0 where
  pub of : (v : ℕ → ℕ) → v p < F.size → Satisfies F k S' v → Satisfies F k S v × (v p ≡ 1)

-- message satisfies S and isn't 0, being 1 at some unknown; or there is none but the one solution, every row being present
abbrev pub NonzeroSolved : Field → ℕ → System → List ℕ → Bool → Type 0
NonzeroSolved F k S message true = Solution F k S message × ((p : ℕ) × (p < k) × (entry message p ≡ 1))
NonzeroSolved F k S message false = Full k S
