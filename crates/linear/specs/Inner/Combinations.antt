-- Combinations of vectors over a field, at the entries below n; those count that pass the test H.
use Rattle.std.specs.Prelude.{Bool, not, ◌||◌, List, ◌≡◌, ℕ, suc, ◌+◌, ◌-◌, ◌*◌, ◌^◌, ◌≤◌, ◌<◌, T, eqb}
use Rattle.field.specs.Plus.{plus}
use Rattle.field.specs.Field.{Field}
use Rattle.field.specs.Tests.{every}
use Rattle.poly.specs.Lists.{count}
use Rattle.poly.specs.Messages.{all}
use Rattle.poly.specs.Inner.Linear.{entry, dot}

-- vectors, and one that is added to each of their combinations
pub record Family : Type 0 where
  pub vector : ℕ → ℕ → ℕ
  pub added : ℕ → ℕ

-- vectors in a flat list from row t on, and the one that is added in a list of its own
abbrev pub rows_from : ℕ → ℕ → List ℕ → List ℕ → Family
rows_from stride t vectors grid = record { vector = λ p i. entry vectors (stride * (t + p) + i); added = entry grid }

-- entry i of u 0 · vector 0 + .. + u (e - 1) · vector (e - 1) + added
unfoldable pub combined : Field → ℕ → Family → (ℕ → ℕ) → ℕ → ℕ
combined F e S u i = plus (S.added i) (dot F e u (λ p. S.vector p i))

-- f is 0 at every entry that counts
pub record ZeroOn (H : ℕ → Bool) (n : ℕ) (f : ℕ → ℕ) : Type 0 where
  pub at : (i : ℕ) → i < n → T (H i) → f i ≡ 0

-- that, as a test
unfoldable pub zero_on : (ℕ → Bool) → ℕ → (ℕ → ℕ) → Bool
zero_on H n f = every n (λ i. not (H i) || eqb (f i) 0)

-- how many lists of e symbols give a combination that is 0 at every entry that counts
unfoldable pub solutions : Field → (ℕ → Bool) → ℕ → ℕ → Family → ℕ
solutions F H n e S = count (λ u. zero_on H n (combined F e S (entry u))) (all F.size e)

-- the e vectors, and the one that is added, are of symbols
pub record Symbols (F : Field) (n e : ℕ) (S : Family) : Type 0 where
  pub vectors : (p i : ℕ) → p < e → i < n → S.vector p i < F.size
  pub added : (i : ℕ) → i < n → S.added i < F.size

-- the entries from n up to room are 0
pub record Padded (n room e : ℕ) (S : Family) : Type 0 where
  pub within : n ≤ room
  pub vectors : (p i : ℕ) → p < e → n ≤ i → i < room → S.vector p i ≡ 0
  pub added : (i : ℕ) → n ≤ i → i < room → S.added i ≡ 0

-- S' has e vectors: those of S without the first
pub record Skipped (n e : ℕ) (S S' : Family) : Type 0 where
  pub vectors : (p i : ℕ) → p < e → i < n → S'.vector p i ≡ S.vector (suc p) i
  pub added : (i : ℕ) → i < n → S'.added i ≡ S.added i

-- w with the multiple of the pivot v added that makes entry s 0
abbrev pub clear : Field → ℕ → (ℕ → ℕ) → (ℕ → ℕ) → ℕ → ℕ
clear F s v w i = plus (w i) (F.times (w s) (F.times (F.inverse (v s)) (v i)))

-- S' has e vectors: those of S without the first, which was the pivot for entry s
pub record Cleared (F : Field) (n e s : ℕ) (S S' : Family) : Type 0 where
  pub vectors : (p i : ℕ) → p < e → i < n → S'.vector p i ≡ clear F s (S.vector 0) (S.vector (suc p)) i
  pub added : (i : ℕ) → i < n → S'.added i ≡ clear F s (S.vector 0) S.added i

-- t of the e vectors of S are done with, and r of these were pivots; S' has the others
pub record Eliminated (F : Field) (H : ℕ → Bool) (n e : ℕ) (S : Family) (t r : ℕ) (S' : Family) : Type 0 where
  pub within : t ≤ e
  pub pivots : r ≤ t
  pub symbols : Symbols F n (e - t) S'
  pub counted : solutions F H n e S ≡ F.size ^ (t - r) * solutions F H n (e - t) S'
  pub same : r ≡ t → (u : ℕ → ℕ) → ZeroOn H n (combined F e S u) → (i : ℕ) → i < n → combined F e S u i ≡ combined F (e - t) S' (λ p. u (t + p)) i
