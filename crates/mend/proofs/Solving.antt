-- The equations of the method as a system: where all rows are present only 0 meets them, and there is no locator; a solution other than 0 is one.
-- Assumes nothing.
use mathlib.Core.List.{List}
use mathlib.Core.Path.{◌≡◌}
use Prim.Native.Nat.{ℕ, ◌*◌, ◌<◌}
use native.Mathlib.Decide.{dec_lt}
use native.Mathlib.Omega.{arith}
use lib.ListN.{get_or, get_or-eq_default}
use Rattle.field.specs.Field.{Field}
use Rattle.field.proofs.FieldLaws.{zero_lt, times_zero}
use Rattle.field.proofs.Fields.{field_of}
use Rattle.field.proofs.Sums.{sum_zeros}
use Rattle.field.proofs.Curves.{short_curve}
use Rattle.poly.specs.Messages.{Vector}
use Rattle.poly.specs.Inner.Linear.{entry, dot}
use Rattle.linear.specs.Inner.Systems.{flat, Satisfies, Full}
use Rattle.linear.proofs.Solutions.{satisfies_unique}
use Rattle.linear.proofs.WellFormed.{triangular}
use Rattle.points.specs.Series.{columns_of}
use Rattle.code.specs.Terms.{size}
use Rattle.code.specs.Inner.Readable.{GridOf}
use Rattle.mend.specs.Inner.Locating.{reach, Mendable, Locator, TermProducts, HoldsHeavy}
use Rattle.mend.proofs.Symbols.{to_size, of_size}
use Rattle.mend.proofs.HeavyTerms.{locator_of, of_locator}

pub dot_nought : (F : Field) (k : ℕ) (r : ℕ → ℕ) → dot F k r (λ j. 0) ≡ 0
unfolding dot
dot_nought F k r = sum_zeros k (λ j. F.times (r j) 0) (λ j l. times_zero F (r j))

module _ (q series m : ℕ) (word : List ℕ) (ok : Mendable q series m word) (products grids : ℕ → List ℕ)
    (made : TermProducts q series (reach q m) word products)
    (laid : (i : ℕ) → i < size q (reach q m) → GridOf q (columns_of q series) (products i) (grids i))
    (stride : ℕ) (work : List ℕ) (held : HoldsHeavy q m (reach q m) stride grids work (q * q * q)) where
  abbrev F : Field
  F = field_of q

  abbrev k : ℕ
  k = size q (reach q m)

  nought_satisfies : Satisfies F k (flat stride k work) (λ j. 0)
  nought_satisfies = (held.same (λ j. 0)).0 (λ e l w. dot_nought F k (λ i. get_or (grids i) e 0))

  -- all rows present: no locator
  pub full_no_locator : Full k (flat stride k work) → (f : List ℕ) → Locator q series m word f → ⊥
  full_no_locator full f loc = loc.some (zero_at loc.place)
    where
      vec : Vector F.size k f
      vec = to_size q (short_curve q ok.curve) k f loc.vector

      zero_at : (i : ℕ) → get_or f i 0 ≡ 0
      zero_at i = elim (dec_lt i k) [
        | yes l ↦
            satisfies_unique F (flat stride k work) k (triangular F stride k work held.formed) full (entry f) (λ j. 0) vec.small
            (λ j b. zero_lt F)
            ((held.same (entry f)).0 (of_locator q series m word ok products grids made laid f loc)) nought_satisfies i l
        | no d ↦ get_or-eq_default f 0 {n = i} (omega (arith, vec.len))
      ]

  -- a solution other than 0 locates
  pub solution_locates : (f : List ℕ) → Vector F.size k f → Satisfies F k (flat stride k work) (entry f) → (i : ℕ) → (get_or f i 0 ≡ 0
      → ⊥) → Locator q series m word f
  solution_locates f vec sat i d =
      locator_of q series m word ok products grids made laid f (of_size q (short_curve q ok.curve) k f vec) i d ((held.same (entry f)).1 sat)
