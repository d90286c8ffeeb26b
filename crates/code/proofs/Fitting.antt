-- The test `fits`, as a statement.
-- Assumes nothing.
use mathlib.Core.Path.{◌≡◌}
use mathlib.Core.Bool.{Bool, ◌||◌}
use mathlib.Core.List.{List}
use mathlib.Core.Logic.{inl, inr}
use Prim.Native.Nat.{ℕ, ◌<◌}
use native.Mathlib.Decide.{ℕ_discrete}
use borrow.Author.Tests.{eq-eqb}
use lib.Dec.{T, eqb, eqb→eq}
use lib.ListN.{length, get_or}
use Rattle.field.proofs.Search.{of_every, to_every}
use Rattle.poly.proofs.Bools.{of_or, or_left, or_right}
use Rattle.code.specs.Fitting.{fits}

pub record Fits (word : List ℕ → List ℕ) (broken v : List ℕ) : Type 0 where
  pub at : (p : ℕ) → p < length broken → (get_or broken p 0 ≡ 255 → ⊥) → get_or (word v) p 0 ≡ get_or broken p 0

module _ (word : List ℕ → List ℕ) (broken v : List ℕ) where
  abbrev agrees_at : ℕ → Bool
  agrees_at p = eqb (get_or broken p 0) 255 || eqb (get_or (word v) p 0) (get_or broken p 0)

  pub of_fits : T (fits word broken v) → Fits word broken v
  unfolding fits
  of_fits t =
      record {
        at = λ p l n. elim (of_or (eqb (get_or broken p 0) 255) (eqb (get_or (word v) p 0) (get_or broken p 0))
            (of_every (length broken) agrees_at t p l)) [
              | inl x ↦ absurd (n (eqb→eq (get_or broken p 0) 255 x))
              | inr x ↦ eqb→eq (get_or (word v) p 0) (get_or broken p 0) x
            ];
      }

  pub to_fits : Fits word broken v → T (fits word broken v)
  unfolding fits
  to_fits h =
      to_every (length broken) agrees_at (λ p l. elim (ℕ_discrete (get_or broken p 0) 255) [
        | yes e ↦ or_left (eqb (get_or broken p 0) 255) (eqb (get_or (word v) p 0) (get_or broken p 0)) (rw (eq-eqb (get_or broken p 0) 255 e) tt)
        | no n ↦ or_right (eqb (get_or broken p 0) 255) (eqb (get_or (word v) p 0) (get_or broken p 0))
            (rw (eq-eqb (get_or (word v) p 0) (get_or broken p 0) (h.at p l n)) tt)
      ])
