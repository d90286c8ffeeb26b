-- The turns of `reduce`: to take a row of a well-formed system out of an equation keeps `Reducing`.
-- Assumes nothing.
use mathlib.Core.Path.{◌≡◌, refl, sym, ap, ◌∙◌}
use mathlib.Core.List.{List}
use mathlib.Core.Logic.{◌⊎◌, inl, inr, ⊎_elim}
use Prim.Native.Nat.{ℕ, ◌+◌, ◌-◌, ◌*◌, ◌≤◌, ◌<◌}
use native.Mathlib.Nat.{eq-or-lt_of_le}
use native.Mathlib.Omega.{arith}
use lib.Dec.{T}
use lib.ListN.{length}
use Rattle.field.specs.Plus.{plus}
use Rattle.field.specs.Field.{Field}
use Rattle.field.proofs.Plus.{plus_zero, plus_self}
use Rattle.field.proofs.FieldLaws.{times_zero, times_one_right}
use Rattle.poly.specs.Inner.Ranges.{part}
use Rattle.poly.specs.Inner.Linear.{entry, Holds}
use Rattle.poly.specs.Inner.Rows.{added}
use Rattle.linear.specs.Inner.Systems.{System, flat, WellFormed, Equation, Reducing}
use Rattle.poly.proofs.Parts.{part_at}
use Rattle.poly.proofs.Linear.{dot_cong, row_operation}
use Rattle.linear.proofs.RowOperations.{length_added, added_at}

-- equations with the same coefficients and right-hand side hold together
pub holds_cong : (F : Field) (k : ℕ) (r s v : ℕ → ℕ) → ((j : ℕ) → j ≤ k → r j ≡ s j) → Holds F k r v → Holds F k s v
holds_cong F k r s v h e = sym (dot_cong F k r s v (λ j l. h j (omega arith))) ∙ e ∙ h k (omega arith)

module _ (F : Field) (stride k : ℕ) (work row₀ : List ℕ) (wf : WellFormed F stride k work) (eq : Equation F k row₀) where
  abbrev S : System
  S = flat stride k work

  pub reducing_start : Reducing F k S row₀ row₀ k
  reducing_start =
      record { long = refl; symbols = eq.symbols; within = omega arith; zeros = λ j h l. absurd (omega arith); same = λ v s. (λ h. h, λ h. h) }

  module _ (row : List ℕ) (p : ℕ) (R : Reducing F k S row₀ row p) (pos : 0 < p) where
    pub reducing_skip : entry row (p - 1) ≡ 0 → Reducing F k S row₀ row (p - 1)
    reducing_skip e =
        record {
          long = R.long;
          symbols = R.symbols;
          within = omega (arith, R.within);
          zeros = λ j h l. ⊎_elim (λ i. rw (← i) e) (λ g. R.zeros j (omega arith) l) (eq-or-lt_of_le h);
          same = R.same;
        }

    -- row p - 1 is there, and its first n elements are taken out of row
    module _ (n : ℕ) (kn : k < n) (ns : n ≤ stride) (nr : n ≤ length row) (there : entry work ((p - 1) * stride + (p - 1)) ≡ 0 → ⊥) where
      abbrev i : ℕ
      i = p - 1

      abbrev c : ℕ
      c = entry row i

      abbrev taken : List ℕ
      taken = part work (i * stride) (i * stride + stride)

      abbrev new : List ℕ
      new = added F c n taken row

      ik : i < k
      ik = omega (arith, R.within)

      one : S.row i i ≡ 1
      one = ⊎_elim (λ z. absurd (there z)) (λ o. o) (wf.diagonal i ik)

      present : T (S.present i)
      present = rw one tt

      taken_at : (j : ℕ) → j ≤ k → entry taken j ≡ S.row i j
      taken_at j h = part_at work (i * stride) (i * stride + stride) j (omega (arith, wf.room))

      later : (j : ℕ) → p ≤ j → j < k → S.row i j ≡ 0
      later j h l = wf.triangle i j (omega arith) l present

      new_at : (j : ℕ) → j ≤ k → entry new j ≡ plus (entry row j) (F.times c (S.row i j))
      new_at j h = added_at F c n taken row nr j (omega arith) ∙ ap (λ (x : ℕ). plus (entry row j) (F.times c x)) (taken_at j h)

      new_zero : (j : ℕ) → (i ≡ j) ⊎ (i < j) → j < k → entry new j ≡ 0
      new_zero j (inl e) l =
          rw (← e)
          (new_at i (omega (arith, ik)) ∙ ap (λ (x : ℕ). plus c (F.times c x)) one
          ∙ ap (plus c) (times_one_right F c (R.symbols i (omega (arith, ik)))) ∙ plus_self c)
      new_zero j (inr g) l =
          new_at j (omega arith) ∙ ap (plus (entry row j)) (ap (F.times c) (later j (omega arith) l) ∙ times_zero F c) ∙ plus_zero (entry row j)
          ∙ R.zeros j (omega arith) l

      pub reducing_turn : Reducing F k S row₀ (added F (entry row (p - 1)) n (part work ((p - 1) * stride) ((p - 1) * stride + stride)) row) (p - 1)
      reducing_turn =
          record {
            long = length_added F c n taken row nr ∙ R.long;
            symbols = λ j h. rw (new_at j h) (F.plus_lt _ _ (R.symbols j h) (F.times_lt c _));
            within = omega (arith, R.within);
            zeros = λ j h l. new_zero j (eq-or-lt_of_le h) l;
            same = λ v s.
                let both = row_operation F k c (entry row) (S.row i) (entry row k) (S.rhs i) v (s.holds i ik present) in (
                  λ h. holds_cong F k _ (entry new) v (λ j b. sym (new_at j b)) (both.1 ((R.same v s).0 h)),
                  λ h. (R.same v s).1 (both.0 (holds_cong F k (entry new) _ v new_at h)),
                );
          }
