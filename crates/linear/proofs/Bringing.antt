-- What `bring_in` leaves, by its answer, from what `reduce` and `place` leave.
-- Assumes nothing.
use mathlib.Core.Path.{◌≡◌, sym, ◌∙◌}
use mathlib.Core.List.{List}
use Prim.Native.Nat.{ℕ, ◌+◌, ◌-◌, ◌≤◌, ◌<◌}
use native.Mathlib.Omega.{arith}
use Rattle.field.specs.Field.{Field}
use Rattle.poly.specs.Inner.Linear.{entry, dot, Holds}
use Rattle.poly.specs.Inner.Rows.{divided, placed}
use Rattle.linear.specs.Inner.Systems.{System, flat, rank, WellFormed, Equation, Reducing, Reduced, Joined, Excluded, Brought}
use Rattle.linear.specs.declared.system.Effect.{Effect}
use Rattle.linear.specs.declared.system.Effect.TheVariants.{Pivot, Redundant, Contradiction}
use Rattle.poly.proofs.Linear.{dot_cong, dot_zero}
use Rattle.linear.proofs.Placement.{placed_formed, placed_rank, placed_joined}

module _ (F : Field) (k : ℕ) (S : System) (row₀ row : List ℕ) where
  -- no coefficient is left
  nothing_left : Reducing F k S row₀ row 0 → (v : ℕ → ℕ) → dot F k (entry row) v ≡ 0
  nothing_left R v = dot_zero F k (entry row) v (λ j l. R.zeros j (omega arith) l)

  pub redundant : Reducing F k S row₀ row 0 → entry row k ≡ 0 → Joined F k S (entry row₀) S
  redundant R e = record { both = λ v. (λ h. h.0, λ s. (s, (R.same v s).1 (nothing_left R v ∙ sym e))) }

  pub contradiction : Reducing F k S row₀ row 0 → (entry row k ≡ 0 → ⊥) → Excluded F k S (entry row₀)
  contradiction R n = record { never = λ v s h. n (sym ((R.same v s).0 h) ∙ nothing_left R v) }

module _ (F : Field) (stride k : ℕ) (work row₀ row : List ℕ) (r : ℕ) (R : Reduced F k (flat stride k work) row₀ row r) (pos : 0 < r)
    (wf : WellFormed F stride k work) (eq : Equation F k row₀) where
  abbrev new : List ℕ
  new = placed stride (k + 1) (r - 1) (divided F (r - 1) (k + 1) row) work

  pub reduced_equation : Equation F k row
  reduced_equation = record { long = omega (arith, R.reducing.long, eq.long); symbols = R.reducing.symbols }

  pub pivot_within : r - 1 < k
  pivot_within = omega (arith, R.reducing.within)

  pub pivot_formed : WellFormed F stride k new
  pivot_formed =
      placed_formed F stride k (r - 1) work row wf reduced_equation pivot_within (R.pivot pos).0 (R.pivot pos).1
      (λ j h l. R.reducing.zeros j (omega arith) l)

  pub pivot_rank : rank k (flat stride k new) ≡ rank k (flat stride k work) + 1
  pivot_rank =
      placed_rank F stride k (r - 1) work row wf reduced_equation pivot_within (R.pivot pos).0 (R.pivot pos).1
      (λ j h l. R.reducing.zeros j (omega arith) l)

  pub pivot_joined : Joined F k (flat stride k work) (entry row₀) (flat stride k new)
  pivot_joined =
      let placed_both =
      (placed_joined F stride k (r - 1) work row wf reduced_equation pivot_within (R.pivot pos).0 (R.pivot pos).1
      (λ j h l. R.reducing.zeros j (omega arith) l)).both in
      record {
        both = λ v. (
          λ h. (placed_both v).0 (h.0, (R.reducing.same v h.0).0 h.1),
          λ s. let w = (placed_both v).1 s in (w.0, (R.reducing.same v w.0).1 w.1),
        );
      }

-- an equation with the same coefficients and the same right-hand side does the same
module _ (F : Field) (stride k : ℕ) (work work' : List ℕ) (r s : ℕ → ℕ) (e : (j : ℕ) → j ≤ k → r j ≡ s j) where
  holds_same : (v : ℕ → ℕ) → Holds F k s v → Holds F k r v
  holds_same v h = dot_cong F k r s v (λ j l. e j (omega arith)) ∙ h ∙ sym (e k (omega arith))

  holds_back : (v : ℕ → ℕ) → Holds F k r v → Holds F k s v
  holds_back v h = sym (dot_cong F k r s v (λ j l. e j (omega arith))) ∙ h ∙ e k (omega arith)

  joined_same : (S S' : System) → Joined F k S r S' → Joined F k S s S'
  joined_same S S' h =
      record { both = λ v. (λ b. (h.both v).0 (b.0, holds_same v b.1), λ b. let w = (h.both v).1 b in (w.0, holds_back v w.1)) }

  pub brought_same : (effect : Effect) → Brought F stride k work r work' effect → Brought F stride k work s work' effect
  brought_same Pivot h = (joined_same (flat stride k work) (flat stride k work') h.0, h.1)
  brought_same Redundant h = (joined_same (flat stride k work) (flat stride k work') h.0, h.1)
  brought_same Contradiction h = (record { never = λ v a b. h.0.never v a (holds_same v b) }, h.1)
