-- A system with one row more: its solutions, its rank and its shape.
-- Assumes nothing.
use mathlib.Core.Path.{◌≡◌, sym, ◌∙◌}
use mathlib.Core.Logic.{◌↔◌}
use mathlib.Core.Bool.{not}
use Prim.Native.Nat.{ℕ, suc, ◌<◌}
use native.Mathlib.Decide.{ℕ_discrete}
use native.Mathlib.Omega.{arith}
use lib.Dec.{T, T_not}
use Rattle.field.specs.Field.{Field}
use Rattle.poly.specs.Inner.Linear.{dot}
use Rattle.linear.specs.Inner.Systems.{System, Satisfies, rank}
use Rattle.poly.proofs.Below.{count_insert}
use Rattle.poly.proofs.Linear.{dot_cong}
use Rattle.linear.proofs.Triangular.{Triangular}

-- S' is S with the row r and its right-hand side b at p, where S has none, in k unknowns
pub record Insert (k : ℕ) (S S' : System) (p : ℕ) (r : ℕ → ℕ) (b : ℕ) : Type 0 where
  pub within : p < k
  pub was_absent : T (not (S.present p))
  pub here : T (S'.present p)
  pub row_here : (j : ℕ) → j < k → S'.row p j ≡ r j
  pub rhs_here : S'.rhs p ≡ b
  pub present_other : (o : ℕ) → o < k → (o ≡ p → ⊥) → S'.present o ≡ S.present o
  pub row_other : (o j : ℕ) → o < k → j < k → (o ≡ p → ⊥) → S'.row o j ≡ S.row o j
  pub rhs_other : (o : ℕ) → o < k → (o ≡ p → ⊥) → S'.rhs o ≡ S.rhs o

module _ (F : Field) (k : ℕ) (S S' : System) (p : ℕ) (r : ℕ → ℕ) (b : ℕ) (ins : Insert k S S' p r b) where
  absent : (o : ℕ) → T (S.present o) → o ≡ p → ⊥
  absent o t e = T_not (S.present p) ins.was_absent (rw e at t)

  -- the values of the rows: of the new one, and of another
  new_value : (v : ℕ → ℕ) → dot F k (S'.row p) v ≡ dot F k r v
  new_value v = dot_cong F k (S'.row p) r v ins.row_here

  old_value : (o : ℕ) → o < k → (o ≡ p → ⊥) → (v : ℕ → ℕ) → dot F k (S'.row o) v ≡ dot F k (S.row o) v
  old_value o l d v = dot_cong F k (S'.row o) (S.row o) v (λ j m. ins.row_other o j l m d)

  pub insert_satisfies : (v : ℕ → ℕ) → (Satisfies F k S v × (dot F k r v ≡ b)) ↔ Satisfies F k S' v
  insert_satisfies v = (
    λ h. record {
      holds = λ o l t. elim (ℕ_discrete o p) [
        | yes e ↦ rw e (new_value v ∙ h.1 ∙ sym ins.rhs_here)
        | no d ↦ old_value o l d v ∙ h.0.holds o l (rw (ins.present_other o l d) at t) ∙ sym (ins.rhs_other o l d)
      ];
    },
    λ h. (
      record {
        holds = λ o l t.
            let d = absent o t in
            sym (old_value o l d v) ∙ h.holds o l (rw (ins.present_other o l d) t) ∙ ins.rhs_other o l d;
      },
      sym (new_value v) ∙ h.holds p ins.within ins.here ∙ ins.rhs_here,
    ),
  )

  pub insert_rank : rank k S' ≡ suc (rank k S)
  unfolding rank
  insert_rank = count_insert k p S.present S'.present ins.within ins.was_absent ins.here ins.present_other

  pub insert_triangular : Triangular F k S → r p ≡ 1 → ((j : ℕ) → p < j → j < k → r j ≡ 0) → b < F.size → Triangular F k S'
  insert_triangular tri one zeros small =
      record {
        diagonal = λ o l t. elim (ℕ_discrete o p) [
          | yes e ↦ rw e (ins.row_here p ins.within ∙ one)
          | no d ↦ ins.row_other o o l l d ∙ tri.diagonal o l (rw (ins.present_other o l d) at t)
        ];
        after = λ o j l m t. elim (ℕ_discrete o p) [
          | yes e ↦ rw e (ins.row_here j m ∙ zeros j (omega arith) m)
          | no d ↦ ins.row_other o j (omega arith) m d ∙ tri.after o j l m (rw (ins.present_other o (omega arith) d) at t)
        ];
        rhs_lt = λ o l t. elim (ℕ_discrete o p) [
          | yes e ↦ rw (e, ins.rhs_here) small
          | no d ↦ rw (ins.rhs_other o l d) (tri.rhs_lt o l (rw (ins.present_other o l d) at t))
        ];
      }
