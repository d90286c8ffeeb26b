-- Triangular systems: a row that is present gives its own unknown from those before it, so that symbols satisfy the system
-- exactly where they follow from each other.
-- Assumes nothing.
use mathlib.Core.Path.{◌≡◌, sym, ap, ◌∙◌}
use mathlib.Core.Logic.{◌↔◌, ◌⊎◌, inl, inr}
use Prim.Native.Nat.{ℕ, zero, suc, ◌≤◌, ◌<◌}
use native.Mathlib.Nat.{eq-or-lt_of_le, le_of_suc-le-suc}
use native.Mathlib.Omega.{arith}
use lib.Dec.{T}
use Rattle.field.specs.Plus.{plus}
use Rattle.field.specs.Field.{Field}
use Rattle.field.proofs.Plus.{plus_comm, plus_cancel, plus_solve}
use Rattle.poly.specs.Inner.Linear.{dot}
use Rattle.linear.specs.Inner.Systems.{System, Satisfies, Full}
use Rattle.poly.proofs.Linear.{dot_suc, dot_lt, dot_local, dot_extend}

-- a row that is present has 1 at its own unknown, 0 at each later one, and a symbol on its right-hand side
pub record Triangular (F : Field) (k : ℕ) (S : System) : Type 0 where
  pub diagonal : (p : ℕ) → p < k → T (S.present p) → S.row p p ≡ 1
  pub after : (p j : ℕ) → p < j → j < k → T (S.present p) → S.row p j ≡ 0
  pub rhs_lt : (p : ℕ) → p < k → T (S.present p) → S.rhs p < F.size

-- what row p gives at p, from the coordinates before p
unfoldable pub next : Field → System → ℕ → (ℕ → ℕ) → ℕ
next F S p v = plus (S.rhs p) (dot F p (S.row p) v)

-- each of the first k coordinates that has a row is what that row gives
pub record Follows (F : Field) (S : System) (k : ℕ) (v : ℕ → ℕ) : Type 0 where
  pub value : (p : ℕ) → p < k → T (S.present p) → v p ≡ next F S p v

module _ (F : Field) (S : System) where
  pub triangular_fewer : (n k : ℕ) → n ≤ k → Triangular F k S → Triangular F n S
  triangular_fewer n k h tri =
      record {
        diagonal = λ p l. tri.diagonal p (omega arith);
        after = λ p j l m. tri.after p j l (omega arith);
        rhs_lt = λ p l. tri.rhs_lt p (omega arith);
      }

  -- ---- what follows

  pub next_local : (p : ℕ) (v w : ℕ → ℕ) → ((j : ℕ) → j < p → v j ≡ w j) → next F S p v ≡ next F S p w
  unfolding next
  next_local p v w h = ap (plus (S.rhs p)) (dot_local F p (S.row p) v w h)

  pub follows_none : (v : ℕ → ℕ) → Follows F S 0 v
  follows_none v = record { value = λ p l t. absurd (omega arith) }

  pub follows_suc : (n : ℕ) (v : ℕ → ℕ) → Follows F S n v → (T (S.present n) → v n ≡ next F S n v) → Follows F S (suc n) v
  follows_suc n v h e = record { value = λ p l t. go p t (eq-or-lt_of_le (le_of_suc-le-suc l)) }
    where
      go : (p : ℕ) → T (S.present p) → (p ≡ n) ⊎ (p < n) → v p ≡ next F S p v
      go p t (inl i) = rw i (e (rw i at t))
      go p t (inr l) = h.value p l t

  pub follows_fewer : (m n : ℕ) (v : ℕ → ℕ) → m ≤ n → Follows F S n v → Follows F S m v
  follows_fewer m n v l h = record { value = λ p a. h.value p (omega arith) }

  pub follows_local : (n : ℕ) (v w : ℕ → ℕ) → ((j : ℕ) → j < n → v j ≡ w j) → Follows F S n v → Follows F S n w
  follows_local n v w e h =
      record { value = λ p l t. sym (e p l) ∙ h.value p l t ∙ next_local p v w (λ j m. e j (omega arith)) }

  -- where every row is present, one vector follows
  pub follows_unique : (n : ℕ) (v w : ℕ → ℕ) → Full n S → Follows F S n v → Follows F S n w → (j : ℕ) → j < n → v j ≡ w j
  follows_unique zero v w full hv hw j l = absurd (omega arith)
  follows_unique (suc n) v w full hv hw j l =
      go
      (follows_unique n v w (λ p a. full p (omega arith)) (follows_fewer n (suc n) v (omega arith) hv) (follows_fewer n (suc n) w (omega arith) hw))
      (eq-or-lt_of_le (le_of_suc-le-suc l))
    where
      go : ((j : ℕ) → j < n → v j ≡ w j) → (j ≡ n) ⊎ (j < n) → v j ≡ w j
      go earlier (inl e) =
          let last : n < suc n = omega arith in
          rw e (hv.value n last (full n last) ∙ next_local n v w earlier ∙ sym (hw.value n last (full n last)))
      go earlier (inr a) = earlier j a

  -- ---- what satisfies

  module _ (k : ℕ) (tri : Triangular F k S) where
    pub next_lt : (p : ℕ) → p < k → T (S.present p) → (v : ℕ → ℕ) → next F S p v < F.size
    unfolding next
    next_lt p l t v = F.plus_lt (S.rhs p) (dot F p (S.row p) v) (tri.rhs_lt p l t) (dot_lt F p (S.row p) v)

    -- v meets row p where it has at p what the row gives
    pub row_value : (p : ℕ) → p < k → T (S.present p) → (v : ℕ → ℕ) → v p < F.size
        → (dot F k (S.row p) v ≡ S.rhs p) ↔ (v p ≡ next F S p v)
    unfolding next
    row_value p l t v small = (
      λ e. plus_solve before (v p) (S.rhs p) (sym total ∙ e) ∙ plus_comm before (S.rhs p),
      λ e. total ∙ ap (plus before) (e ∙ plus_comm (S.rhs p) before) ∙ plus_cancel before (S.rhs p),
    )
      where
        before : ℕ
        before = dot F p (S.row p) v

        total : dot F k (S.row p) v ≡ plus before (v p)
        total =
            dot_extend F (suc p) k (S.row p) v l (λ j a b. tri.after p j a b t) ∙ dot_suc F p (S.row p) v
            ∙ ap (plus before) (ap (λ (x : ℕ). F.times x (v p)) (tri.diagonal p l t) ∙ F.times_one (v p) small)

    pub satisfies_follows : (v : ℕ → ℕ) → ((j : ℕ) → j < k → v j < F.size) → Satisfies F k S v ↔ Follows F S k v
    satisfies_follows v small = (
      λ h. record { value = λ p l t. (row_value p l t v (small p l)).0 (h.holds p l t) },
      λ h. record { holds = λ p l t. (row_value p l t v (small p l)).1 (h.value p l t) },
    )
