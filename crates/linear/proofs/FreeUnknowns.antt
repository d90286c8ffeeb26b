-- In a triangular system the unknowns without a row are free: they may be given any symbols, and the others follow. So the equation "unknown p is 1",
-- where row p is absent, is no contradiction, and with it the system has a solution that isn't 0.
-- Assumes nothing.
use mathlib.Core.Bool.{Bool, true, false, not, cond}
use mathlib.Core.List.{List, []}
use mathlib.Core.Path.{◌≡◌, refl, sym, ap, ◌∙◌}
use Prim.Native.Nat.{ℕ, zero, suc, ◌+◌, ◌*◌, ◌≤◌, ◌<◌}
use native.Mathlib.Decide.{ℕ_discrete}
use native.Mathlib.Omega.{arith}
use lib.Dec.{T, eqb→eq, not_T}
use lib.ListN.{length, set, replicate, length-set, length-replicate}
use lib.Seq.{get_or-set_same, get_or-set_other}
use Rattle.field.specs.Field.{Field}
use Rattle.field.proofs.FieldLaws.{zero_lt, zero_times}
use Rattle.field.proofs.Sums.{sum_single}
use Rattle.poly.specs.Messages.{Vector, snoc}
use Rattle.poly.specs.Inner.Linear.{entry, dot, Holds}
use Rattle.linear.specs.Inner.Systems.{System, flat, Satisfies, Full, WellFormed, Equation, Joined, Brought, Solution}
use Rattle.linear.specs.Inner.Systems.{FirstFree, Fixed, NonzeroSolved}
use Rattle.linear.specs.declared.system.Effect.{Effect}
use Rattle.linear.specs.declared.system.Effect.TheVariants.{Pivot, Redundant, Contradiction}
use Rattle.poly.proofs.Entries.{get_or_zeros}
use Rattle.poly.proofs.Messages.{vector_snoc, get_or_snoc, get_or_snoc_last}
use Rattle.linear.proofs.Triangular.{Triangular, Follows, next, triangular_fewer, next_local, next_lt}
use Rattle.linear.proofs.Triangular.{follows_none, follows_suc, follows_local, satisfies_follows}
use Rattle.linear.proofs.WellFormed.{triangular}

module _ (F : Field) (S : System) (c : ℕ → ℕ) (small : (p : ℕ) → c p < F.size) where
  -- the unknowns without a row are those of c, the others what their row gives
  chosen : ℕ → List ℕ
  chosen zero = []
  chosen (suc k) = snoc (chosen k) (cond (S.present k) (next F S k (entry (chosen k))) (c k))

  chosen_vector : (k : ℕ) → Triangular F k S → Vector F.size k (chosen k)
  unfolding chosen
  chosen_vector zero tri = record { len = refl; small = λ i l. absurd (omega arith) }
  chosen_vector (suc k) tri =
      vector_snoc F.size k (chosen k) (cond (S.present k) (next F S k (entry (chosen k))) (c k))
      (chosen_vector k (triangular_fewer F S k (suc k) (omega arith) tri)) (go (S.present k) (λ t. t))
    where
      go : (b : Bool) → (T b → T (S.present k)) → cond b (next F S k (entry (chosen k))) (c k) < F.size
      go true t = next_lt F S (suc k) tri k (omega arith) (t tt) (entry (chosen k))
      go false t = small k

  module _ (k : ℕ) (tri : Triangular F (suc k) S) where
    before : (j : ℕ) → j < k → entry (chosen (suc k)) j ≡ entry (chosen k) j
    unfolding chosen
    before j l =
        get_or_snoc (chosen k) (cond (S.present k) (next F S k (entry (chosen k))) (c k)) j
        (omega (arith, (chosen_vector k (triangular_fewer F S k (suc k) (omega arith) tri)).len))

    last : entry (chosen (suc k)) k ≡ cond (S.present k) (next F S k (entry (chosen k))) (c k)
    unfolding chosen
    last =
        get_or_snoc_last (chosen k) (cond (S.present k) (next F S k (entry (chosen k))) (c k)) k
        (chosen_vector k (triangular_fewer F S k (suc k) (omega arith) tri)).len

  chosen_follows : (k : ℕ) → Triangular F k S → Follows F S k (entry (chosen k))
  chosen_follows zero tri = follows_none F S (entry (chosen zero))
  chosen_follows (suc k) tri =
      follows_suc F S k (entry (chosen (suc k)))
      (follows_local F S k (entry (chosen k)) (entry (chosen (suc k))) (λ j l. sym (before k tri j l))
      (chosen_follows k (triangular_fewer F S k (suc k) (omega arith) tri)))
      (λ t. last k tri ∙ given (S.present k) t ∙ next_local F S k (entry (chosen k)) (entry (chosen (suc k))) (λ j l. sym (before k tri j l)))
    where
      given : (b : Bool) → T b → cond b (next F S k (entry (chosen k))) (c k) ≡ next F S k (entry (chosen k))
      given true t = refl
      given false t = absurd t

  chosen_free : (k : ℕ) → Triangular F k S → (p : ℕ) → p < k → T (not (S.present p)) → entry (chosen k) p ≡ c p
  chosen_free zero tri p l t = absurd (omega arith)
  chosen_free (suc k) tri p l t =
      elim (ℕ_discrete p k) [
        | yes e ↦ rw e (last k tri ∙ free (S.present k) (rw e at t))
        | no d ↦ before k tri p (omega arith) ∙ chosen_free k (triangular_fewer F S k (suc k) (omega arith) tri) p (omega arith) t
      ]
    where
      free : (b : Bool) → T (not b) → cond b (next F S k (entry (chosen k))) (c k) ≡ c k
      free true t = absurd t
      free false t = refl

  -- THE FREE UNKNOWNS
  pub free_unknowns : (k : ℕ) → Triangular F k S
      → (v : List ℕ) × Vector F.size k v × Satisfies F k S (entry v) × ((p : ℕ) → p < k → T (not (S.present p)) → entry v p ≡ c p)
  free_unknowns k tri = (
    chosen k,
    chosen_vector k tri,
    (satisfies_follows F S k tri (entry (chosen k)) (chosen_vector k tri).small).1 (chosen_follows k tri),
    chosen_free k tri,
  )

-- ---- one unknown

-- row is the equation "unknown p is c"
pub record UnitRow (k p c : ℕ) (row : ℕ → ℕ) : Type 0 where
  pub one : row p ≡ 1
  pub zeros : (j : ℕ) → j < k → (j ≡ p → ⊥) → row j ≡ 0
  pub side : row k ≡ c

module _ (F : Field) (k p c : ℕ) (row : ℕ → ℕ) (unit : UnitRow k p c row) (l : p < k) where
  pub unit_dot : (v : ℕ → ℕ) → v p < F.size → dot F k row v ≡ v p
  unfolding dot
  unit_dot v b =
      sum_single k p (λ j. F.times (row j) (v j)) l (λ j jl d. ap (λ (x : ℕ). F.times x (v j)) (unit.zeros j jl d) ∙ zero_times F (v j))
      ∙ ap (λ (x : ℕ). F.times x (v p)) unit.one ∙ F.times_one (v p) b

  pub unit_holds : (v : ℕ → ℕ) → v p < F.size → Holds F k row v → v p ≡ c
  unit_holds v b h = sym (unit_dot v b) ∙ h ∙ unit.side

-- "unknown p is 1", where row p is absent, is a new row
module _ (F : Field) (stride k p : ℕ) (row : ℕ → ℕ) (unit : UnitRow k p 1 row) (l : p < k) (work work' : List ℕ) (wf : WellFormed F stride k work)
    (absent : T (not ((flat stride k work).present p))) where
  pub unit_no_contradiction : Brought F stride k work row work' Contradiction → ⊥
  unit_no_contradiction h =
      let (v, vec, sat, free) = free_unknowns F (flat stride k work) (λ x. 1) (λ x. F.two_le) k (triangular F stride k work wf) in
      h.0.never (entry v) sat (unit_dot F k p 1 row unit l (entry v) (vec.small p l) ∙ free p l absent ∙ sym unit.side)

  -- so what satisfies the system after it has 1 there
  joined_fixed : Joined F k (flat stride k work) row (flat stride k work') → Fixed F k (flat stride k work) p (flat stride k work')
  joined_fixed h = record { of = λ v b sat. let (s, r) = (h.both v).1 sat in (s, unit_holds F k p 1 row unit l v b r) }

  pub unit_fixed : (e : Effect) → Brought F stride k work row work' e → Fixed F k (flat stride k work) p (flat stride k work')
  unit_fixed Pivot h = joined_fixed h.0
  unit_fixed Redundant h = joined_fixed h.0
  unit_fixed Contradiction h = absurd (unit_no_contradiction h)

-- zeros, with 1 at p and at k
module _ (n k p : ℕ) (pk : p < k) (kn : k < n) where
  abbrev pub unit_list : List ℕ
  unit_list = set (set (replicate n 0) p 1) k 1

  inner_length : length {A = ℕ} (set (replicate n 0) p 1) ≡ n
  inner_length = length-set (replicate n 0) p 1 ∙ length-replicate n 0

  pub unit_length : length unit_list ≡ n
  unit_length = length-set (set (replicate n 0) p 1) k 1 ∙ inner_length

  unit_at : (j : ℕ) → j < k → entry unit_list j ≡ entry (set (replicate n 0) p 1) j
  unit_at j h = get_or-set_other (set (replicate n 0) p 1) k j 1 0 (omega arith)

  unit_one : entry unit_list p ≡ 1
  unit_one = unit_at p pk ∙ get_or-set_same (replicate n 0) p 1 0 (omega (arith, length-replicate {A = ℕ} n 0))

  unit_zero : (j : ℕ) → j < k → (j ≡ p → ⊥) → entry unit_list j ≡ 0
  unit_zero j h d = unit_at j h ∙ get_or-set_other (replicate n 0) p j 1 0 d ∙ get_or_zeros n j

  unit_side : entry unit_list k ≡ 1
  unit_side = get_or-set_same (set (replicate n 0) p 1) k 1 0 (omega (arith, inner_length))

  pub unit_list_unit : UnitRow k p 1 (entry unit_list)
  unit_list_unit = record { one = unit_one; zeros = unit_zero; side = unit_side }

  pub unit_list_equation : (F : Field) → Equation F k unit_list
  unit_list_equation F = record { long = omega (arith, unit_length); symbols = λ j h. go j h (ℕ_discrete j k) (ℕ_discrete j p) }
    where
      go : (j : ℕ) → j ≤ k → Dec (j ≡ k) → Dec (j ≡ p) → entry unit_list j < F.size
      go j h (yes e) d = rw (e, unit_side) F.two_le
      go j h (no d) (yes e) = rw (e, unit_one) F.two_le
      go j h (no d) (no e) = rw (unit_zero j (omega arith) e) (zero_lt F)

-- ---- the rows that are present

module _ (stride k : ℕ) (work : List ℕ) (p : ℕ) where
  pub is_present : entry work (p * stride + p) ≡ 1 → T ((flat stride k work).present p)
  is_present e = rw e tt

  pub is_absent : (entry work (p * stride + p) ≡ 1 → ⊥) → T (not ((flat stride k work).present p))
  is_absent d = not_T ((flat stride k work).present p) (λ t. d (eqb→eq (entry work (p * stride + p)) 1 t))

pub present_more : (S : System) (p : ℕ) → ((i : ℕ) → i < p → T (S.present i)) → T (S.present p) → (i : ℕ) → i < p + 1 → T (S.present i)
present_more S p early t i h = elim (ℕ_discrete i p) [
  | yes e ↦ rw e t
  | no d ↦ early i (omega arith)
]

pub first_free_full : (k : ℕ) (S : System) (r : ℕ) → FirstFree k S r → r ≡ k → Full k S
first_free_full k S r h e p l = h.rows p (omega arith)

-- a solution of the system in which unknown p is 1
pub fixed_solution : (F : Field) (k : ℕ) (S : System) (p : ℕ) (S' : System) (message : List ℕ)
    → p < k → Fixed F k S p S' → Solution F k S' message → NonzeroSolved F k S message true
fixed_solution F k S p S' message l fixed h =
    let (s, one) = fixed.of (entry message) (h.symbols p l) h.satisfies in
    (record { symbols = h.symbols; satisfies = s }, (p, l, one))
