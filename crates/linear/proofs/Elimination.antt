-- Elimination: the solutions of linear equations are those of a triangular system, or there are none. So their number is 0 or a
-- power of the field's size.
-- Assumes nothing.
use mathlib.Core.Path.{◌≡◌, refl, sym, ap, ◌∙◌}
use mathlib.Core.Bool.{Bool, false, not, cond, ◌||◌}
use mathlib.Core.List.{List}
use mathlib.Core.Logic.{◌↔◌, ◌⊎◌, inl, inr}
use Prim.Native.Nat.{ℕ, zero, suc, ◌-◌, ◌^◌, ◌≤◌, ◌<◌}
use native.Mathlib.Nat.{le_refl, eq-or-lt_of_le, le_of_suc-le-suc}
use native.Mathlib.Decide.{ℕ_discrete}
use native.Mathlib.Omega.{arith}
use borrow.Author.Tests.{eq-eqb, ne_eqb}
use lib.Dec.{T, eqb, not_T}
use Rattle.field.specs.Plus.{plus}
use Rattle.field.specs.Field.{Field}
use Rattle.field.proofs.Plus.{plus_self}
use Rattle.field.proofs.FieldLaws.{times_zero, times_one_right, inverse_times, inverse_ne_zero}
use Rattle.poly.specs.Lists.{count}
use Rattle.poly.specs.Messages.{Vector, all}
use Rattle.poly.specs.Inner.Linear.{entry, dot}
use Rattle.linear.specs.Inner.Systems.{System, Satisfies, rank}
use Rattle.poly.proofs.Bools.{T-dec}
use Rattle.poly.proofs.Lists.{count_none}
use Rattle.poly.proofs.Messages.{of_mem_all}
use Rattle.poly.proofs.Linear.{dot_zero, row_operation, scale_operation}
use Rattle.linear.proofs.Triangular.{Triangular}
use Rattle.linear.proofs.Insertion.{Insert, insert_satisfies, insert_triangular}
use Rattle.linear.proofs.Solutions.{solutions_by}

-- the vectors with the property P are those that satisfy a triangular system, or there are none
abbrev pub Triangulated : Field → ℕ → ((ℕ → ℕ) → Type 0) → Type 0
Triangulated F k P = ((S : System) × Triangular F k S × ((v : ℕ → ℕ) → P v ↔ Satisfies F k S v)) ⊎ ((v : ℕ → ℕ) → P v → ⊥)

-- the system with no row, and a system with the row r and its right-hand side b at p
abbrev no_row : System
no_row = record { present = λ p. false; row = λ p j. 0; rhs = λ p. 0 }

abbrev with_row : System → ℕ → (ℕ → ℕ) → ℕ → System
with_row S p r b =
    record {
      present = λ o. eqb o p || S.present o;
      row = λ o. cond (eqb o p) r (S.row o);
      rhs = λ o. cond (eqb o p) b (S.rhs o);
    }

with_row_lem : (k : ℕ) (S : System) (p : ℕ) (r : ℕ → ℕ) (b : ℕ) → p < k → T (not (S.present p)) → Insert k S (with_row S p r b) p r b
with_row_lem k S p r b l t =
    record {
      within = l;
      was_absent = t;
      here = rw (eq-eqb p p refl) tt;
      row_here = λ j m. rw (eq-eqb p p refl);
      rhs_here = rw (eq-eqb p p refl);
      present_other = λ o m d. rw (ne_eqb o p d);
      row_other = λ o j m n d. rw (ne_eqb o p d);
      rhs_other = λ o m d. rw (ne_eqb o p d);
    }

module _ (F : Field) (k : ℕ) where
  triangulated_iff : (P R : (ℕ → ℕ) → Type 0) → ((v : ℕ → ℕ) → P v ↔ R v) → Triangulated F k P → Triangulated F k R
  triangulated_iff P R same (inl (S, tri, h)) = inl (S, tri, λ v. (λ x. (h v).0 ((same v).1 x), λ s. (same v).0 ((h v).1 s)))
  triangulated_iff P R same (inr never) = inr (λ v x. never v ((same v).1 x))

  -- ---- one equation more

  abbrev Symbols : (ℕ → ℕ) → Type 0
  Symbols r = (j : ℕ) → j < k → r j < F.size

  -- no coefficient is left from n on
  abbrev ZeroFrom : ℕ → (ℕ → ℕ) → Type 0
  ZeroFrom n r = (j : ℕ) → n ≤ j → j < k → r j ≡ 0

  zero_from : (p : ℕ) (r : ℕ → ℕ) → r p ≡ 0 → ZeroFrom (suc p) r → ZeroFrom p r
  zero_from p r here after j a m = elim (eq-or-lt_of_le a) [ inl e ↦ rw (← e) here | inr h ↦ after j h m ]

  module _ (S : System) (tri : Triangular F k S) where
    abbrev Joint : (ℕ → ℕ) → ℕ → Type 0
    Joint r b = Triangulated F k (λ v. Satisfies F k S v × (dot F k r v ≡ b))

    -- another equation will do that says the same where S is satisfied
    exchange : (r s : ℕ → ℕ) (b c : ℕ) → ((v : ℕ → ℕ) → Satisfies F k S v → (dot F k s v ≡ c) ↔ (dot F k r v ≡ b)) → Joint s c → Joint r b
    exchange r s b c same =
        triangulated_iff (λ v. Satisfies F k S v × (dot F k s v ≡ c)) (λ v. Satisfies F k S v × (dot F k r v ≡ b))
        (λ v. (λ h. (h.0, (same v h.0).0 h.1), λ h. (h.0, (same v h.0).1 h.1)))

    -- no coefficient is left: the equation is redundant, or a contradiction
    closed : (r : ℕ → ℕ) (b : ℕ) → ZeroFrom 0 r → Joint r b
    closed r b zeros = elim (ℕ_discrete 0 b) [
      | yes e ↦ inl (S, tri, λ v. (λ h. h.0, λ h. (h, vanishes v ∙ e)))
      | no d ↦ inr (λ v h. d (sym (vanishes v) ∙ h.1))
    ]
      where
        vanishes : (v : ℕ → ℕ) → dot F k r v ≡ 0
        vanishes v = dot_zero F k r v (λ j. zeros j (omega arith))

    -- the last coefficient is at p, where S has no row: divided by it, the equation is one
    pivot : (p : ℕ) → p < k → T (not (S.present p)) → (r : ℕ → ℕ) (b : ℕ) → Symbols r → b < F.size → (r p ≡ 0 → ⊥) → ZeroFrom (suc p) r → Joint r b
    pivot p l absent r b rl bl d zeros =
        exchange r s b (F.times c b) (λ v h. scale_operation F k c r b v (F.inverse_lt (r p)) (inverse_ne_zero F (r p) (rl p l) d) bl)
        (inl (
          S',
          insert_triangular F k S S' p s (F.times c b) inserted tri (inverse_times F (r p) (rl p l) d)
              (λ j a m. ap (F.times c) (zeros j a m) ∙ times_zero F c) (F.times_lt c b),
          insert_satisfies F k S S' p s (F.times c b) inserted,
        ))
      where
        c : ℕ
        c = F.inverse (r p)

        s : ℕ → ℕ
        s j = F.times c (r j)

        S' : System
        S' = with_row S p s (F.times c b)

        inserted : Insert k S S' p s (F.times c b)
        inserted = with_row_lem k S p s (F.times c b) l absent

    -- the last coefficient is at p, where S has a row: that row, times the coefficient, clears it
    clear : (p : ℕ) → p < k → T (S.present p) → (r : ℕ → ℕ) (b : ℕ) → Symbols r → b < F.size → ZeroFrom (suc p) r
        → ((s : ℕ → ℕ) (c : ℕ) → Symbols s → c < F.size → ZeroFrom p s → Joint s c) → Joint r b
    clear p l t r b rl bl zeros rest =
        exchange r s b c (λ v h. row_operation F k (r p) r (S.row p) b (S.rhs p) v (h.holds p l t))
        (rest s c (λ j m. F.plus_lt (r j) _ (rl j m) (F.times_lt (r p) _)) (F.plus_lt b _ bl (F.times_lt (r p) _))
        (zero_from p s (rw (tri.diagonal p l t, times_one_right F (r p) (rl p l)) (plus_self (r p)))
        (λ j a m. rw (zeros j a m, tri.after p j a m t, times_zero F (r p)) (plus_self 0))))
      where
        s : ℕ → ℕ
        s j = plus (r j) (F.times (r p) (S.row p j))

        c : ℕ
        c = plus b (F.times (r p) (S.rhs p))

    -- down from n
    reduce : (n : ℕ) → n ≤ k → (r : ℕ → ℕ) (b : ℕ) → Symbols r → b < F.size → ZeroFrom n r → Joint r b
    reduce zero l r b rl bl zeros = closed r b zeros
    reduce (suc p) l r b rl bl zeros = elim (T-dec (S.present p)) [
      | yes t ↦ clear p l t r b rl bl zeros (reduce p (omega arith))
      | no t ↦ elim (ℕ_discrete (r p) 0) [
        | yes e ↦ reduce p (omega arith) r b rl bl (zero_from p r e zeros)
        | no d ↦ pivot p l (not_T (S.present p) t) r b rl bl d zeros
      ]
    ]

    -- the solutions of S that meet one equation more
    pub extend : (r : ℕ → ℕ) (b : ℕ) → ((j : ℕ) → j < k → r j < F.size) → b < F.size
        → Triangulated F k (λ v. Satisfies F k S v × (dot F k r v ≡ b))
    extend r b rl bl = reduce k (le_refl k) r b rl bl (λ j a m. absurd (omega arith))

  -- ---- any number of equations

  module _ (row : ℕ → ℕ → ℕ) (rhs : ℕ → ℕ) (counts : ℕ → Bool) where
    -- v meets those of the first n equations that count
    abbrev pub Meets : ℕ → (ℕ → ℕ) → Type 0
    Meets n v = (i : ℕ) → i < n → T (counts i) → dot F k (row i) v ≡ rhs i

    meets_suc : (n : ℕ) (v : ℕ → ℕ) → Meets n v → (T (counts n) → dot F k (row n) v ≡ rhs n) → Meets (suc n) v
    meets_suc n v h last i l t = elim (eq-or-lt_of_le (le_of_suc-le-suc l)) [ inl e ↦ rw e (last (rw e at t)) | inr m ↦ h i m t ]

    -- the solutions of the first n
    pub eliminate : (n : ℕ) → ((i : ℕ) → i < n → (j : ℕ) → j < k → row i j < F.size)
        → ((i : ℕ) → i < n → T (counts i) → rhs i < F.size) → Triangulated F k (Meets n)
    eliminate zero rl bl =
        inl (
          no_row,
          record { diagonal = λ p l t. absurd t; after = λ p j l m t. absurd t; rhs_lt = λ p l t. absurd t },
          λ v. (λ h. record { holds = λ p l t. absurd t }, λ h i l. absurd (omega arith)),
        )
    eliminate (suc n) rl bl = go (eliminate n (λ i l. rl i (omega arith)) (λ i l. bl i (omega arith))) (T-dec (counts n))
      where
        go : Triangulated F k (Meets n) → Dec (T (counts n)) → Triangulated F k (Meets (suc n))
        go (inr never) d = inr (λ v h. never v (λ i l. h i (omega arith)))
        go (inl (S, tri, same)) (yes t) =
            triangulated_iff (λ v. Satisfies F k S v × (dot F k (row n) v ≡ rhs n)) (Meets (suc n))
            (λ v. (λ h. meets_suc n v ((same v).1 h.0) (λ t. h.1), λ h. ((same v).0 (λ i l. h i (omega arith)), h n (omega arith) t)))
            (extend S tri (row n) (rhs n) (rl n (omega arith)) (bl n (omega arith) t))
        go (inl (S, tri, same)) (no d) =
            inl (S, tri, λ v. (λ h. (same v).0 (λ i l. h i (omega arith)), λ s. meets_suc n v ((same v).1 s) (λ t. absurd (d t))))

-- ---- the number of solutions

-- 0, or a power of Q
abbrev pub PowerOrNone : ℕ → ℕ → Type 0
PowerOrNone Q n = (n ≡ 0) ⊎ ((r : ℕ) × (n ≡ Q ^ r))

-- by any test for them
pub power_or_none : (F : Field) (k : ℕ) (P : (ℕ → ℕ) → Type 0) → Triangulated F k P
    → (test : List ℕ → Bool) → ((v : List ℕ) → Vector F.size k v → T (test v) ↔ P (entry v))
    → PowerOrNone F.size (count test (all F.size k))
power_or_none F k P (inl (S, tri, same)) test h =
    inr (k - rank k S, solutions_by F S k tri test (λ v u. (λ t. (same (entry v)).0 ((h v u).0 t), λ s. (h v u).1 ((same (entry v)).1 s))))
power_or_none F k P (inr never) test h =
    inl (count_none test (all F.size k) (λ v m. not_T (test v) (λ t. never (entry v) ((h v (of_mem_all F.size k v m)).0 t))))
