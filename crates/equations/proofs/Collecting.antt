-- Symbols that are brought in one after the other: what each step leaves, and what is left at the end.
-- Assumes nothing.
use mathlib.Core.List.{List}
use mathlib.Core.Logic.{◌↔◌}
use mathlib.Core.Path.{◌≡◌, refl, sym, ap, ◌∙◌}
use Prim.Native.Nat.{ℕ, ◌+◌, ◌≤◌}
use native.Mathlib.Decide.{ℕ_discrete}
use native.Mathlib.Omega.{arith}
use borrow.Author.Tests.{eq-eqb, ne_eqb}
use lib.ListN.{length, get_or}
use Rattle.std.specs.Prelude.{None}
use Rattle.field.proofs.Fields.{field_of}
use Rattle.field.proofs.FieldLaws.{zero_lt}
use Rattle.poly.specs.Inner.Linear.{entry, dot, Holds}
use Rattle.poly.specs.Inner.Ranges.{Below}
use Rattle.poly.proofs.Messages.{vector_below}
use Rattle.poly.proofs.Linear.{dot_cong}
use Rattle.linear.specs.Inner.Systems.{flat, Satisfies, rank, WellFormed, Joined, Brought, Solves}
use Rattle.linear.specs.declared.system.Effect.TheVariants.{Pivot, Redundant, Contradiction}
use Rattle.linear.proofs.WellFormed.{blank_rank, blank_satisfied}
use Rattle.code.specs.Terms.{size}
use Rattle.code.specs.Inner.Rows.{row_of}
use Rattle.equations.specs.Inner.Collecting.{equation_of, FitsBelow, FitsAt, Collected, Taken, Advanced}

module _ (q : ℕ) (columns : List ℕ) (m : ℕ) where
  -- ---- one symbol

  module _ (p s : ℕ) (work work' : List ℕ) where
    coefficients : (v : ℕ → ℕ) → dot (field_of q) (size q m) (equation_of q columns m p s) v ≡ dot (field_of q) (size q m) (row_of q columns m p) v
    coefficients v =
        dot_cong (field_of q) (size q m) (equation_of q columns m p s) (row_of q columns m p) v (λ j l. rw (ne_eqb j (size q m) (λ e. omega arith)))

    side : equation_of q columns m p s (size q m) ≡ s
    side = rw (eq-eqb (size q m) (size q m) refl)

    to_holds : (v : ℕ → ℕ) → (s ≡ 255 → ⊥) → FitsAt q columns m p s v → Holds (field_of q) (size q m) (equation_of q columns m p s) v
    to_holds v n h = coefficients v ∙ h n ∙ sym side

    of_holds : (v : ℕ → ℕ) → Holds (field_of q) (size q m) (equation_of q columns m p s) v → FitsAt q columns m p s v
    of_holds v h n = sym (coefficients v) ∙ h ∙ side

    joined_fits : (s ≡ 255 → ⊥) → Joined (field_of q) (size q m) (flat 64 (size q m) work) (equation_of q columns m p s) (flat 64 (size q m) work')
        → (v : ℕ → ℕ) → (Satisfies (field_of q) (size q m) (flat 64 (size q m) work) v × FitsAt q columns m p s v)
        ↔ Satisfies (field_of q) (size q m) (flat 64 (size q m) work') v
    joined_fits n h v =
        (λ b. (h.both v).0 (b.0, to_holds v n b.1), λ b. let w = (h.both v).1 b in (w.0, of_holds v w.1))

    pub taken_pivot : (r : ℕ) → (s ≡ 255 → ⊥) → WellFormed (field_of q) 64 (size q m) work'
        → Brought (field_of q) 64 (size q m) work (equation_of q columns m p s) work' Pivot → Taken q columns m p s r work work' (r + 1)
    taken_pivot r n f h = record { formed = f; ranked = λ e. ap (λ (x : ℕ). x + 1) e ∙ sym h.1; both = joined_fits n h.0 }

    pub taken_redundant : (r : ℕ) → (s ≡ 255 → ⊥) → WellFormed (field_of q) 64 (size q m) work'
        → Brought (field_of q) 64 (size q m) work (equation_of q columns m p s) work' Redundant → Taken q columns m p s r work work' r
    taken_redundant r n f h =
        record { formed = f; ranked = λ e. e ∙ ap (λ (x : List ℕ). rank (size q m) (flat 64 (size q m) x)) (sym h.1); both = joined_fits n h.0 }

    pub clash : (r : ℕ) → (s ≡ 255 → ⊥) → Brought (field_of q) 64 (size q m) work (equation_of q columns m p s) work' Contradiction
        → Advanced q columns m p s r work work' None
    clash r n h v a b = h.0.never v a (to_holds v n b)

  pub taken_gap : (p s r : ℕ) (work : List ℕ) → s ≡ 255 → WellFormed (field_of q) 64 (size q m) work → Taken q columns m p s r work work r
  taken_gap p s r work e f = record { formed = f; ranked = λ h. h; both = λ v. (λ b. b.0, λ b. (b, λ n. absurd (n e))) }

  -- ---- all of them

  module _ (word : List ℕ) where
    fits_fewer : (a b : ℕ) (v : ℕ → ℕ) → a ≤ b → FitsBelow q columns m word b v → FitsBelow q columns m word a v
    fits_fewer a b v l h = record { at = λ p k. h.at p (omega arith) }

    fits_more : (n : ℕ) (v : ℕ → ℕ) → FitsBelow q columns m word n v → FitsAt q columns m n (get_or word n 0) v → FitsBelow q columns m word (n + 1) v
    fits_more n v h k =
        record { at = λ p l. elim (ℕ_discrete p n) [ yes e ↦ rw e k | no d ↦ h.at p (omega arith) ] }

    pub collected_none : (work : List ℕ) → WellFormed (field_of q) 64 (size q m) work → ((i : ℕ) → entry work i ≡ 0)
        → Collected q columns m word work 0 0
    collected_none work f zeros =
        record {
          formed = f;
          ranked = sym (blank_rank (field_of q) 64 (size q m) work zeros);
          same = λ v. (λ h. blank_satisfied (field_of q) 64 (size q m) work zeros v, λ h. record { at = λ p l. absurd (omega arith) });
        }

    pub collected_more : (work work' : List ℕ) (n r r' : ℕ) → Collected q columns m word work n r
        → Taken q columns m n (get_or word n 0) r work work' r'
        → Collected q columns m word work' (n + 1) r'
    collected_more work work' n r r' h t =
        record {
          formed = t.formed;
          ranked = t.ranked h.ranked;
          same = λ v. (
            λ f. (t.both v).0 ((h.same v).0 (fits_fewer n (n + 1) v (omega arith) f), f.at n (omega arith)),
            λ f. let w = (t.both v).1 f in fits_more n v ((h.same v).1 w.0) w.1,
          );
        }

-- ---- a complete system

pub solution_below : (q m : ℕ) (work message : List ℕ) → Solves (field_of q) (size q m) (flat 64 (size q m) work) message → length message ≡ size q m
    → Below (field_of q).size message
solution_below q m work message h long = vector_below (field_of q).size (size q m) message (zero_lt (field_of q))
    (record { len = long; small = h.symbols })
