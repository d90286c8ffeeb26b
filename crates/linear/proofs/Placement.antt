-- What `place` leaves: a system with one row more, the new equation scaled to 1 at its last unknown.
-- Assumes nothing.
use mathlib.Core.Path.{◌≡◌, sym, ap, ◌∙◌}
use mathlib.Core.List.{List}
use mathlib.Core.Bool.{not}
use mathlib.Core.Logic.{◌⊎◌, inr}
use Prim.Native.Nat.{ℕ, ◌+◌, ◌*◌, ◌≤◌, ◌<◌}
use native.Mathlib.Numerals.{add-one}
use native.Mathlib.Decide.{ℕ_discrete}
use native.Mathlib.Omega.{arith}
use lib.Dec.{T, eqb}
use lib.ListN.{length}
use Rattle.field.specs.Field.{Field}
use Rattle.field.proofs.FieldLaws.{times_zero, inverse_times, inverse_ne_zero}
use Rattle.poly.specs.Inner.Linear.{entry}
use Rattle.poly.specs.Inner.Rows.{divided, placed}
use Rattle.linear.specs.Inner.Systems.{flat, rank, WellFormed, Equation, Joined}
use Rattle.poly.proofs.Linear.{scale_operation}
use Rattle.linear.proofs.RowOperations.{divided_at, length_placed, placed_here, placed_other, below_placed}
use Rattle.linear.proofs.Triangular.{Triangular}
use Rattle.linear.proofs.WellFormed.{row_fits, triangular}
use Rattle.linear.proofs.Insertion.{Insert, insert_satisfies, insert_rank, insert_triangular}

module _ (F : Field) (stride k i : ℕ) (work row : List ℕ) (wf : WellFormed F stride k work) (eq : Equation F k row)
    (ik : i < k) (nonzero : entry row i ≡ 0 → ⊥) (absent : T (not ((flat stride k work).present i)))
    (zeros : (j : ℕ) → i < j → j < k → entry row j ≡ 0) where
  abbrev c : ℕ
  c = F.inverse (entry row i)

  abbrev multiple : List ℕ
  multiple = divided F i (k + 1) row

  abbrev new : List ℕ
  new = placed stride (k + 1) i multiple work

  abbrev r : ℕ → ℕ
  r j = F.times c (entry row j)

  wide : k + 1 ≤ stride
  wide = omega (arith, wf.room)

  long : k + 1 ≤ length row
  long = omega (arith, eq.long)

  fits : i * stride + stride ≤ length work
  fits = row_fits F stride k work wf i ik

  here : (j : ℕ) → j ≤ k → entry new (i * stride + j) ≡ r j
  here j h = placed_here stride (k + 1) i multiple work wide fits j (omega arith) ∙ divided_at F i (k + 1) row long j (omega arith)

  other : (p j : ℕ) → j ≤ k → (p ≡ i → ⊥) → entry new (p * stride + j) ≡ entry work (p * stride + j)
  other p j h d = placed_other stride (k + 1) i multiple work wide fits p j d (omega (arith, wf.room))

  one : r i ≡ 1
  one = inverse_times F (entry row i) (eq.symbols i (omega arith)) nonzero

  inserted : Insert k (flat stride k work) (flat stride k new) i r (r k)
  inserted =
      record {
        within = ik;
        was_absent = absent;
        here = rw (here i (omega arith), one) tt;
        row_here = λ j l. here j (omega arith);
        rhs_here = here k (omega arith);
        present_other = λ o l d. ap (λ (x : ℕ). eqb x 1) (other o o (omega arith) d);
        row_other = λ o j l m d. other o j (omega arith) d;
        rhs_other = λ o l d. other o k (omega arith) d;
      }

  shape : Triangular F k (flat stride k new)
  shape =
      insert_triangular F k (flat stride k work) (flat stride k new) i r (r k) inserted (triangular F stride k work wf) one
      (λ j a b. ap (F.times c) (zeros j a b) ∙ times_zero F c) (F.times_lt c (entry row k))

  pub placed_formed : WellFormed F stride k new
  placed_formed =
      record {
        room = wf.room;
        area = length_placed stride (k + 1) i multiple work wide fits ∙ wf.area;
        symbols =
            below_placed stride (k + 1) i multiple work wide fits F.size wf.symbols
            (λ j h. rw (divided_at F i (k + 1) row long j h) (F.times_lt c (entry row j)));
        diagonal = λ p h. diagonal_at p h (ℕ_discrete p i);
        triangle = shape.after;
      }
    where
      diagonal_at : (p : ℕ) → p < k → Dec (p ≡ i) → (entry new (p * stride + p) ≡ 0) ⊎ (entry new (p * stride + p) ≡ 1)
      diagonal_at p h (yes e) = rw e (inr (here i (omega arith) ∙ one))
      diagonal_at p h (no d) = rw (other p p (omega arith) d) (wf.diagonal p h)

  pub placed_rank : rank k (flat stride k new) ≡ rank k (flat stride k work) + 1
  placed_rank = insert_rank F k (flat stride k work) (flat stride k new) i r (r k) inserted ∙ sym (add-one _)

  pub placed_joined : Joined F k (flat stride k work) (entry row) (flat stride k new)
  placed_joined =
      record {
        both = λ v.
            let insert = insert_satisfies F k (flat stride k work) (flat stride k new) i r (r k) inserted v in
            let factor : c ≡ 0 → ⊥ = inverse_ne_zero F (entry row i) (eq.symbols i (omega arith)) nonzero in
            let scale = scale_operation F k c (entry row) (entry row k) v (F.inverse_lt (entry row i)) factor (eq.symbols k (omega arith)) in (
              λ h. insert.0 (h.0, scale.1 h.1),
              λ h. ((insert.1 h).0, scale.0 (insert.1 h).1),
            );
      }
