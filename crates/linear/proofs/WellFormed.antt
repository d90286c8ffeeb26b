-- Well-formed work: its rows are within it, its system is triangular, and what begins all, a list of zeros, is well formed,
-- has no row and is satisfied by everything.
-- Assumes nothing.
use mathlib.Core.Path.{◌≡◌}
use mathlib.Core.List.{List}
use mathlib.Core.Logic.{inl}
use Prim.Native.Nat.{ℕ, ◌+◌, ◌*◌, ◌≤◌, ◌<◌}
use native.Mathlib.Omega.{arith}
use lib.Dec.{T, eqb→eq, not_T}
use lib.ListN.{length}
use Rattle.field.specs.Field.{Field}
use Rattle.field.proofs.FieldLaws.{zero_lt}
use Rattle.poly.specs.Lists.{below}
use Rattle.poly.specs.Inner.Linear.{entry}
use Rattle.linear.specs.Inner.Systems.{flat, Satisfies, rank, WellFormed}
use Rattle.poly.proofs.Lists.{count_none}
use Rattle.poly.proofs.Parts.{row_before}
use Rattle.linear.proofs.Triangular.{Triangular}

module _ (F : Field) (stride k : ℕ) (work : List ℕ) where
  module _ (wf : WellFormed F stride k work) where
    pub row_fits : (p : ℕ) → p < k → p * stride + stride ≤ length work
    row_fits p h = omega (arith, row_before p stride stride (omega (arith, wf.room)), wf.area)

    pub triangular : Triangular F k (flat stride k work)
    triangular =
        record {
          diagonal = λ p l t. eqb→eq ((flat stride k work).row p p) 1 t;
          after = λ p j l m t. wf.triangle p j l m t;
          rhs_lt = λ p l t. wf.symbols _;
        }

  -- ---- zeros

  module _ (zeros : (i : ℕ) → entry work i ≡ 0) where
    no_row : (p : ℕ) → T ((flat stride k work).present p) → ⊥
    no_row p t = rw (zeros (p * stride + p)) at t

    pub blank_formed : k < stride → length work ≡ stride * stride → WellFormed F stride k work
    blank_formed h e =
        record {
          room = h;
          area = e;
          symbols = λ i. rw (zeros i) (zero_lt F);
          diagonal = λ p l. inl (zeros (p * stride + p));
          triangle = λ p j l m t. zeros (p * stride + j);
        }

    pub blank_rank : rank k (flat stride k work) ≡ 0
    unfolding rank
    blank_rank = count_none (flat stride k work).present (below k) (λ p m. not_T ((flat stride k work).present p) (no_row p))

    pub blank_satisfied : (v : ℕ → ℕ) → Satisfies F k (flat stride k work) v
    blank_satisfied v = record { holds = λ p l t. absurd (no_row p t) }
