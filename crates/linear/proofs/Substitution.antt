-- The turns of `solve`: forward substitution writes what the rows give, a solution, and where every row is present the only one.
-- Assumes nothing.
use mathlib.Core.Path.{◌≡◌, refl, sym, ap, ◌∙◌}
use mathlib.Core.List.{List}
use mathlib.Core.Logic.{◌⊎◌, inl, inr}
use Prim.Native.Nat.{ℕ, ◌+◌, ◌*◌, ◌≤◌, ◌<◌}
use native.Mathlib.Nat.{eq-or-lt_of_le, le_of_suc-le-suc}
use native.Mathlib.Numerals.{add-one}
use native.Mathlib.Omega.{arith}
use lib.ListN.{length, set, length-set}
use lib.Seq.{get_or-set_same, get_or-set_other}
use Rattle.field.specs.Plus.{plus}
use Rattle.field.specs.Field.{Field}
use Rattle.poly.specs.Inner.Ranges.{part}
use Rattle.poly.specs.Inner.Linear.{entry, dot}
use Rattle.linear.specs.Inner.Systems.{System, flat, Full, WellFormed, Solution, Solves}
use Rattle.poly.proofs.Parts.{part_at}
use Rattle.poly.proofs.Linear.{dot_lt, dot_cong}
use Rattle.linear.proofs.Triangular.{Follows, next, follows_none, follows_suc, follows_local, next_local, satisfies_follows}
use Rattle.linear.proofs.WellFormed.{triangular}
use Rattle.linear.proofs.Solutions.{satisfies_unique}

-- the first p elements of message are symbols that follow from each other
pub record Solving (F : Field) (k : ℕ) (S : System) (message₀ message : List ℕ) (p : ℕ) : Type 0 where
  pub long : length message ≡ length message₀
  pub within : p ≤ k
  pub symbols : (j : ℕ) → j < p → entry message j < F.size
  pub follows : Follows F S p (entry message)

module _ (F : Field) (stride k : ℕ) (work : List ℕ) (wf : WellFormed F stride k work) where
  abbrev S : System
  S = flat stride k work

  pub solving_start : (message₀ : List ℕ) → Solving F k S message₀ message₀ 0
  solving_start message₀ =
      record { long = refl; within = omega arith; symbols = λ j h. absurd (omega arith); follows = follows_none F S (entry message₀) }

  module _ (message₀ message : List ℕ) (p x : ℕ) (km : k ≤ length message₀) (D : Solving F k S message₀ message p) (pk : p < k)
      (is : x ≡ plus (entry work (p * stride + k)) (dot F p (entry (part work (p * stride) (p * stride + stride))) (entry message))) where
    abbrev written : List ℕ
    written = set message p x

    early : (j : ℕ) → j < p → entry message j ≡ entry written j
    early j h = sym (get_or-set_other message p j x 0 (omega arith))

    last : entry written p ≡ x
    last = get_or-set_same message p x 0 (omega (arith, D.long))

    small : x < F.size
    small = rw is (F.plus_lt _ _ (wf.symbols _) (dot_lt F p _ _))

    gives : x ≡ next F S p (entry message)
    unfolding next
    gives =
        is
        ∙ ap (plus (S.rhs p)) (dot_cong F p _ _ (entry message) (λ j l. part_at work (p * stride) (p * stride + stride) j (omega (arith, wf.room))))

    pub solving_turn : Solving F k S message₀ (set message p x) (p + 1)
    solving_turn =
        record {
          long = length-set message p x ∙ D.long;
          within = omega arith;
          symbols = λ j h. symbol j (eq-or-lt_of_le (le_of_suc-le-suc (rw add-one at h)));
          follows =
              rw add-one
              (follows_suc F S p (entry written) (follows_local F S p (entry message) (entry written) early D.follows)
              (λ t. last ∙ gives ∙ next_local F S p (entry message) (entry written) early));
        }
      where
        symbol : (j : ℕ) → (j ≡ p) ⊎ (j < p) → entry written j < F.size
        symbol j (inl e) = rw (e, last) small
        symbol j (inr l) = rw (← early j l) (D.symbols j l)

  pub solved : (message₀ message : List ℕ) → Solving F k S message₀ message k → Solution F k S message
  solved message₀ message D =
      record {
        symbols = D.symbols;
        satisfies = (satisfies_follows F S k (triangular F stride k work wf) (entry message) D.symbols).1 D.follows;
      }

  -- where every row is present it is the only solution
  pub solves_full : Full k S → (message : List ℕ) → Solution F k S message → Solves F k S message
  solves_full every message h =
      record {
        symbols = h.symbols;
        solution = h.satisfies;
        only = λ v small s. satisfies_unique F S k (triangular F stride k work wf) every v (entry message) small h.symbols s h.satisfies;
      }
