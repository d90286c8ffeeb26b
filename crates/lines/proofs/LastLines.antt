-- The last line of a page: it says `bad` exactly for a record with a bad value, and else `ok`, `none` or `several`.
-- Assumes nothing.
use mathlib.Core.Bool.{true}
use mathlib.Core.Logic.{◌⊎◌, inl, inr}
use mathlib.Core.Path.{◌≡◌, refl, sym, ap, subst}
use mathlib.Core.List.{List}
use Prim.Native.Nat.{ℕ, ◌≤◌, ◌<◌}
use native.Mathlib.Decide.{dec_lt}
use native.Mathlib.Omega.{arith}
use lib.ListN.{length, replicate}
use Rattle.std.specs.Prelude.{Err}
use Rattle.field.specs.declared.outcome.Refusal.TheVariants.{BadValue}
use Rattle.field.specs.Outcomes.{Outcome, Done, number}
use Rattle.code.specs.Answers.{Answer}
use Rattle.code.specs.Checks.{bad_value, first_bad, slice_checks}
use Rattle.code.specs.Recovered.{Reading, nothing, message, several, answer_of, recover_checks}
use Rattle.code.proofs.Checks.{value_bad, value_good, slices_value, slices_passed, call_past}
use Rattle.code.proofs.Recoveries.{reading_of, recovered_refused, recovered_answer}
use Rattle.code.proofs.Weights.{size_from_genus}
use Rattle.lines.specs.Page.{outcome_of}

-- ok, none or several
abbrev pub Read : ℕ → Type 0
Read n = (n ≡ 0) ⊎ ((n ≡ 9) ⊎ (n ≡ 10))

answer_read : (r : Reading) (slice : List ℕ) → Read (number (answer_of r slice).outcome)
unfolding answer_of
answer_read nothing slice = inr (inl refl)
answer_read (message v) slice = inl refl
answer_read (several n) slice = inr (inr refl)

module _ (block : List ℕ) (long : length block ≡ 64) where
  -- the lowest index of a bad value, or 64
  abbrev bad : ℕ
  bad = first_bad (bad_value true 16) block

  checked : (o : Outcome) → o ≡ slice_checks true 16 64 block 32 32 Done → recover_checks 4 1 37 block (replicate 32 0) ≡ o
  checked o e =
      sym (call_past true true true 4 1 37 block 32 o 64 32 (refl, omega arith, refl) refl (sym (size_from_genus 4 (omega arith) 37 (omega arith))) e)

  pub bad_exactly : ((bad < 64) × (number (outcome_of block) ≡ 4)) ⊎ ((64 ≤ bad) × Read (number (outcome_of block)))
  bad_exactly =
      elim (dec_lt bad 64) [
        | yes h ↦
            let found = value_bad true 16 block bad refl (omega arith) in
            let refused = checked (Err (BadValue bad)) (sym (slices_value true 16 64 block 32 32 Done long (Err (BadValue bad)) found refl)) in
            inl (h, ap (λ (a : Answer). number a.outcome) (recovered_refused 4 1 37 block (replicate 32 0) (Err (BadValue bad)) refused refl))
        | no h ↦
            let none = value_good true 16 block bad refl (omega arith) in
            let passed = checked Done (sym (slices_passed true 16 64 block 32 32 Done long Done none refl refl)) in
            let says = sym (recovered_answer 4 1 37 block (replicate 32 0) passed) in
            inr (omega arith, subst (λ (a : Answer). Read (number a.outcome)) says (answer_read (reading_of 4 1 37 block) (replicate 32 0)))
      ]
