-- Entries: what is answered where the checks refuse, and where they come out Done.
-- Assumes nothing.
use mathlib.Core.Bool.{Bool, false, cond}
use mathlib.Core.List.{List}
use mathlib.Core.Logic.{⊎_elim}
use mathlib.Core.Path.{◌≡◌, refl, sym, ap, ◌∙◌}
use Prim.Native.Nat.{ℕ}
use lib.Dec.{eqb}
use Rattle.field.specs.Outcomes.{Outcome, Done, number}
use Rattle.field.proofs.Outcomes.{done_or_refused, not_done, done_or_not, row_refused}
use Rattle.code.specs.Checks.{order_checks, slice_checks}
use Rattle.code.specs.Answers.{Answer, answered, unless_refused}
use Rattle.code.proofs.Checks.{order_follows}

-- a refusal, as the arm that returns it is told of it
abbrev pub Refused : Outcome → Type 0
Refused o = (o ≡ Done → ⊥)

pub refused : (checked o : Outcome) (slice : List ℕ) (answer : Answer) → checked ≡ o → eqb (number o) 0 ≡ false
    → unless_refused checked slice answer ≡ answered o slice
refused checked o slice answer e n = ap (λ (x : Outcome). unless_refused x slice answer) e ∙ ap (λ (b : Bool). cond b answer (answered o slice)) n

pub not_refused : (checked : Outcome) (slice : List ℕ) (answer : Answer) → checked ≡ Done → unless_refused checked slice answer ≡ answer
not_refused checked slice answer e = ap (λ (x : Outcome). unless_refused x slice answer) e

-- a refusal by the checks 1, 17 and 2 is the call's
pub order_refused : (taken : Bool) (q series m : ℕ) (o : Outcome) → o ≡ order_checks taken q series m Done → Refused o → (rest : Outcome) → o ≡ order_checks taken q series m rest
order_refused taken q series m o e r rest = row_refused (order_checks taken q series m) (order_follows taken q series m) o e rest r

-- what the checks refuse is the entry's answer
pub entry_refused : (checked o : Outcome) (slice : List ℕ) (answer : Answer) → o ≡ checked → Refused o
    → unless_refused checked slice answer ≡ answered o slice
entry_refused checked o slice answer e r = refused checked o slice answer (sym e) (not_done o r)

-- a call that answers Done is past its checks
pub past : (checked : Outcome) (slice v : List ℕ) (answer : Answer) → unless_refused checked slice answer ≡ answered Done v
    → (checked ≡ Done) × (answer ≡ answered Done v)
past checked slice v answer e =
    ⊎_elim (λ d. (d, sym (not_refused checked slice answer d) ∙ e))
    (λ n. absurd (done_or_not checked (ap (λ (a : Answer). a.outcome) (sym (refused checked checked slice answer refl n) ∙ e)) n)) (done_or_refused checked)

-- over both rows of checks
module _ (taken : Bool) (q series m : ℕ) (gaps : Bool) (Q takes : ℕ) (input : List ℕ) (writes room : ℕ) where
  abbrev both : Outcome
  both = order_checks taken q series m (slice_checks gaps Q takes input writes room Done)

  pub past_checks : (slice v : List ℕ) (answer : Answer) → unless_refused both slice answer ≡ answered Done v
      → (both ≡ Done) × (answer ≡ answered Done v)
  past_checks slice v answer = past both slice v answer
