-- What is said of the work slice, from what the entry of the code answers.
-- Assumes nothing.
use mathlib.Core.List.{List}
use mathlib.Core.Path.{◌≡◌}
use Prim.Native.Nat.{ℕ}
use Rattle.field.specs.Outcomes.{Outcome}
use Rattle.code.specs.Answers.{Answer, answered}
use Rattle.code.specs.RecoveredLong.{KeptUnlessWorked}

-- what is said of the outcome
pub to_kept : (answer : Answer) (o : Outcome) (slice before after : List ℕ) → answer ≡ answered o slice → KeptUnlessWorked o before after
    → KeptUnlessWorked answer.outcome before after
to_kept answer o slice before after is kept = rw is kept
