-- Opening, for every argument.
use Rattle.std.specs.Prelude.{true, cond, List, ℕ, eqb, replicate}
use Rattle.field.specs.Curve.{is_short}
use Rattle.field.specs.Outcomes.{Outcome, Done, number}
use Rattle.code.specs.Terms.{size}
use Rattle.code.specs.Checks.{call_checks}
use Rattle.job.specs.Task.{Task}

-- a task of which nothing has been brought in
abbrev pub fresh : ℕ → ℕ → ℕ → List ℕ → Task
fresh q series m word = record { q = q; series = series; m = m; word = word; done = 0 }

-- "A job is opened from what recovery or asking takes, without the slice, and meets refusals 1 to 4 as they do", and 17 "in .. a job's opening" (T-11): as recovery does with a
-- slice of the right length
abbrev pub open_checks : ℕ → ℕ → ℕ → List ℕ → Outcome
open_checks q series m word = call_checks (is_short q) true true q series m word (size q m) Done

-- the task of the job that is handed back, and the outcome
pub record Opened : Type 0 where
  pub task : Task
  pub outcome : Outcome

-- "a refused opening hands back the job of an all-missing word at q = 2, m = 0"; "A refused opening names series 1" (T-11)
unfoldable pub opened : ℕ → ℕ → ℕ → List ℕ → Opened
opened q series m word =
    let outcome = open_checks q series m word in
    record { task = cond (eqb (number outcome) 0) (fresh q series m word) (fresh 2 1 0 (replicate 8 255)); outcome = outcome }
