-- What a list of calls leaves, each lent the slice that the one before it left.
use Rattle.std.specs.Prelude.{List, ◌⊎◌, ◌≡◌, ℕ, ◌≤◌, length}
use Rattle.field.specs.Outcomes.{Done}
use Rattle.code.specs.Terms.{size}
use Rattle.code.specs.Answers.{answered}
use Rattle.code.specs.Recovered.{recovered}
use Rattle.job.specs.declared.Job.{Job}
use Rattle.job.specs.Symbols.{arrived_in}
use Rattle.job.specs.Task.{task_of}
use Rattle.job.specs.Sound.{Sound}

-- recovery gives the message v, whatever the slice of length k held
abbrev pub GivesMessage : ℕ → ℕ → ℕ → List ℕ → List ℕ → Type 0
GivesMessage q series m word v = (slice : List ℕ) → length slice ≡ size q m → recovered q series m word slice ≡ answered Done v

-- j is a job of q, the series, m and the word, and the slice is as it was before, unless recovery gives a message
pub record Carries (q series m : ℕ) (word before : List ℕ) (j : Job) (after : List ℕ) : Type 0 where
  pub sound : Sound j
  pub task : task_of j ≡ record { q = q; series = series; m = m; word = word; done = (task_of j).done }
  pub within : (task_of j).done ≤ arrived_in word
  pub long : length after ≡ length before
  pub kept : (after ≡ before) ⊎ ((length after ≡ size q m) × ((v : List ℕ) × GivesMessage q series m word v))
