-- What a job is of: q, the strap series, m, a broken word, and how many of its symbols have been brought in. Nothing else that a job stores counts.
use Rattle.std.specs.Prelude.{List, ℕ, ◌*◌, take}
use Rattle.job.specs.declared.Job.{Job}
use Rattle.job.specs.Symbols.{arrived_in}

pub record Task : Type 0 where
  pub q : ℕ
  pub series : ℕ
  pub m : ℕ
  pub word : List ℕ
  pub done : ℕ

-- the word is the first n places, and the symbols below the next place have been brought in
abbrev pub stored_word : Job → List ℕ
stored_word j = take (j.q * j.q * j.q) j.places

abbrev pub task_of : Job → Task
task_of j = record { q = j.q; series = j.series; m = j.m; word = stored_word j; done = arrived_in (take j.next (stored_word j)) }
