-- A call that carries a job on, for every task, budget and slice.
use Rattle.std.specs.Prelude.{cond, List, ◌⊎◌, ◌≡◌, ℕ, ◌+◌, ◌-◌, ◌*◌, eqb, leb, ltb, length}
use Rattle.field.specs.Outcomes.{Done}
use Rattle.poly.specs.Messages.{Vector}
use Rattle.points.specs.Series.{columns_of}
use Rattle.code.specs.Terms.{size}
use Rattle.code.specs.Word.{word_of}
use Rattle.code.specs.Recovered.{Reading, nothing, message, several, reading, answer_of}
use Rattle.job.specs.declared.Reply.{Reply}
use Rattle.job.specs.declared.Reply.TheVariants.{Refused, NoneFits, Leaves, Finished}
use Rattle.job.specs.Symbols.{arrived_in, brought_in}
use Rattle.job.specs.Task.{Task}

-- what the symbols brought in so far leave
abbrev pub standing : Task → Reading
standing t = reading (t.q * t.q) (size t.q t.m) (word_of t.q (columns_of t.q t.series) t.m) (brought_in t.word t.done)

-- "'none' if no message fits them, else the r, which may be 0, for which Q to the power r fit"
unfoldable pub leaves : Reading → Reply
leaves nothing = NoneFits
leaves (message v) = Leaves 0
leaves (several r) = Leaves r

-- what a call hands back: the job's task, the number brought in, the reply, and the slice
pub record Result : Type 0 where
  pub task : Task
  pub brought : ℕ
  pub reply : Reply
  pub slice : List ℕ

abbrev pub smaller : ℕ → ℕ → ℕ
smaller a b = cond (leb a b) a b

-- "exactly the smaller of the budget and what remains"
abbrev pub share : Task → ℕ → ℕ
share t budget = smaller budget (arrived_in t.word - t.done)

abbrev pub onward : Task → ℕ → Task
onward t n = record { q = t.q; series = t.series; m = t.m; word = t.word; done = t.done + n }

-- "Each call is lent the message slice; of another length it meets 5, brings in 0 and hands the job back as it came."
abbrev pub refusal : Task → List ℕ → Result
refusal t slice = record { task = t; brought = 0; reply = Refused; slice = slice }

-- "A call that didn't meet 5 says 'still working' exactly while some remain after it, and gives with it what the symbols brought in so far
-- leave"; "The slice is written only with a message, and 9 and 10 stand beside the number brought in."
abbrev pub working : Task → ℕ → List ℕ → Result
working t n slice = record { task = t; brought = n; reply = leaves (standing t); slice = slice }

abbrev pub ending : Task → ℕ → List ℕ → Result
ending t n slice =
    record { task = t; brought = n; reply = Finished (answer_of (standing t) slice).outcome; slice = (answer_of (standing t) slice).slice }

-- the task after the call decides
unfoldable pub replied : Task → ℕ → List ℕ → Result
replied t n slice = cond (ltb t.done (arrived_in t.word)) (working t n slice) (ending t n slice)

unfoldable pub carried : Task → ℕ → List ℕ → Result
carried t budget slice =
    cond (eqb (length slice) (size t.q t.m)) (replied (onward t (share t budget)) (share t budget) slice) (refusal t slice)

-- "A job that comes from no opening is safe to call: the call returns, reads and writes in place, and writes the slice only with a message;
-- its other results are left open."
abbrev pub WrittenOnlyWithMessage : ℕ → ℕ → Reply → List ℕ → List ℕ → Type 0
WrittenOnlyWithMessage q m reply before after = (after ≡ before) ⊎ ((reply ≡ Finished Done) × Vector (q * q) (size q m) after)
