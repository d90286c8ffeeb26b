-- THE CLAIM on a list of calls, the empty one too.
use Rattle.std.specs.Prelude.{true, false, List, [], ◌∷◌, ◌⊎◌, ◌↔◌, ◌≡◌, ℕ, ◌+◌, ◌-◌, ◌*◌, ◌^◌, ◌≤◌, ◌<◌, length, get_or, take}
use Rattle.field.specs.Outcomes.{Outcome, Done}
use Rattle.poly.specs.Messages.{Vector}
use Rattle.poly.specs.Sets.{Exactly}
use Rattle.points.specs.Series.{columns_of}
use Rattle.code.specs.Terms.{size}
use Rattle.code.specs.Word.{word_of}
use Rattle.code.specs.Recovered.{recovered}
use Rattle.job.specs.declared.Reply.{Reply}
use Rattle.job.specs.declared.Reply.TheVariants.{Refused, NoneFits, Leaves, Finished}
use Rattle.job.specs.Symbols.{arrived_in}
use Rattle.job.specs.Task.{Task}
use Rattle.job.specs.Opened.{opened}
use Rattle.job.specs.Replies.{still_working, outcome_of}
use Rattle.job.specs.Carried.{Result, onward, smaller, leaves, standing, carried}

pub record Call : Type 0 where
  pub budget : ℕ
  pub slice : List ℕ

-- "each call having been given the job that the opening or the call before it handed back"
unfoldable pub task_after : Task → List Call → Task
task_after t [] = t
task_after t (c ∷ rest) = task_after (carried t c.budget c.slice).task rest

-- "the numbers over all calls add up to"
unfoldable pub total : Task → List Call → ℕ
total t [] = 0
total t (c ∷ rest) = (carried t c.budget c.slice).brought + total (carried t c.budget c.slice).task rest

-- the reply says 'still working'
abbrev pub StillWorking : Reply → Type 0
StillWorking r = still_working r ≡ true

-- the reply is recovery's outcome: 5 where it met 5, and else what a finished job says
abbrev pub Tells : Reply → Outcome → Type 0
Tells r o = (still_working r ≡ false) × (outcome_of r ≡ o)

-- a call returns 0, the job t that it was given and the outcome o, with the message, where there is one
pub record Repeats (t : Task) (o : Outcome) (message : List ℕ) (u : Result) : Type 0 where
  pub none_brought : u.brought ≡ 0
  pub same_task : u.task ≡ t
  pub same_reply : u.reply ≡ Finished o
  pub same_message : o ≡ Done → u.slice ≡ message

module _ (q series m : ℕ) (word : List ℕ) where
  -- a message, k symbols, fits the n lowest arrived symbols: its word agrees at each arrived place that has fewer than n below it
  pub record FitsLowest (n : ℕ) (v : List ℕ) : Type 0 where
    pub symbols : Vector (q * q) (size q m) v
    pub agree : (p : ℕ) → p < length word → (get_or word p 0 ≡ 255 → ⊥) → arrived_in (take p word) < n
        → get_or (word_of q (columns_of q series) m v) p 0 ≡ get_or word p 0

  -- a call with a budget and a slice that was given the job t, which has d symbols brought in, and hands back u
  pub record Called (t : Task) (d budget : ℕ) (slice : List ℕ) (u : Result) : Type 0 where
    -- "of another length it meets 5, brings in 0 and hands the job back as it came"
    pub room : (length slice ≡ size q m → ⊥) → u ≡ record { task = t; brought = 0; reply = Refused; slice = slice }
    pub meets : u.reply ≡ Refused → length slice ≡ size q m → ⊥
    -- "Otherwise a call brings in arrived symbols by ascending place, exactly the smaller of the budget and what remains, and returns that
    -- number."
    pub brings : length slice ≡ size q m
        → (u.brought ≡ smaller budget (arrived_in word - d)) × (u.task ≡ onward t (smaller budget (arrived_in word - d)))
    -- "A call that didn't meet 5 says 'still working' exactly while some remain after it"
    pub works : length slice ≡ size q m → StillWorking u.reply ↔ (d + u.brought < arrived_in word)
    -- "and gives with it what the symbols brought in so far leave"
    pub left : StillWorking u.reply → u.reply ≡ leaves (standing u.task)
    -- "'none' if no message fits them, else the r, which may be 0, for which Q to the power r fit"
    pub says_none : StillWorking u.reply → (u.reply ≡ NoneFits) ↔ ((v : List ℕ) → FitsLowest (d + u.brought) v → ⊥)
    pub says_left : StillWorking u.reply → (r : ℕ) → (u.reply ≡ Leaves r) ↔ Exactly ((q * q) ^ r) (FitsLowest (d + u.brought))
    -- "The slice is written only with a message"
    pub kept : (u.slice ≡ slice) ⊎ (u.reply ≡ Finished Done)
    -- a finished job brings in nothing more, whatever the slice
    pub rests : d ≡ arrived_in word → (u.brought ≡ 0) × (u.task ≡ t)
    -- "A call on a finished job, lent a slice of length k, returns 0 and the same result": the job stays, so the next one does too
    pub again : (o : Outcome) → u.reply ≡ Finished o → (budget' : ℕ) (slice' : List ℕ) → length slice' ≡ size q m
        → Repeats u.task o u.slice (carried u.task budget' slice')
    -- a job is finished once a call said so
    pub finished : (o : Outcome) → u.reply ≡ Finished o → d + u.brought ≡ arrived_in word
    -- "Once the job of an accepted opening is finished, .. the last call's result is what recovery in one go, lent a slice of that call's
    -- length, gives, however the budgets were chosen": here lent the same slice, so that what it then holds is told too
    pub ends : d + u.brought ≡ arrived_in word
        → Tells u.reply (recovered q series m word slice).outcome × (u.slice ≡ (recovered q series m word slice).slice)

  abbrev pub start : Task
  start = (opened q series m word).task

  pub record Claim (calls : List Call) : Type 0 where
    -- the job is still that of q, the series, m and the word, and its count is "the numbers over all calls", never more than "the arrived symbols";
    -- so once it is finished they "add up to the arrived symbols"
    pub same : task_after start calls ≡ record { q = q; series = series; m = m; word = word; done = total start calls }
    pub within : total start calls ≤ arrived_in word
    -- and so is the call after them, whatever it is
    pub next : (budget : ℕ) (slice : List ℕ)
        → Called (task_after start calls) (total start calls) budget slice (carried (task_after start calls) budget slice)
