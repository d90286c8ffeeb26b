-- The invariant of a job: openings give it, and calls keep it. It ties what a job stores besides its task to the task; nothing else is said
-- of that, and nothing is to be believed of it here.
use Rattle.std.specs.Prelude.{Bool, true, false, List, ◌≡◌, ℕ, ◌≤◌, length, take}
use Rattle.field.specs.Outcomes.{Done}
use Rattle.field.proofs.Fields.{field_of}
use Rattle.poly.specs.Messages.{Vector}
use Rattle.poly.specs.Inner.Linear.{entry}
use Rattle.linear.specs.Inner.Systems.{flat, rank}
use Rattle.points.specs.Series.{columns_of}
use Rattle.code.specs.Terms.{size}
use Rattle.code.specs.Word.{word_of}
use Rattle.equations.specs.Inner.Collecting.{FitsBelow, Collected}
use Rattle.job.specs.declared.Job.{Job}
use Rattle.job.specs.Task.{stored_word}
use Rattle.job.specs.Opened.{open_checks}

-- no message fits the symbols below p
abbrev pub NoneBelow : ℕ → ℕ → ℕ → List ℕ → ℕ → Type 0
NoneBelow q series m word p = (v : List ℕ) → Vector (field_of q).size (size q m) v → FitsBelow q (columns_of q series) m word p (entry v) → ⊥

-- the candidate alone fits them, and whole is its word
pub record OnlyBelow (q series m : ℕ) (word : List ℕ) (p : ℕ) (candidate whole : List ℕ) : Type 0 where
  pub symbols : Vector (field_of q).size (size q m) candidate
  pub fits : FitsBelow q (columns_of q series) m word p (entry candidate)
  pub only : (v : List ℕ) → Vector (field_of q).size (size q m) v → FitsBelow q (columns_of q series) m word p (entry v) → v ≡ candidate
  pub coded : whole ≡ word_of q (columns_of q series) m candidate

-- what a job holds of the symbols below p: by the flags `complete` and `clash`
abbrev pub Standing : ℕ → ℕ → ℕ → List ℕ → List ℕ → List ℕ → List ℕ → ℕ → Bool → Bool → Type 0
Standing q series m word work candidate whole p complete true = NoneBelow q series m word p
Standing q series m word work candidate whole p true false = OnlyBelow q series m word p candidate whole
Standing q series m word work candidate whole p false false =
    Collected q (columns_of q series) m word work p (rank (size q m) (flat 64 (size q m) work))

pub record Sound (j : Job) : Type 0 where
  pub passes : open_checks j.q j.series j.m (stored_word j) ≡ Done
  pub within : j.next ≤ length (stored_word j)
  pub stands : Standing j.q j.series j.m (stored_word j) j.work (take (size j.q j.m) j.candidate)
      (take (length (stored_word j)) j.whole) j.next j.complete j.clash
