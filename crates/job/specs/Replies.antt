-- What a reply says, in the papers' numbers.
use Rattle.std.specs.Prelude.{Bool, true, false, Err}
use Rattle.field.specs.Outcomes.{Outcome}
use Rattle.field.specs.declared.outcome.Refusal.TheVariants.{BadRoom, NoMessage, Several}
use Rattle.job.specs.declared.Reply.{Reply}
use Rattle.job.specs.declared.Reply.TheVariants.{Refused, NoneFits, Leaves, Finished}

-- "A call .. says 'still working'"
abbrev pub still_working : Reply → Bool
still_working Refused = false
still_working NoneFits = true
still_working (Leaves r) = true
still_working (Finished o) = false

-- 5; while still working 9 for 'none', and 10 with "the r, which may be 0"; and what recovery says
abbrev pub outcome_of : Reply → Outcome
outcome_of Refused = Err BadRoom
outcome_of NoneFits = Err NoMessage
outcome_of (Leaves r) = Err (Several r)
outcome_of (Finished o) = o
