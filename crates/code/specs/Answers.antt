-- What a call answers, and what the slice lent to it then holds.
use Rattle.std.specs.Prelude.{cond, List, ℕ, eqb}
use Rattle.field.specs.Outcomes.{Outcome, number}

pub record Answer : Type 0 where
  pub outcome : Outcome
  pub slice : List ℕ

abbrev pub answered : Outcome → List ℕ → Answer
answered o slice = record { outcome = o; slice = slice }

-- what the checks refuse leaves the slice: "lent memory is then unchanged"
abbrev pub unless_refused : Outcome → List ℕ → Answer → Answer
unless_refused checked slice answer = cond (eqb (number checked) 0) answer (answered checked slice)
