-- An answer as C gets it.
use Rattle.std.specs.Prelude.{List, ◌≡◌, ℕ}
use Rattle.field.specs.Outcomes.{packed}
use Rattle.code.specs.Answers.{Answer}

-- "From C a call returns .. the refusal number times 65536 plus the second number", and the slice is as the answer says
abbrev pub Packed : Answer → ℕ → List ℕ → Type 0
Packed answer returned slice = (returned ≡ packed answer.outcome) × (slice ≡ answer.slice)
