-- What a call returns to C, from what its entry answers.
-- Assumes nothing.
use mathlib.Core.List.{List}
use mathlib.Core.Path.{◌≡◌, refl}
use Prim.Native.Nat.{ℕ}
use Rattle.field.specs.Outcomes.{Outcome, packed}
use Rattle.code.specs.Answers.{Answer, answered}
use Rattle.code.specs.Packed.{Packed}

-- an answer that is known by its outcome, packed
pub to_packed : (answer : Answer) (o : Outcome) (slice : List ℕ) (returned : ℕ) → answer ≡ answered o slice → returned ≡ packed o
    → Packed answer returned slice
to_packed answer o slice returned is e = rw is (e, refl)
