-- "Why a call is turned down": the two numbers of each outcome, and the order of the checks.
use Rattle.std.specs.Prelude.{Bool, true, false, ◌≡◌, ℕ, ◌+◌, ◌*◌, Result, Ok, Err}
use Rattle.field.specs.declared.outcome.Refusal.{Refusal}
use Rattle.field.specs.declared.outcome.Refusal.TheVariants.{BadCurve, BadOrder, BadLength, BadValue, BadRoom, BadPlace}
use Rattle.field.specs.declared.outcome.Refusal.TheVariants.{BadSymbol, NoMessage, Several, NoneNear, NoRadius, InverseOfZero, BadWork}
use Rattle.field.specs.declared.outcome.Refusal.TheVariants.{BadPlaces, NoInformationSet, BadSeries, BadColumns, LowOrder}

-- what a call answers besides what it writes: nothing, or why it was turned down
abbrev pub Outcome : Type 0
Outcome = Result Unit Refusal

-- "a call that isn't refused"
abbrev pub Done : Outcome
Done = Ok tt

-- the refusal number; "Refusal 8 no longer occurs" (T-01)
abbrev pub refusal_number : Refusal → ℕ
refusal_number BadCurve = 1
refusal_number BadOrder = 2
refusal_number BadLength = 3
refusal_number (BadValue index) = 4
refusal_number BadRoom = 5
refusal_number BadPlace = 6
refusal_number BadSymbol = 7
refusal_number NoMessage = 9
refusal_number (Several r) = 10
refusal_number NoneNear = 11
refusal_number NoRadius = 12
refusal_number InverseOfZero = 13
refusal_number BadWork = 14
refusal_number BadPlaces = 15
refusal_number NoInformationSet = 16
refusal_number BadSeries = 17
refusal_number BadColumns = 18
refusal_number LowOrder = 19

-- "a second number, 0 unless stated"
abbrev pub refusal_second : Refusal → ℕ
refusal_second BadCurve = 0
refusal_second BadOrder = 0
refusal_second BadLength = 0
refusal_second (BadValue index) = index
refusal_second BadRoom = 0
refusal_second BadPlace = 0
refusal_second BadSymbol = 0
refusal_second NoMessage = 0
refusal_second (Several r) = r
refusal_second NoneNear = 0
refusal_second NoRadius = 0
refusal_second InverseOfZero = 0
refusal_second BadWork = 0
refusal_second BadPlaces = 0
refusal_second NoInformationSet = 0
refusal_second BadSeries = 0
refusal_second BadColumns = 0
refusal_second LowOrder = 0

-- both of a call, 0 and 0 where it isn't refused
abbrev pub number : Outcome → ℕ
number (Ok done) = 0
number (Err refusal) = refusal_number refusal

abbrev pub second : Outcome → ℕ
second (Ok done) = 0
second (Err refusal) = refusal_second refusal

-- an answer with these two numbers
abbrev pub Says : Outcome → ℕ → ℕ → Type 0
Says o n s = (number o ≡ n) × (second o ≡ s)

-- "From C a call returns .. the refusal number times 65536 plus the second number."
abbrev pub packed : Outcome → ℕ
packed o = number o * 65536 + second o

-- "Checks run in this order and the first that applies decides": the refusal where its test applies, and else what follows
abbrev pub refuse : Bool → Refusal → Outcome → Outcome
refuse true refusal rest = Err refusal
refuse false refusal rest = rest
