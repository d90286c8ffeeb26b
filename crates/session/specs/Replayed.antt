-- A list of arrivals run through a session, from opening to asking.
use Rattle.std.specs.Prelude.{List, [], ◌∷◌, ℕ}
use Rattle.code.specs.Answers.{Answer, unless_refused}
use Rattle.session.specs.Opened.{opened}
use Rattle.session.specs.Asked.{asked}
use Rattle.session.specs.Claim.{Event, Arrival, session_after}

-- the arrivals of which these are the places, the symbols and the rounds; what one list has more than another is ignored
unfoldable pub arrivals : List ℕ → List ℕ → List ℕ → List Event
arrivals (p ∷ places) (s ∷ symbols) (r ∷ rounds) = Arrival p s r ∷ arrivals places symbols rounds
arrivals [] symbols rounds = []
arrivals (p ∷ places) [] rounds = []
arrivals (p ∷ places) (s ∷ symbols) [] = []

-- what asking answers after them; a refused opening ends it
unfoldable pub replayed : ℕ → ℕ → ℕ → List ℕ → List ℕ → List ℕ → List ℕ → Answer
replayed q series m places symbols rounds slice =
    unless_refused (opened q series m).outcome slice (asked (session_after q series m (arrivals places symbols rounds)) slice)
