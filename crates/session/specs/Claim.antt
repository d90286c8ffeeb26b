-- DEMAND 3: "a single claim about a whole list of arrivals and askings, the empty list too".
use Rattle.std.specs.Prelude.{◌≡◌, List, [], ◌∷◌, ◌++◌, ◌↔◌, ℕ, ◌+◌, ◌*◌, ◌^◌, ◌≤◌, T, length, get_or}
use Rattle.field.specs.Outcomes.{Says}
use Rattle.poly.specs.Messages.{Vector}
use Rattle.poly.specs.Sets.{Alone, TwoOrMore, Exactly}
use Rattle.points.specs.Series.{columns_of}
use Rattle.code.specs.Terms.{size}
use Rattle.code.specs.Word.{word_of}
use Rattle.code.specs.Answers.{Answer}
use Rattle.session.specs.declared.Session.{Session}
use Rattle.session.specs.Opened.{opened}
use Rattle.session.specs.Arrived.{arrived}
use Rattle.session.specs.Asked.{asked}
use Rattle.session.specs.ReferenceModel.{Model, missing, symbol, empty_model, accepts, after_arrival, symbol_count}

-- "Arrivals have any place and symbol, and each asking is lent a slice of any length." An arrival also has any round (T-04).
pub data Event : Type 0 where
  Arrival : ℕ → ℕ → ℕ → Event
  Asking : List ℕ → Event

-- the model after the events. "An asking, refused or not, leaves the slate as it was."
unfoldable pub model_from : ℕ → Model → List Event → Model
model_from q model [] = model
model_from q model (Arrival p s r ∷ rest) = model_from q (after_arrival q model p s r) rest
model_from q model (Asking slice ∷ rest) = model_from q model rest

abbrev pub model_after : ℕ → List Event → Model
model_after q events = model_from q (empty_model q) events

-- "Each call, the asking after the list too, gets the session that the last arrival before it handed back, accepted or refused, or else
-- the opened one."
unfoldable pub session_from : Session → List Event → Session
session_from session [] = session
session_from session (Arrival p s r ∷ rest) = session_from (arrived session p s r).session rest
session_from session (Asking slice ∷ rest) = session_from session rest

abbrev pub session_after : (q series m : ℕ) → List Event → Session
session_after q series m events = session_from (opened q series m).session events

-- of a session that was opened with q, a series and m: "demand 3 takes places and words in it" (T-11)
module _ (q series m : ℕ) where
  -- "A message is k symbols." "A message fits the slate if its word has the slate's symbol at every place of the slate that holds one."
  -- A place in conflict holds none: it "counts as missing" (T-01).
  pub record FitsModel (model : Model) (v : List ℕ) : Type 0 where
    pub symbols : Vector (q * q) (size q m) v
    pub agree : (p s r : ℕ) → get_or model p missing ≡ symbol s r → get_or (word_of q (columns_of q series) m v) p 0 ≡ s

  -- what asking answers after the events
  abbrev pub answer : List Event → List ℕ → Answer
  answer events slice = asked (session_after q series m events) slice

  -- THE CLAIM on a list of events, of the session that `opened q series m` gave.
  -- "It gives a message when it answers 0 and 0 with that message in the slice, it says 'none' by refusal 9 with 0, and 'several' by
  -- refusal 10 with r."
  pub record Claim (events : List Event) : Type 0 where
    -- "each arrival in it is accepted exactly when document 01's slate takes it"
    pub arrival : (before rest : List Event) (p s r : ℕ) → events ≡ before ++ (Arrival p s r ∷ rest)
        → Says (arrived (session_after q series m before) p s r).outcome 0 0 ↔ T (accepts q (model_after q before) p s r)
    -- "after the list the reader, asked with a slice of the right length, gives a message exactly when it alone fits all symbols then on
    -- the slate"
    pub gives : (slice : List ℕ) → length slice ≡ size q m → (v : List ℕ)
        → (Says (answer events slice).outcome 0 0 × ((answer events slice).slice ≡ v)) ↔ Alone (FitsModel (model_after q events)) v
    -- "it says 'none' exactly when no message fits them"
    pub says_none : (slice : List ℕ) → length slice ≡ size q m
        → Says (answer events slice).outcome 9 0 ↔ ((v : List ℕ) → FitsModel (model_after q events) v → ⊥)
    -- "it says 'several' exactly when two or more fit, with the r for which just Q to the power r fit"
    pub says_several : (slice : List ℕ) → length slice ≡ size q m → (r : ℕ)
        → Says (answer events slice).outcome 10 r
        ↔ (TwoOrMore (FitsModel (model_after q events)) × Exactly ((q * q) ^ r) (FitsModel (model_after q events)))
    -- "Whenever m + 1 places of the slate hold a symbol, it never says 'several'": with a slice of any length
    pub sure : m + 1 ≤ symbol_count (model_after q events) → (slice : List ℕ) (r : ℕ) → Says (answer events slice).outcome 10 r → ⊥
