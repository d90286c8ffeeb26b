-- What a list of events leaves doesn't depend on its order: "The end state no longer depends on the order in which accepted symbols came"
-- (T-01), with the rounds of T-04 too.
use Rattle.std.specs.Prelude.{true, ◌↔◌, ◌⊎◌, ◌≡◌, ℕ, ◌≤◌, ◌<◌}
use mathlib.Core.List.{List, Memᴰ as Mem}
use Rattle.session.specs.ReferenceModel.{Place, missing, symbol, conflict, in_range}
use Rattle.session.specs.Claim.{Event, Arrival}

-- the symbol s of round r came to p, by an arrival that the model, and so the session, accepts
abbrev pub Received : ℕ → ℕ → List Event → ℕ → ℕ → Type 0
Received q p events s r = (in_range q p s ≡ true) × Mem (Arrival p s r) events

-- What a place of the model is, where C says which symbols of which rounds came to it: none; or s alone in the highest round; or two of the
-- highest round that differ
abbrev pub DecidedBy : (ℕ → ℕ → Type 0) → Place → Type 0
DecidedBy C missing = (s r : ℕ) → C s r → ⊥
DecidedBy C (symbol s r) = C s r × ((t u : ℕ) → C t u → (u < r) ⊎ ((u ≡ r) × (t ≡ s)))
DecidedBy C (conflict r) = (s : ℕ) × (t : ℕ) × C s r × C t r × (s ≡ t → ⊥) × ((x u : ℕ) → C x u → u ≤ r)

-- the same symbols of the same rounds came in both lists, in whatever order and however often; the arrivals that aren't accepted, and the
-- askings, are any
pub record SameAccepted (q : ℕ) (one other : List Event) : Type 0 where
  pub at : (p s r : ℕ) → in_range q p s ≡ true → Mem (Arrival p s r) one ↔ Mem (Arrival p s r) other
