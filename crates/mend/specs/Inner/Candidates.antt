-- What the search for a near message gives.
use Rattle.std.specs.Prelude.{Bool, true, false, List, ◌≡◌, ℕ, ◌*◌}
use Rattle.poly.specs.Messages.{Vector}
use Rattle.code.specs.Terms.{size}
use Rattle.mend.specs.Inner.Locating.{Near, Locator}

-- the only message that can be near; or none is
abbrev pub OnlyNear : ℕ → ℕ → ℕ → List ℕ → List ℕ → Bool → Type 0
OnlyNear q series m word message true = Vector (q * q) (size q m) message × ((v : List ℕ) → Near q series m word v → v ≡ message)
OnlyNear q series m word message false = (v : List ℕ) → Near q series m word v → ⊥

-- a locator; or there is none
abbrev pub Located : ℕ → ℕ → ℕ → List ℕ → List ℕ → Bool → Type 0
Located q series m word f true = Locator q series m word f
Located q series m word f false = (f : List ℕ) → Locator q series m word f → ⊥
