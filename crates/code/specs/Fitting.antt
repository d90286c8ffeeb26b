-- "A broken word has 255 at each missing place; 0 is a symbol like any other. A message fits if its word agrees at every place that
-- isn't 255."
use Rattle.std.specs.Prelude.{Bool, ◌||◌, List, ℕ, eqb, length, get_or}
use Rattle.field.specs.Tests.{every}
use Rattle.poly.specs.Lists.{filter}
use Rattle.poly.specs.Messages.{all}

-- a whole word agrees with a broken one at every place that isn't 255
unfoldable pub agrees : List ℕ → List ℕ → Bool
unfolding every
agrees broken whole = every (length broken) (λ p. eqb (get_or broken p 0) 255 || eqb (get_or whole p 0) (get_or broken p 0))

-- `word` gives each message its word
unfoldable pub fits : (List ℕ → List ℕ) → List ℕ → List ℕ → Bool
unfolding agrees
fits word broken message = agrees broken (word message)

-- the messages, lists of k symbols, that fit
unfoldable pub fitting : (Q k : ℕ) → (List ℕ → List ℕ) → List ℕ → List (List ℕ)
unfolding filter fits all
fitting Q k word broken = filter (fits word broken) (all Q k)
