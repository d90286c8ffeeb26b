-- The reference model of a session, which is document 01's slate: "The slate is worked out from q and the arguments of the arrivals in turn,
-- and from nothing that the session stores or answers."
use Rattle.std.specs.Prelude.{Bool, ◌&&◌, cond, List, [], ◌∷◌, ℕ, suc, ◌*◌, eqb, ltb, get_or, set, replicate}

-- A place is missing (document 01: blank), or holds a symbol of a round, or is in conflict: two different symbols of the same round came
-- (document 02: it is struck out). T-04: "The slate keeps rounds and follows the same rule" as the session.
pub data Place : Type 0 where
  missing : Place
  symbol : ℕ → ℕ → Place
  conflict : ℕ → Place

-- document 01's slate
abbrev pub Model : Type 0
Model = List Place

-- "It has n places, at first all blank."
abbrev pub empty_model : ℕ → Model
empty_model q = replicate (q * q * q) missing

-- What a place then is, where s of round r arrives at it. "Place p is blank: the slate takes it, and p holds s." T-04: "A symbol of a higher
-- round, the same symbol too, replaces what is stored, its round with it; one of a lower round is accepted and changes nothing." In the same
-- round: "Place p holds s: the slate takes it and stays as it was"; one that differs "strikes the place out" (T-01). "A struck place heard
-- again in a higher round holds a symbol", and else "keeps its round".
abbrev pub updated : Place → ℕ → ℕ → Place
updated missing s r = symbol s r
updated (symbol t u) s r = cond (ltb u r) (symbol s r) (cond (ltb r u) (symbol t u) (cond (eqb t s) (symbol t u) (conflict u)))
updated (conflict u) s r = cond (ltb u r) (symbol s r) (conflict u)

-- "p is n or more, or s is Q or more: the slate doesn't take it and stays as it was."
abbrev pub in_range : ℕ → ℕ → ℕ → Bool
in_range q p s = ltb p (q * q * q) && ltb s (q * q)

-- whatever the model holds (T-01), and whatever the round (T-04), every other arrival is accepted (document 01: taken)
unfoldable pub accepts : ℕ → Model → ℕ → ℕ → ℕ → Bool
accepts q model p s r = in_range q p s

unfoldable pub after_arrival : ℕ → Model → ℕ → ℕ → ℕ → Model
after_arrival q model p s r = cond (in_range q p s) (set model p (updated (get_or model p missing) s r)) model

-- the number of places that hold a symbol; T-01: "only they [the unstruck places], as they then stand, count towards m + 1"
unfoldable pub symbol_count : Model → ℕ
symbol_count [] = 0
symbol_count (missing ∷ model) = symbol_count model
symbol_count (symbol s r ∷ model) = suc (symbol_count model)
symbol_count (conflict r ∷ model) = symbol_count model
