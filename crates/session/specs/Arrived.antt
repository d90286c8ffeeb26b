-- An arrival, for every session and every argument.
use Rattle.std.specs.Prelude.{true, cond, List, map, ℕ, ◌*◌, eqb, leb, ltb, get_or, take, set}
use Rattle.field.specs.Curve.{is_short}
use Rattle.field.specs.Outcomes.{Outcome, Done, number, refuse}
use Rattle.field.specs.declared.outcome.Refusal.TheVariants.{BadPlace, BadSymbol}
use Rattle.code.specs.Checks.{order_checks, value_check}
use Rattle.session.specs.declared.Stored.{Stored}
use Rattle.session.specs.declared.Session.{Session}
use Rattle.session.specs.declared.Reply.{Reply}

-- the first n places: "Places from n to 63 are never read, not by the checks either."
abbrev pub used_places : Session → List ℕ
used_places s = take (s.q * s.q * s.q) s.places

-- T-01: "the session stores 254 there" where two different symbols of the same round came, a conflict (document 02: the place is struck
-- out). "A struck place counts as missing": a stored value as the checks and recovery read it
abbrev pub conflict_as_missing : ℕ → ℕ
conflict_as_missing x = cond (eqb x 254) 255 x

-- the broken word that the checks and recovery read. T-01: "A session cut off early is judged by its unstruck places, and only they, as they
-- then stand, count"
abbrev pub received_word : Session → List ℕ
received_word s = map conflict_as_missing (used_places s)

abbrev pub stored : ℕ → ℕ → Stored
stored value round = record { value = value; round = round }

-- What is stored for a place, where old of the round old_round was, once a symbol of a round arrives there. T-04: "any symbol arriving there
-- [at a place that holds 255] is stored with its round"; "A symbol of a higher round, the same symbol too, replaces what is stored, its round
-- with it; one of a lower round is accepted and changes nothing. .. The round is looked at first, and striking out happens only between
-- symbols of the same round." There "the same symbol again .. changes nothing", and one that differs "strikes the place out" (T-01). "A
-- struck place keeps its round", and what arrives in that round differs from it: 254 is no symbol.
abbrev pub merged : ℕ → ℕ → ℕ → ℕ → Stored
merged old old_round symbol round =
    let received = stored symbol round in
    let unchanged = stored old old_round in
    let conflict = stored 254 old_round in
    cond (eqb old 255) received
    (cond (ltb old_round round) received
    (cond (ltb round old_round) unchanged
    (cond (eqb old symbol) unchanged conflict)))

-- "An arrival takes 1, 2, 4 (stored values), 6, 7 and 8", and 17, "the stored one too in arrivals", after 1 (T-11). T-01: 254, "which stored values may now hold", passes 4, and "Refusal 8 no longer
-- occurs".
unfoldable pub arrival_checks : Session → ℕ → ℕ → Outcome
arrival_checks s place symbol =
    order_checks (is_short s.q) s.q s.series s.m
    (value_check true (s.q * s.q) (received_word s)
    (refuse (leb (s.q * s.q * s.q) place) BadPlace
    (refuse (leb (s.q * s.q) symbol) BadSymbol
    Done)))

abbrev pub reply : Session → Outcome → Reply
reply s o = record { session = s; outcome = o }

-- the session with what is then stored for a place
abbrev pub with_stored : Session → ℕ → Stored → Session
with_stored s place then =
    record { q = s.q; series = s.series; m = s.m; places = set s.places place then.value; rounds = set s.rounds place then.round }

-- "An arrival hands the session back with one symbol stored, or as it came."
unfoldable pub arrived : Session → ℕ → ℕ → ℕ → Reply
arrived s place symbol round =
    let checked = arrival_checks s place symbol in
    cond (eqb (number checked) 0)
    (reply (with_stored s place (merged (get_or s.places place 0) (get_or s.rounds place 0) symbol round)) Done) (reply s checked)
