-- `session::replay::receive` meets its contract: the session so far is handed on along what is left of the lists.
use mathlib.Core.Path.{◌≡◌}
use lib.ListN.{drop}
use Rattle.session.specs.Claim.{session_from}
use Rattle.session.specs.Replayed.{arrivals}
use Rattle.session.proofs.replay.receive.Given as goal

abbrev pub invariant-loop-i : goal.invariant-loop-i
invariant-loop-i l =
    session_from l.initial.session (arrivals l.places l.symbols l.rounds) ≡ session_from l.session (arrivals (drop l.i l.places) (drop l.i l.symbols) (drop l.i l.rounds))
