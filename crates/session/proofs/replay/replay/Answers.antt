-- `session::replay::replay` meets its contract: a refused opening ends it, and else the session after the arrivals is asked.
-- Assumes nothing.
use mathlib.Core.Path.{◌∙◌}
use Rattle.field.proofs.Outcomes.{not_done, handed_on, err_not_done}
use Rattle.session.proofs.Replays.{replayed_asked, replayed_refused}
use Rattle.session.proofs.replay.replay.Goals as goal

pub returns : goal.returns
returns c =
    let x = c.args in
    replayed_asked x.q x.series x.m x.places.now x.symbols.now x.rounds.now x.message.now _ c.open-start.ensures
    c.in_ok-start.was _
    c.receive-session.ensures
    ∙ c.ask.ensures

pub returns-in_err-start : goal.returns-in_err-start
returns-in_err-start c =
    let t = c.open-start in
    let x = c.args in
    rw (handed_on _ _ c.from_residual.ensures.1 c.in_err-start.was)
    (replayed_refused x.q x.series x.m x.places.now x.symbols.now x.rounds.now x.message.now _ t.ensures (not_done t.result.outcome (err_not_done c.in_err-start.was)))
