-- `session::Session::ask` meets its contract: it is recovery from the word that is read.
-- Assumes nothing.
use mathlib.Core.Path.{◌≡◌, ◌∙◌}
use borrow.Author.Rules.{rules}
use lib.ListN.{length}
use Rattle.session.proofs.Arrivals.{asked_recovered}
use Rattle.session.proofs.Session.ask.Goals as goal
use Rattle.session.proofs.Session.ask.Goals.{Start}

-- the length of a session's array
long : (c : goal.Start) → length c.args.self.places ≡ 64
long c = search rules

pub returns : goal.returns
returns c =
    let x = c.args in
    asked_recovered x.self x.message.now (long (goal.at.returns c).Start) _ c.received_word-word.ensures ∙ c.recover.ensures
