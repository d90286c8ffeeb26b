-- `session::Session::job` meets its contract: it is an opening from the word that is read.
-- Assumes nothing.
use mathlib.Core.Path.{◌≡◌, ◌∙◌}
use borrow.Author.Rules.{rules}
use lib.ListN.{length}
use Rattle.session.proofs.Jobs.{job_opened_lem}
use Rattle.session.proofs.Session.job.Goals as goal
use Rattle.session.proofs.Session.job.Goals.{Start}

-- the length of a session's array
long : (c : goal.Start) → length c.args.self.places ≡ 64
long c = search rules

pub returns : goal.returns
returns c = record {
  self_value = job_opened_lem c.args.self (long (goal.at.returns c).Start) c.received_word-word.result c.received_word-word.ensures ∙ c.open.ensures.word_value;
  sound = c.open.ensures.sound;
}
