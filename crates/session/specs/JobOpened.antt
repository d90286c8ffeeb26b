-- A job opened from a session, for every session.
use Rattle.job.specs.Opened.{Opened, opened}
use Rattle.session.specs.declared.Session.{Session}
use Rattle.session.specs.Arrived.{received_word}

-- T-05: "A job is opened from what recovery or asking takes, without the slice": of a session its stored q, series and m and the received word, in
-- which a place in conflict is missing
unfoldable pub job_opened : Session → Opened
job_opened s = opened s.q s.series s.m (received_word s)
