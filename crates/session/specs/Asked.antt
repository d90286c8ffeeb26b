-- Asking, for every session and every slice.
use Rattle.std.specs.Prelude.{List, ℕ}
use Rattle.code.specs.Answers.{Answer}
use Rattle.code.specs.Recovered.{recovered}
use Rattle.session.specs.declared.Session.{Session}
use Rattle.session.specs.Arrived.{received_word}

-- "A session may be asked at any time, and asking doesn't end it: it is recovery from the stored q, m and first n places", by the stored series (T-11), of which one in
-- conflict "counts as missing" (T-01)
unfoldable pub asked : Session → List ℕ → Answer
asked s slice = recovered s.q s.series s.m (received_word s) slice
