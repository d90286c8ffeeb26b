-- `job::open` meets its contract: the outcome of the checks 1, 17 and 2 to 4 decides which job is handed back.
-- Assumes nothing.
use Rattle.field.proofs.Outcomes.{not_done, err_not_done}
use Rattle.job.proofs.Freshness.{word_short, opens_fresh, opens_blank}
use Rattle.job.proofs.open.Goals as goal

pub fresh-job-requires : goal.fresh-job-requires
fresh-job-requires c =
    let x = c.args in
    word_short x.q x.series x.m x.word.now _ c.opening-outcome.ensures c.in-Ok.is

pub returns-in-Ok : goal.returns-in-Ok
returns-in-Ok c =
    let x = c.args in
    let all =
    opens_fresh x.q x.series x.m x.word.now _ c.opening-outcome.ensures c.in-Ok.is _ c.fresh-job.ensures in
    record { word_value = all.0; sound = all.1 }

pub returns-in-Err : goal.returns-in-Err
returns-in-Err c =
    let x = c.args in
    let o = c.opening-outcome in
    let all =
    opens_blank x.q x.series x.m x.word.now _ o.ensures (not_done o.result (err_not_done c.in-Err.is)) _ c.fresh-job-in-Err.ensures in
    record { word_value = all.0; sound = all.1 }
