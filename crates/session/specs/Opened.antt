-- Opening, for every argument.
use Rattle.std.specs.Prelude.{cond, ℕ, eqb, replicate}
use Rattle.field.specs.Curve.{is_short}
use Rattle.field.specs.Outcomes.{Done, number}
use Rattle.code.specs.Checks.{order_checks}
use Rattle.session.specs.declared.Session.{Session}
use Rattle.session.specs.declared.Reply.{Reply}

-- "A session holds q, m and 64 places", and the series that its opening named (T-11). "Opening marks all 64 missing." T-04: "A place that holds 255 has round 0".
abbrev pub empty_session : ℕ → ℕ → ℕ → Session
empty_session q series m = record { q = q; series = series; m = m; places = replicate 64 255; rounds = replicate 64 0 }

-- 1, 17, 2. "A refused opening hands back q = 2, m = 0, all places 255", and "names series 1" (T-11).
unfoldable pub opened : ℕ → ℕ → ℕ → Reply
opened q series m =
    let outcome = order_checks (is_short q) q series m Done in
    record { session = cond (eqb (number outcome) 0) (empty_session q series m) (empty_session 2 1 0); outcome = outcome }
