-- An order of n or more meets 2 in every call, a stored one too, and a place of n or more meets 6: "larger values meet refusals 2 and 6 at
-- those places in the order" (T-08).
-- Assumes nothing.
use mathlib.Core.Bool.{true}
use mathlib.Core.List.{List}
use mathlib.Core.Path.{◌≡◌, refl, sym}
use Prim.Native.Nat.{ℕ, ◌*◌, ◌≤◌, ◌<◌}
use lib.ListN.{replicate}
use Rattle.field.specs.Curve.{is_short, IsShort}
use Rattle.std.specs.Prelude.{Err}
use Rattle.field.specs.Outcomes.{Done}
use Rattle.field.specs.declared.outcome.Refusal.TheVariants.{BadOrder, BadPlace}
use Rattle.field.proofs.Curves.{short_true}
use Rattle.points.specs.Series.{is_series}
use Rattle.code.specs.Checks.{value_check}
use Rattle.code.specs.Answers.{answered}
use Rattle.code.proofs.HighOrders.{order_high, recovered_high}
use Rattle.job.specs.Opened.{fresh}
use Rattle.job.proofs.HighOrders as job
use Rattle.session.specs.declared.Session.{Session}
use Rattle.session.specs.Opened.{empty_session, opened}
use Rattle.session.specs.Arrived.{received_word, arrival_checks, reply, arrived}
use Rattle.session.specs.Asked.{asked}
use Rattle.session.specs.JobOpened.{job_opened}
use Rattle.session.specs.Replayed.{replayed}
use Rattle.session.proofs.Arrivals.{checks_place, arrived_refused}
use Rattle.session.proofs.Replays.{replayed_refused}

-- an order that is passed in
module _ (q series m : ℕ) (c : IsShort q) (named : is_series series ≡ true) (h : q * q * q ≤ m) where
  pub opened_high : opened q series m ≡ reply (empty_session 2 1 0) (Err BadOrder)
  unfolding opened
  opened_high = rw (order_high q series m named h (is_short q) (short_true q c) Done)

  pub replayed_high : (places symbols rounds slice : List ℕ) → replayed q series m places symbols rounds slice ≡ answered (Err BadOrder) slice
  replayed_high places symbols rounds slice =
      replayed_refused q series m places symbols rounds slice (reply (empty_session 2 1 0) (Err BadOrder)) (sym opened_high) refl

-- an order that is stored
module _ (s : Session) (c : IsShort s.q) (named : is_series s.series ≡ true) (h : s.q * s.q * s.q ≤ s.m) where
  checks_high : (place symbol : ℕ) → arrival_checks s place symbol ≡ Err BadOrder
  unfolding arrival_checks
  checks_high place symbol = order_high s.q s.series s.m named h (is_short s.q) (short_true s.q c) _

  pub arrived_high : (place symbol round : ℕ) → arrived s place symbol round ≡ reply s (Err BadOrder)
  arrived_high place symbol round = arrived_refused s place symbol round (Err BadOrder) (checks_high place symbol) refl

  pub asked_high : (slice : List ℕ) → asked s slice ≡ answered (Err BadOrder) slice
  unfolding asked
  asked_high slice = recovered_high s.q s.series s.m named h (received_word s) slice c

  pub job_opened_high : job_opened s ≡ record { task = fresh 2 1 0 (replicate 8 255); outcome = Err BadOrder }
  unfolding job_opened
  job_opened_high = job.opened_high s.q s.series s.m c named h (received_word s)

-- a place, where 1, 17, 2 and 4 let the session pass: whatever the symbol
pub place_high : (s : Session) → IsShort s.q → is_series s.series ≡ true → s.m < s.q * s.q * s.q
    → value_check true (s.q * s.q) (received_word s) Done ≡ Done
    → (place : ℕ) → s.q * s.q * s.q ≤ place → (symbol round : ℕ) → arrived s place symbol round ≡ reply s (Err BadPlace)
place_high s c named l v place h symbol round =
    arrived_refused s place symbol round (Err BadPlace)
    (checks_place s place symbol (s.q * s.q * s.q) (s.q * s.q) Done
    (record { is_block = c; series_named = named; is_n = refl; is_Q = refl; order = l; is_o = sym v })
    refl
    h)
    refl
