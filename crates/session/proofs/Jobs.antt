-- A job opened from a session: it is of the word that is read, and its opening is refused as asking is.
-- Assumes nothing.
use mathlib.Core.Bool.{true, false}
use mathlib.Core.List.{List}
use mathlib.Core.Logic.{inl, inr}
use mathlib.Core.Path.{◌≡◌, refl, sym, ap, ◌∙◌}
use Prim.Native.Nat.{ℕ, ◌*◌}
use lib.Dec.{eqb}
use lib.ListN.{length, take}
use Rattle.field.specs.Curve.{is_short}
use Rattle.std.specs.Prelude.{Err}
use Rattle.field.specs.Outcomes.{Done, number, Says}
use Rattle.field.specs.declared.outcome.Refusal.TheVariants.{BadCurve}
use Rattle.field.proofs.Curves.{short_of_true}
use Rattle.poly.proofs.Bools.{true_or_false}
use Rattle.code.specs.Terms.{size}
use Rattle.code.specs.Checks.{slice_checks}
use Rattle.code.specs.Answers.{answered}
use Rattle.code.proofs.Checks.{order_curve}
use Rattle.job.specs.Opened.{open_checks, opened}
use Rattle.job.specs.Claim.{Call, Claim}
use Rattle.job.proofs.Openings.{opened_outcome, opened_alike, refused_alike}
use Rattle.job.proofs.Calls.{jobs}
use Rattle.session.specs.declared.ReceivedWord.{ReceivedWord}
use Rattle.session.specs.declared.Session.{Session}
use Rattle.session.specs.Arrived.{received_word}
use Rattle.session.specs.Asked.{asked}
use Rattle.session.specs.JobOpened.{job_opened}
use Rattle.session.specs.Inner.WordRead.{word_read}
use Rattle.session.proofs.Arrivals.{reads}

module _ (s : Session) where
  -- where q names no curve of short blocks, the word makes no difference
  refused_curve : is_short s.q ≡ false → (v : List ℕ) → open_checks s.q s.series s.m v ≡ Err BadCurve
  refused_curve e v =
      order_curve (is_short s.q) s.q s.series s.m
      (slice_checks true (s.q * s.q) (s.q * s.q * s.q) v (size s.q s.m) (size s.q s.m) Done) e

  -- a job of the word that is read
  pub job_opened_lem : length s.places ≡ 64 → (w : ReceivedWord) → w ≡ word_read s → job_opened s ≡ opened s.q s.series s.m (take w.points w.places)
  unfolding job_opened
  job_opened_lem long w is = elim (true_or_false (is_short s.q)) [
    | inl t ↦ ap (opened s.q s.series s.m) (sym (reads s long w is (short_of_true s.q t)).word)
    | inr t ↦
        let v = take w.points w.places in
        opened_alike s.q s.series s.m (received_word s) v (Err BadCurve) (refused_curve t (received_word s)) (refused_curve t v) refl
  ]

  -- "and meets refusals 1 to 4 as they do": where the opening is refused, so is asking, whatever slice is lent to it
  pub job_refused_alike : eqb (number (job_opened s).outcome) 0 ≡ false → (slice : List ℕ) → asked s slice ≡ answered (job_opened s).outcome slice
  unfolding job_opened asked
  job_refused_alike e slice =
      let o = opened_outcome s.q s.series s.m (received_word s) in
      refused_alike s.q s.series s.m (received_word s) (rw o at e) slice ∙ ap (λ x. answered x slice) (sym o)

-- every list of calls on a job opened from a session: the claim of `job`, whose `recovered` of the received word is what asking answers
pub session_jobs : (s : Session) → Says (job_opened s).outcome 0 0 → (calls : List Call) → Claim s.q s.series s.m (received_word s) calls
unfolding job_opened
session_jobs s accepted calls = jobs s.q s.series s.m (received_word s) accepted calls
