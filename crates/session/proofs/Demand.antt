-- DEMAND 3: the claim holds of every list of events.
-- Assumes nothing.
use mathlib.Core.Bool.{true}
use mathlib.Core.List.{List, [], ◌∷◌, map}
use mathlib.Core.Logic.{◌↔◌}
use mathlib.Core.Path.{◌≡◌, refl}
use Prim.Native.Nat.{ℕ, ◌*◌, ◌<◌}
use native.Mathlib.Decide.{ℕ_discrete}
use native.Mathlib.Omega.{arith}
use lib.ListN.{length}
use Rattle.field.specs.Curve.{IsCurve, IsShort}
use Rattle.std.specs.Prelude.{Err}
use Rattle.field.specs.Outcomes.{Done, Says}
use Rattle.field.specs.declared.outcome.Refusal.TheVariants.{BadRoom, NoMessage, Several}
use Rattle.field.proofs.Curves.{short_curve}
use Rattle.field.proofs.Outcomes.{says}
use Rattle.points.specs.Series.{is_series}
use Rattle.code.specs.Terms.{size}
use Rattle.code.specs.Answers.{answered}
use Rattle.code.specs.Recovered.{Reading, answer_of}
use Rattle.code.proofs.Recoveries.{reading_of, answer_nothing, answer_message, answer_several}
use Rattle.session.specs.declared.Session.{Session}
use Rattle.session.specs.Opened.{opened}
use Rattle.session.specs.Arrived.{arrived}
use Rattle.session.specs.Asked.{asked}
use Rattle.session.specs.ReferenceModel.{Model, empty_model, after_arrival}
use Rattle.session.specs.Claim.{Event, Arrival, Asking, model_from, model_after, session_from, session_after, Claim}
use Rattle.session.specs.Replayed.{arrivals, replayed}
use Rattle.session.proofs.Replays.{replayed_asked}
use Rattle.session.proofs.Steps.{received_value, Match, opened_block, match_opened, step}
use Rattle.session.proofs.ModelReadings.{none_fits, one_fits, several_fit, never_two}
use Rattle.session.proofs.Askings.{asks_answer, asks_room}

-- after every list of events the session matches the model
match_from : (q series m : ℕ) → IsShort q → is_series series ≡ true → m < q * q * q → (session : Session) (model : Model) → Match q series m session model → (events : List Event)
    → Match q series m (session_from session events) (model_from q model events)
unfolding session_from model_from
match_from q series m block named order session model h [] = h
match_from q series m block named order session model h (Arrival p s r ∷ rest) =
    match_from q series m block named order (arrived session p s r).session (after_arrival q model p s r) (step q series m block named order session model h p s r).next rest
match_from q series m block named order session model h (Asking slice ∷ rest) = match_from q series m block named order session model h rest

both : {A B C : Type 0} → A ↔ B → B ↔ C → A ↔ C
both f g = (λ a. g.0 (f.0 a), λ c. f.1 (g.1 c))

module _ (q series m : ℕ) (accepted : Says (opened q series m).outcome 0 0) where
  done : (opened q series m).outcome ≡ Done
  done = (says (opened q series m).outcome Done).0 accepted

  block : IsShort q
  block = (opened_block q series m done).0

  curve : IsCurve q
  curve = short_curve q block

  order : m < q * q * q
  order = (opened_block q series m done).2

  named : is_series series ≡ true
  named = (opened_block q series m done).1

  pub match_after : (events : List Event) → Match q series m (session_after q series m events) (model_after q events)
  match_after events = match_from q series m block named order (opened q series m).session (empty_model q) (match_opened q series m done) events

  module _ (events : List Event) where
    abbrev model : Model
    model = model_after q events

    abbrev found : Reading
    found = reading_of q series m (map received_value model)

    asks : (slice : List ℕ) → length slice ≡ size q m → asked (session_after q series m events) slice ≡ answer_of found slice
    asks slice e = let h = match_after events in rw h.is (asks_answer q series m block named order h.places h.rounds model h.represents slice e)

    short : (slice : List ℕ) → (length slice ≡ size q m → ⊥) → asked (session_after q series m events) slice ≡ answered (Err BadRoom) slice
    short slice n = let h = match_after events in rw h.is (asks_room q series m block named order h.places h.rounds model h.represents slice n)

    claim : Claim q series m events
    claim =
        let h = (match_after events).represents in
        record {
          arrival = λ before rest p s r e.
              both (says (arrived (session_after q series m before) p s r).outcome Done)
              (step q series m block named order (session_after q series m before) (model_after q before) (match_after before) p s r).answered;
          gives = λ slice e v.
              let w = both (answer_message found slice v) (one_fits q series m curve model h.len h.small v) in
              let is = says (answer_of found slice).outcome Done in
              rw (asks slice e) (λ a. w.0 (is.0 a.0, a.1), λ a. let b = w.1 a in (is.1 b.0, b.1));
          says_none = λ slice e.
              rw (asks slice e)
              (both (says (answer_of found slice).outcome (Err NoMessage))
              (both (answer_nothing found slice) (none_fits q series m curve model h.len h.small)));
          says_several = λ slice e r.
              rw (asks slice e)
              (both (says (answer_of found slice).outcome (Err (Several r)))
              (both (answer_several found slice r) (several_fit q series m curve model h.len h.small r)));
          sure = λ enough slice r said. elim (ℕ_discrete (length slice) (size q m)) [
            | yes e ↦
                never_two q series m curve model h.len h.small enough
                ((several_fit q series m curve model h.len h.small r).0
                ((answer_several found slice r).0 ((says (answer_of found slice).outcome (Err (Several r))).0 (rw (asks slice e) at said)))).0
            | no d ↦ let a = rw (short slice d) at said in omega arith
          ];
        }

pub demand : (q series m : ℕ) → Says (opened q series m).outcome 0 0 → (events : List Event) → Claim q series m events
demand q series m accepted events = claim q series m accepted events

-- and so of the arrivals that `replay` runs, whose answer is that of the asking after them
pub replay_demand : (q series m : ℕ) → Says (opened q series m).outcome 0 0 → (places symbols rounds slice : List ℕ)
    → let events = arrivals places symbols rounds in
    Claim q series m events × (replayed q series m places symbols rounds slice ≡ asked (session_after q series m events) slice)
replay_demand q series m accepted places symbols rounds slice = (
  demand q series m accepted (arrivals places symbols rounds),
  replayed_asked q series m places symbols rounds slice (opened q series m) refl ((says (opened q series m).outcome Done).0 accepted)
      (session_after q series m (arrivals places symbols rounds))
      refl,
)
