-- Asking a session that represents a model: recovery's checks 1, 17 and 2 to 4 pass.
-- Assumes nothing.
use mathlib.Core.Bool.{true}
use mathlib.Core.List.{List, map}
use mathlib.Core.Path.{◌≡◌, refl, ◌∙◌}
use Prim.Native.Nat.{ℕ, ◌*◌, ◌<◌}
use lib.ListN.{length, length-map}
use Rattle.field.specs.Curve.{is_short, IsShort}
use Rattle.std.specs.Prelude.{Err}
use Rattle.field.specs.Outcomes.{Outcome, Done}
use Rattle.field.specs.declared.outcome.Refusal.TheVariants.{BadRoom}
use Rattle.field.proofs.Curves.{short_true}
use Rattle.points.specs.Series.{is_series}
use Rattle.code.specs.Terms.{size}
use Rattle.code.specs.Checks.{value_check, slice_checks}
use Rattle.code.specs.Answers.{answered}
use Rattle.code.specs.Recovered.{answer_of, recover_checks, recovered}
use Rattle.code.proofs.Checks.{order_passed, slices_passed, slices_room}
use Rattle.code.proofs.Recoveries.{reading_of, recovered_refused, recovered_answer}
use Rattle.session.specs.declared.Session.{Session}
use Rattle.session.specs.Asked.{asked}
use Rattle.session.specs.ReferenceModel.{Model}
use Rattle.session.proofs.Steps.{received_value, values_pass, Represents, received_word}

module _ (q series m : ℕ) (block : IsShort q) (named : is_series series ≡ true) (order : m < q * q * q)
    (places rounds : List ℕ) (model : Model) (h : Represents q places rounds model) (slice : List ℕ) where
  abbrev now : Session
  now = record { q = q; series = series; m = m; places = places; rounds = rounds }

  is_recovered : asked now slice ≡ recovered q series m (map received_value model) slice
  unfolding asked
  is_recovered = rw (received_word q block places rounds model h)

  long : length (map received_value model) ≡ q * q * q
  long = length-map model received_value ∙ h.len

  good : Done ≡ value_check true (q * q) (map received_value model) Done
  good = values_pass (q * q) model h.small

  -- what the checks 3, 4 and 5 come to
  abbrev slices : Outcome
  slices = slice_checks true (q * q) (q * q * q) (map received_value model) (size q m) (length slice) Done

  checks : recover_checks q series m (map received_value model) slice ≡ slices
  checks = order_passed (is_short q) q series m slices (short_true q block) named order

  pub asks_answer : length slice ≡ size q m → asked now slice ≡ answer_of (reading_of q series m (map received_value model)) slice
  asks_answer e =
      is_recovered
      ∙ recovered_answer q series m (map received_value model) slice
      (checks
      ∙ slices_passed true (q * q) (q * q * q) (map received_value model) (size q m) (length slice) Done long Done good refl e)

  pub asks_room : (length slice ≡ size q m → ⊥) → asked now slice ≡ answered (Err BadRoom) slice
  asks_room n =
      is_recovered
      ∙ recovered_refused q series m (map received_value model) slice (Err BadRoom)
      (checks
      ∙ slices_room true (q * q) (q * q * q) (map received_value model) (size q m) (length slice) Done long Done good refl n) refl
