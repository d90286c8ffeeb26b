-- The completion of a broken word from what recovery answers, and the room that it takes.
-- Assumes nothing.
use mathlib.Core.Bool.{false}
use mathlib.Core.List.{List}
use mathlib.Core.Path.{◌≡◌, sym, ap, ◌∙◌}
use Prim.Native.Nat.{ℕ, suc, ◌*◌, ◌≤◌, ◌<◌}
use native.Mathlib.Omega.{arith}
use lib.Dec.{eqb}
use lib.ListN.{length}
use Rattle.field.specs.Curve.{IsShort}
use Rattle.field.specs.Outcomes.{Outcome, Done, number}
use Rattle.field.proofs.Fields.{field_of}
use Rattle.field.proofs.FieldLaws.{zero_lt}
use Rattle.field.proofs.Curves.{short_curve}
use Rattle.field.proofs.Outcomes.{done_or_not}
use Rattle.poly.specs.Messages.{Vector}
use Rattle.poly.proofs.Messages.{vector_below}
use Rattle.points.specs.Series.{columns_of}
use Rattle.points.proofs.Series.{full_places}
use Rattle.points.proofs.Passing.{place_bound}
use Rattle.code.specs.Answers.{Answer, answered}
use Rattle.code.specs.Recovered.{Reading, message, reading, answer_of}
use Rattle.code.specs.Terms.{is_term, size}
use Rattle.code.specs.Word.{word_of}
use Rattle.code.specs.Fitting.{fitting}
use Rattle.code.specs.Inner.Encodable.{Encodable}
use Rattle.code.specs.Inner.Recovering.{BrokenOver}
use Rattle.code.proofs.Recoveries.{answer_message}
use Rattle.code.proofs.Readings.{Fitting, fitting_list, reads_message}
use Rattle.recovery.proofs.GapAnswers.{short_places}

-- k is no more than the places
pub size_short : (q : ℕ) (columns : List ℕ) (m : ℕ) (word : List ℕ) → BrokenOver q columns m word → IsShort q → size q m ≤ 64
size_short q columns m word h short =
    omega (arith, place_bound (is_term q) (suc m), h.order, h.long, (short_places q columns m word h short).1)

pub order_short : (q series m : ℕ) (word : List ℕ) → BrokenOver q (columns_of q series) m word → IsShort q → m < q * q * q
order_short q series m word h short = omega (arith, h.order, full_places q series (short_curve q short))

-- ---- what an answer says of the reading

module _ (r : Reading) (slice out : List ℕ) (o : Outcome) (e : answer_of r slice ≡ answered o out) where
  pub answered_done : o ≡ Done → r ≡ message out
  answered_done d = (answer_message r slice out).0 (ap (λ (a : Answer). a.outcome) e ∙ d, ap (λ (a : Answer). a.slice) e)

  pub answered_refused : eqb (number o) 0 ≡ false → (v : List ℕ) → r ≡ message v → ⊥
  answered_refused n v s = done_or_not o (ap (λ (a : Answer). a.outcome) (sym e) ∙ ((answer_message r slice v).1 s).0) n

-- ---- a message that is read may be encoded

module _ (q : ℕ) (columns : List ℕ) (m : ℕ) (broken : List ℕ) (h : BrokenOver q columns m broken) (v : List ℕ)
    (e : reading (field_of q).size (size q m) (word_of q columns m) broken ≡ message v) where
  pub read_message : Vector (field_of q).size (size q m) v
  unfolding reading
  read_message =
      ((reads_message (field_of q).size (omega (arith, (field_of q).two_le))
      (Fitting (field_of q).size (size q m) (word_of q columns m) broken) (fitting (field_of q).size (size q m) (word_of q columns m) broken)
      (fitting_list (field_of q).size (size q m) (word_of q columns m) broken) v).0 e).has.vector

  pub read_encodable : (out : List ℕ) → length out ≡ length broken → Encodable q columns m v out
  read_encodable out room =
      record {
        over = h.over;
        few = h.few;
        order = h.order;
        long = read_message.len;
        symbols = vector_below (field_of q).size (size q m) v (zero_lt (field_of q)) read_message;
        room = room ∙ h.long;
      }
