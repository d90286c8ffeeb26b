-- The check, for every argument: "A relay should drop bad blocks without unencoding them" (T-13).
use Rattle.std.specs.Prelude.{Result, Ok, Err, Bool, false, not, cond, List, [], ℕ, ◌-◌, ◌*◌, eqb, ltb, length, get_or}
use Rattle.field.specs.Curve.{is_curve, curve_of}
use Rattle.field.specs.Outcomes.{Outcome, Done, number, refuse}
use Rattle.field.specs.Tests.{every}
use Rattle.field.specs.declared.outcome.Refusal.{Refusal}
use Rattle.field.specs.declared.outcome.Refusal.TheVariants.{BadLength, LowOrder}
use Rattle.poly.specs.Messages.{all}
use Rattle.points.specs.Series.{columns_of}
use Rattle.code.specs.Checks.{order_checks, value_check}
use Rattle.code.specs.Terms.{size}
use Rattle.code.specs.Word.{word_of}
use Rattle.dual.specs.Partner.{partner}
use Rattle.dual.specs.Orthogonal.{product_sum}

-- "against every codeword of order" m, the words of all messages, "the place_by_place products add up to 0 in the field"
unfoldable pub is_orthogonal : ℕ → List ℕ → ℕ → List ℕ → Bool
is_orthogonal q columns m word =
    let messages = all (curve_of q).symbols (size q m) in
    every (length messages) (λ i. eqb (product_sum q word (word_of q columns m (get_or messages i []))) 0)

-- 1, 17, 2, "19: order below 2g − 1, after 2", 3, 4 (255 is a bad value here)
unfoldable pub check_checks : ℕ → ℕ → ℕ → List ℕ → Outcome
check_checks q series m word =
    order_checks (is_curve q) q series m
    (refuse (ltb m (2 * (curve_of q).genus - 1)) LowOrder
    (refuse (not (eqb (length word) (curve_of q).points)) BadLength
    (value_check false (curve_of q).symbols word
    Done)))

-- whether the word is a codeword, and the outcome
pub record Verdict : Type 0 where
  pub codeword : Bool
  pub outcome : Outcome

-- a verdict as the call hands it back: "refused, it says no"
abbrev pub told : Result Bool Refusal → Verdict
told (Ok codeword) = record { codeword = codeword; outcome = Done }
told (Err refusal) = record { codeword = false; outcome = Err refusal }

-- "refused, it says no"
unfoldable pub checked : ℕ → ℕ → ℕ → List ℕ → Verdict
checked q series m word =
    let refusal = check_checks q series m word in
    record { codeword = cond (eqb (number refusal) 0) (is_orthogonal q (columns_of q series) (partner q m) word) false; outcome = refusal }
