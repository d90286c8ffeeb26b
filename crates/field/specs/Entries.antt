-- What the field's sum, product and inverse answer, for every argument: a symbol and an outcome.
use Rattle.std.specs.Prelude.{Result, Ok, Err, false, cond, not, List, [], ◌∷◌, ℕ, eqb}
use Rattle.field.specs.Plus.{plus}
use Rattle.field.specs.Product.{times, inverse}
use Rattle.field.specs.Curve.{is_curve, bits_of, curve_of}
use Rattle.field.specs.Outcomes.{Outcome, Done, number, refuse}
use Rattle.field.specs.Values.{value_check}
use Rattle.field.specs.declared.outcome.Refusal.{Refusal}
use Rattle.field.specs.declared.outcome.Refusal.TheVariants.{BadCurve, InverseOfZero}

pub record Answer : Type 0 where
  pub symbol : ℕ
  pub outcome : Outcome

-- checks 1 and 4, the operands being the values 0 and 1, and what is to follow where neither applies
abbrev pub field_checks : ℕ → List ℕ → Outcome → Outcome
field_checks q operands rest = refuse (not (is_curve q)) BadCurve (value_check false (curve_of q).symbols operands rest)

-- "A refused field operation gives the symbol 0."
abbrev pub answer : Outcome → ℕ → Answer
answer o s = record { symbol = cond (eqb (number o) 0) s 0; outcome = o }

-- what a call hands back, as such an answer
abbrev pub told : Result ℕ Refusal → Answer
told (Ok s) = record { symbol = s; outcome = Done }
told (Err refusal) = record { symbol = 0; outcome = Err refusal }

abbrev pub sum_answer : ℕ → ℕ → ℕ → Answer
sum_answer q a b = answer (field_checks q (a ∷ b ∷ []) Done) (plus a b)

abbrev pub product_answer : ℕ → ℕ → ℕ → Answer
product_answer q a b = answer (field_checks q (a ∷ b ∷ []) Done) (times (bits_of q) a b)

-- "The inverse now refuses 0 .. 13: inverse of 0, after 4."
abbrev pub inverse_answer : ℕ → ℕ → Answer
inverse_answer q a = answer (field_checks q (a ∷ []) (refuse (eqb a 0) InverseOfZero Done)) (inverse (bits_of q) a)
