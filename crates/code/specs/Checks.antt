-- The checks 1 to 5 and 17 of "Why a call is turned down". Each takes what is to follow where none of its tests applies. Check 4, of values, is
-- the field's.
use Rattle.std.specs.Prelude.{Bool, not, cond, List, ℕ, eqb, leb, length}
use Rattle.field.specs.Curve.{curve_of}
use Rattle.field.specs.Outcomes.{Outcome, refuse}
use Rattle.field.specs.declared.outcome.Refusal.TheVariants.{BadCurve, BadOrder, BadLength, BadRoom, BadSeries}
use Rattle.points.specs.Series.{is_series}
use Rattle.code.specs.Terms.{size}
pub use Rattle.field.specs.Values.{bad_value, value_check}
unfoldable pub use Rattle.field.specs.Values.{first_bad}

-- "1. The curve number is neither 2 nor 4." Which numbers a call takes, 8 too or not (T-09), is its own matter. "17: series neither 1 nor 2, ..
-- after 1" (T-11)
unfoldable pub curve_checks : Bool → ℕ → Outcome → Outcome
curve_checks taken series rest =
    refuse (not taken) BadCurve
    (refuse (not (is_series series)) BadSeries
    rest)

-- 1, 17, and "2. The order is n or more."
unfoldable pub order_checks : Bool → ℕ → ℕ → ℕ → Outcome → Outcome
order_checks taken q series m rest = curve_checks taken series (refuse (leb (curve_of q).points m) BadOrder rest)

-- "3. The message or word passed in hasn't length k or n respectively. .. 5. The slice to be written hasn't exactly length n (encode) or
-- k (all others)": the input is to have the length takes, and the slice, whose length is room, the length writes
unfoldable pub slice_checks : Bool → ℕ → ℕ → List ℕ → ℕ → ℕ → Outcome → Outcome
slice_checks gaps Q takes input writes room rest =
    refuse (not (eqb (length input) takes)) BadLength
    (value_check gaps Q input
    (refuse (not (eqb room writes)) BadRoom
    rest))

-- 1, 17, 2, 3, 4, 5, of a call that decodes, which takes a word and writes a message, or encodes, which takes a message and writes a word
abbrev pub call_checks : Bool → Bool → Bool → ℕ → ℕ → ℕ → List ℕ → ℕ → Outcome → Outcome
call_checks taken gaps decodes q series m input room rest =
    let n = (curve_of q).points in
    let k = size q m in
    order_checks taken q series m (slice_checks gaps (curve_of q).symbols (cond decodes n k) input (cond decodes k n) room rest)
