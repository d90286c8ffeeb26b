-- Check 4 of "Why a call is turned down": "An input or stored value is Q or more, 255 being allowed in broken words and sessions only;
-- the second number is the lowest index, from 0, of such a value (for a field operation 0 or 1, the operand)."
use Rattle.std.specs.Prelude.{Bool, not, cond, ◌&&◌, List, [], ◌∷◌, ℕ, suc, eqb, leb, ltb, length}
use Rattle.field.specs.Outcomes.{Outcome, refuse}
use Rattle.field.specs.declared.outcome.Refusal.TheVariants.{BadValue}

-- gaps says whether 255 is allowed
abbrev pub bad_value : Bool → ℕ → ℕ → Bool
bad_value gaps Q x = leb Q x && not (gaps && eqb x 255)

-- the lowest index of a value that the test finds bad; the length where there is none
unfoldable pub first_bad : (ℕ → Bool) → List ℕ → ℕ
first_bad bad [] = 0
first_bad bad (x ∷ xs) = cond (bad x) 0 (suc (first_bad bad xs))

-- the check, and what is to follow where it doesn't apply
abbrev pub value_check : Bool → ℕ → List ℕ → Outcome → Outcome
value_check gaps Q values rest =
    refuse (ltb (first_bad (bad_value gaps Q) values) (length values)) (BadValue (first_bad (bad_value gaps Q) values)) rest
