-- A broken word that one message fits, completed to its word.
use Rattle.std.specs.Prelude.{Bool, true, false, List, ◌≡◌, ℕ, ◌*◌, ◌<◌, length, get_or}
use Rattle.field.specs.Plus.{plus}
use Rattle.std.specs.Prelude.{Err}
use Rattle.field.specs.Outcomes.{Done}
use Rattle.field.specs.declared.outcome.Refusal.TheVariants.{NoInformationSet}
use Rattle.field.proofs.Fields.{field_of}
use Rattle.poly.specs.Inner.Linear.{entry}
use Rattle.code.specs.Answers.{Answer, answered}
use Rattle.code.specs.Recovered.{Reading, nothing, message, several, reading}
use Rattle.code.specs.Terms.{size}
use Rattle.code.specs.Word.{word_of}
use Rattle.recovery.specs.Inner.Gaps.{known}

-- the word of the one message that fits; where none or several do, the slice as it was
unfoldable pub completion : (List ℕ → List ℕ) → Reading → List ℕ → Answer
completion word nothing slice = answered (Err NoInformationSet) slice
completion word (message v) slice = answered Done (word v)
completion word (several r) slice = answered (Err NoInformationSet) slice

-- by the answer: one message fits, and what is left is its word and what was known; or not one does
abbrev pub Solved : ℕ → List ℕ → ℕ → List ℕ → List ℕ → Bool → Type 0
Solved q columns m broken left true =
    (v : List ℕ) × (reading (field_of q).size (size q m) (word_of q columns m) broken ≡ message v)
    × ((p : ℕ) → p < q * length columns → entry left p ≡ plus (known broken p) (get_or (word_of q columns m v) p 0))
Solved q columns m broken left false =
    (v : List ℕ) → reading (field_of q).size (size q m) (word_of q columns m) broken ≡ message v → ⊥
