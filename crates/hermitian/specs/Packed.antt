-- An answer as C gets it.
use Rattle.std.specs.Prelude.{List, ◌≡◌, ℕ}
use Rattle.field.specs.Outcomes.{packed}
use Rattle.poly.specs.Lists.{one_if}
use Rattle.mend.specs.Mended.{Mending}
use Rattle.dual.specs.Checked.{Verdict}

-- what the mender answers, whose count C reads off the marks
abbrev pub PackedMending : Mending → ℕ → List ℕ → List ℕ → List ℕ → Type 0
PackedMending answer returned message codeword marks =
    (returned ≡ packed answer.outcome) × (message ≡ answer.message) × (codeword ≡ answer.codeword) × (marks ≡ answer.marks)

-- the check's verdict, in a byte of its own, which is written in every case: 1 for yes, and 0 for no and where the call is refused
abbrev pub PackedVerdict : Verdict → ℕ → ℕ → Type 0
PackedVerdict answer returned verdict = (returned ≡ packed answer.outcome) × (verdict ≡ one_if answer.codeword)
