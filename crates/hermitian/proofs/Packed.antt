-- What mending and checking return to C, from what the mender and the check answer.
-- Assumes nothing.
use mathlib.Core.Bool.{true, false}
use mathlib.Core.List.{List}
use mathlib.Core.Logic.{◌⊎◌, ⊎_elim}
use mathlib.Core.Path.{◌≡◌, refl, sym, ap, ◌∙◌}
use Prim.Native.Nat.{ℕ}
use Rattle.field.specs.Outcomes.{Outcome, packed}
use Rattle.mend.specs.Mended.{Mending, answered as mended_as}
use Rattle.poly.specs.Lists.{one_if}
use Rattle.dual.specs.Checked.{Verdict}
use Rattle.hermitian.specs.Packed.{PackedMending, PackedVerdict}

pub to_packed_mending : (answer : Mending) (o : Outcome) (count : ℕ) (message codeword marks : List ℕ) (returned : ℕ)
    → answer ≡ mended_as o count message codeword marks → returned ≡ packed o → PackedMending answer returned message codeword marks
to_packed_mending answer o count message codeword marks returned is e = rw is (e, refl, refl, refl)

-- and checking, where the verdict was chosen by what the check says
pub to_packed_verdict : (answer reply : Verdict) (returned verdict : ℕ) → reply ≡ answer → returned ≡ packed reply.outcome
    → ((reply.codeword ≡ true) × (verdict ≡ 1)) ⊎ ((reply.codeword ≡ false) × (verdict ≡ 0)) → PackedVerdict answer returned verdict
to_packed_verdict answer reply returned verdict is e chosen =
    rw (← is) (e, ⊎_elim (λ w. w.1 ∙ ap one_if (sym w.0)) (λ w. w.1 ∙ ap one_if (sym w.0)) chosen)
