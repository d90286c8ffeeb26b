-- The marks of the entries of a weight above m.
-- Assumes nothing.
use mathlib.Core.Bool.{Bool, true, false, not}
use mathlib.Core.List.{List}
use mathlib.Core.Logic.{◌⊎◌, inl, inr}
use mathlib.Core.Path.{◌≡◌, refl, ap, ◌∙◌, subst}
use Prim.Native.Nat.{ℕ, ◌*◌, ◌≤◌, ◌<◌}
use native.Mathlib.Decide.{dec_lt}
use native.Mathlib.Omega.{arith}
use lib.Dec.{eqb}
use lib.ListN.{length, get_or-eq_default}
use Rattle.field.specs.Curve.{IsShort}
use Rattle.field.specs.Inner.Halves.{half_of}
use Rattle.field.proofs.Curves.{each_short}
use Rattle.field.proofs.Fields.{field_of}
use Rattle.poly.specs.Lists.{one_if}
use Rattle.poly.specs.Inner.Ranges.{writes}
use Rattle.poly.specs.Inner.Linear.{entry}
use Rattle.linear.specs.Inner.Combinations.{rows_from, Eliminated}
use Rattle.linear.specs.Inner.Eliminating.{marked, Masks}
use Rattle.poly.proofs.Writes.{length_writes, writes_in}
use Rattle.linear.proofs.Pivots.{eliminated_test}
use Rattle.recovery.specs.Inner.Gaps.{heavy}

-- all bits or none, by a test
pub mask_marked : (b : Bool) → not (eqb (255 * one_if b) 0) ≡ b
mask_marked true = refl
mask_marked false = refl

pub mask_of : (b : Bool) → (255 * one_if b ≡ 0) ⊎ (255 * one_if b ≡ 255)
mask_of true = inr refl
mask_of false = inl refl

module _ (q m : ℕ) (high₀ high : List ℕ) (is : high ≡ writes high₀ (length high₀) (λ e. 255 * one_if (heavy q m e))) where
  pub high_long : length high ≡ length high₀
  high_long = ap length is ∙ length_writes high₀ _ (length high₀)

  heavy_marked : (i : ℕ) → i < length high₀ → marked high i ≡ heavy q m i
  heavy_marked i l =
      ap (λ (x : ℕ). not (eqb x 0)) (ap (λ (x : List ℕ). entry x i) is ∙ writes_in high₀ _ (length high₀) i l (omega arith))
      ∙ mask_marked (heavy q m i)

  pub heavy_masks : Masks high
  heavy_masks i = elim (dec_lt i (length high₀)) [
    | yes l ↦ rw (ap (λ (x : List ℕ). entry x i) is ∙ writes_in high₀ _ (length high₀) i l (omega arith)) (mask_of (heavy q m i))
    | no d ↦ inl (get_or-eq_default high 0 {n = i} (omega (arith, high_long)))
  ]

  -- so elimination by the marks is elimination at the entries of a weight above m
  pub heavy_eliminated : (count : ℕ) (vectors grid after left : List ℕ) (r : ℕ)
      → Eliminated (field_of q) (marked high) (length high) count (rows_from (length high) 0 vectors grid) count r
      (rows_from (length high) count after left)
      → Eliminated (field_of q) (heavy q m) (length high₀) count (rows_from (length high₀) 0 vectors grid) count r (rows_from (length high₀) count after left)
  heavy_eliminated count vectors grid after left r h =
      let n = length high₀ in
      eliminated_test (field_of q) (marked high) (heavy q m) n heavy_marked count (rows_from n 0 vectors grid) count r (rows_from n count after left)
      (subst (λ (n : ℕ). Eliminated (field_of q) (marked high) n count (rows_from n 0 vectors grid) count r (rows_from n count after left)) high_long h)

pub short_half : (q : ℕ) → IsShort q → 64 * half_of q ≤ 256
short_half = each_short (λ q. 64 * half_of q ≤ 256) (omega arith) (omega arith)
