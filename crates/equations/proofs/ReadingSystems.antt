-- Where the equations of a broken word leave rows out, several messages fit it.
-- Assumes nothing.
use mathlib.Core.List.{List}
use mathlib.Core.Path.{◌≡◌, sym, ap, ◌∙◌}
use Prim.Native.Nat.{ℕ, ◌-◌, ◌^◌, ◌<◌}
use native.Mathlib.Omega.{arith}
use lib.ListN.{length}
use Rattle.field.proofs.Fields.{field_of}
use Rattle.poly.specs.Inner.Linear.{entry}
use Rattle.linear.specs.Inner.Systems.{flat}
use Rattle.linear.proofs.Solutions.{solutions_by}
use Rattle.linear.proofs.WellFormed.{triangular}
use Rattle.code.specs.Terms.{size}
use Rattle.code.specs.Word.{word_of}
use Rattle.code.specs.Fitting.{fits}
use Rattle.code.specs.Recovered.{reading, several}
use Rattle.code.specs.Inner.Recovering.{BrokenOver}
use Rattle.code.proofs.Rows.{word_dot}
use Rattle.code.proofs.Fitting.{Fits, of_fits, to_fits}
use Rattle.code.proofs.Readings.{reading_several}
use Rattle.equations.specs.Inner.Collecting.{FitsBelow, Collected}

module _ (q : ℕ) (columns : List ℕ) (m : ℕ) (word : List ℕ) (h : BrokenOver q columns m word) where
  fits_below : (v : List ℕ) → Fits (word_of q columns m) word v → FitsBelow q columns m word (length word) (entry v)
  fits_below v f = record { at = λ p l d. sym (word_dot q columns h.over m v p (omega (arith, h.long))) ∙ f.at p l d }

  below_fits : (v : List ℕ) → FitsBelow q columns m word (length word) (entry v) → Fits (word_of q columns m) word v
  below_fits v f = record { at = λ p l d. word_dot q columns h.over m v p (omega (arith, h.long)) ∙ f.at p l d }

  -- rows are missing from the equations of all symbols
  pub missing_several : (work : List ℕ) (r : ℕ) → Collected q columns m word work (length word) r → r < size q m
      → reading (field_of q).size (size q m) (word_of q columns m) word ≡ several (size q m - r)
  missing_several work r c l =
      reading_several (field_of q).size (size q m) (word_of q columns m) word (field_of q).two_le (size q m - r) (omega arith)
      (solutions_by (field_of q) (flat 64 (size q m) work) (size q m) (triangular (field_of q) 64 (size q m) work c.formed)
      (fits (word_of q columns m) word)
      (λ v vector. (
        λ t. (c.same (entry v)).0 (fits_below v (of_fits (word_of q columns m) word v t)),
        λ s. to_fits (word_of q columns m) word v (below_fits v ((c.same (entry v)).1 s)),
      ))
      ∙ ap (λ (x : ℕ). (field_of q).size ^ (size q m - x)) (sym c.ranked))
