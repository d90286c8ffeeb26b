-- The word with 0 at the gaps of a broken one, and its grid in the front of zeros.
-- Assumes nothing.
use mathlib.Core.List.{List}
use mathlib.Core.Logic.{◌⊎◌, inl, inr}
use mathlib.Core.Path.{◌≡◌, ap, ◌∙◌}
use Prim.Native.Nat.{ℕ, ◌+◌, ◌*◌, ◌<◌}
use native.Mathlib.Decide.{ℕ_discrete, dec_lt}
use native.Mathlib.Omega.{arith}
use borrow.Author.Tests.{eq-eqb, ne_eqb}
use lib.ListN.{length, get_or, get_or-eq_default}
use Rattle.field.proofs.FieldLaws.{zero_lt}
use Rattle.field.proofs.Fields.{field_of}
use Rattle.poly.specs.Inner.Ranges.{writes}
use Rattle.poly.proofs.Writes.{length_writes, writes_in}
use Rattle.poly.proofs.Interleaving.{place_lt}
use Rattle.code.specs.Inner.Readable.{WordOver, GridInFront}
use Rattle.code.specs.Inner.Recovering.{BrokenOver}
use Rattle.recovery.specs.Inner.Gaps.{known, KnownGrid}

module _ (q : ℕ) (columns word : List ℕ) (h : BrokenOver q columns 0 word) where
  pub known_lt : (p : ℕ) → p < length word → known word p < (field_of q).size
  known_lt p l =
      elim (ℕ_discrete (get_or word p 0) 255) [
        | yes e ↦ rw (eq-eqb (get_or word p 0) 255 e) (zero_lt (field_of q))
        | no d ↦ rw (ne_eqb (get_or word p 0) 255 d) (symbol p (h.value p l) d)
      ]
    where
      symbol : (p : ℕ) → (get_or word p 0 ≡ 255) ⊎ (get_or word p 0 < (field_of q).size) → (get_or word p 0 ≡ 255 → ⊥) → get_or word p 0 < (field_of q).size
      symbol p (inl e) d = absurd (d e)
      symbol p (inr l) d = l

  -- the word with 0 at the gaps
  module _ (filled₀ filled : List ℕ) (room : length filled₀ ≡ length word) (is : filled ≡ writes filled₀ (length word) (known word)) where
    filled_long : length filled ≡ length word
    filled_long = ap length is ∙ length_writes _ _ (length word) ∙ room

    filled_at : (p : ℕ) → p < length word → get_or filled p 0 ≡ known word p
    filled_at p l = ap (λ (x : List ℕ). get_or x p 0) is ∙ writes_in _ _ (length word) p l (omega arith)

    pub filled_over : WordOver q columns filled
    filled_over =
        record {
          over = h.over;
          few = h.few;
          long = filled_long ∙ h.long;
          symbols = λ p. elim (dec_lt p (length word)) [
            | yes l ↦ rw (filled_at p l) (known_lt p l)
            | no d ↦ rw (get_or-eq_default filled 0 {n = p} (omega (arith, filled_long))) (zero_lt (field_of q))
          ];
        }

    -- its grid is that of the broken word
    pub known_grid : (grid : List ℕ) → GridInFront q columns filled grid → KnownGrid q columns word grid
    known_grid grid g =
        record {
          symbols = g.symbols;
          at = λ t s k l. g.is t s k l ∙ filled_at (q * t + s) (omega (arith, h.long, place_lt q t s (length columns) l k));
          zeros = g.zeros;
        }
