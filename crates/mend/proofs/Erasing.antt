-- The broken word of a locator: what encoding the locator and erasing leave, and that it can be recovered.
-- Assumes nothing.
use mathlib.Core.List.{List, ◌++◌}
use mathlib.Core.Logic.{◌⊎◌, inl, inr, ⊎_elim}
use mathlib.Core.Path.{◌≡◌, sym, ap, ◌∙◌, subst}
use Prim.Native.Nat.{ℕ, ◌*◌, ◌<◌}
use native.Mathlib.Decide.{ℕ_discrete}
use native.Mathlib.Omega.{arith}
use borrow.Author.Tests.{eq-eqb, ne_eqb}
use lib.ListN.{length, get_or, take}
use Rattle.field.proofs.Curves.{sizes, short_curve}
use Rattle.poly.specs.Inner.Ranges.{writes}
use Rattle.poly.proofs.Writes.{length_writes, writes_in}
use Rattle.poly.proofs.Fronts.{front_again}
use Rattle.points.specs.Series.{columns_of}
use Rattle.points.proofs.Series.{full_columns, length_columns, full_places}
use Rattle.code.specs.Word.{word_of}
use Rattle.code.specs.Inner.Encodable.{Encodable}
use Rattle.code.specs.Inner.Recovering.{BrokenOver}
use Rattle.code.proofs.FullColumns.{encodable}
use Rattle.code.proofs.Inverse.{message_accepted}
use Rattle.mend.specs.Inner.Locating.{symbol_at, reach, erased_at, Mendable, Locator, Erased}
use Rattle.mend.proofs.Dimensions.{reach_lt}

-- what a turn of erasing stores; now is what it reads of located
module _ (word located : List ℕ) (p now v : ℕ) (kept : now ≡ get_or located p 0) where
  pub erase_zero : now ≡ 0 → v ≡ 255 → v ≡ erased_at word located p
  erase_zero z e = e ∙ rw (eq-eqb (get_or located p 0) 0 (sym kept ∙ z))

  pub erase_other : (now ≡ 0 → ⊥) → v ≡ get_or word p 0 → v ≡ erased_at word located p
  erase_other d e = e ∙ rw (ne_eqb (get_or located p 0) 0 (λ z. d (kept ∙ z)))

-- erasing over the word of f
erased_written : (q series s : ℕ) (word f located broken : List ℕ) → length located ≡ q * q * q → located ≡ word_of q (columns_of q series) s f
    → broken ≡ writes located (q * q * q) (erased_at word located) → Erased q series s word f broken
erased_written q series s word f located broken l is e =
    record {
      long = ap length e ∙ length_writes located (erased_at word located) (q * q * q) ∙ l;
      missing = λ p k z. stands p k ∙ rw (eq-eqb (get_or located p 0) 0 (ap (λ (x : List ℕ). get_or x p 0) is ∙ z));
      kept = λ p k d. stands p k ∙ rw (ne_eqb (get_or located p 0) 0 (λ z. d (ap (λ (x : List ℕ). get_or x p 0) (sym is) ∙ z)));
    }
  where
    stands : (p : ℕ) → p < q * q * q → get_or broken p 0 ≡ erased_at word located p
    stands p k = ap (λ (x : List ℕ). get_or x p 0) e ∙ writes_in located (erased_at word located) (q * q * q) p k (omega arith)

module _ (q series m : ℕ) (word : List ℕ) (ok : Mendable q series m word) where
  -- a locator can be encoded
  pub locator_encodable : (s : ℕ) (f front : List ℕ) → s ≡ reach q m → Locator q series m word f → length front ≡ length word
      → Encodable q (columns_of q series) s f front
  locator_encodable s f front is loc long =
      let low = reach_lt q m ok.order in
      let curve = short_curve q ok.curve in
      subst (λ (s : ℕ). Encodable q (columns_of q series) s f front) (sym is)
      (encodable q series (reach q m) f front curve low
      (message_accepted q series (reach q m) curve ok.named low f front loc.vector (long ∙ ok.long)))

  -- it is encoded into the front of an array, and erased there
  pub erased_front : (s : ℕ) (f located rest broken : List ℕ) → s ≡ reach q m → length located ≡ length word
      → located ≡ word_of q (columns_of q series) s f
      → broken ≡ writes (take (length word) (located ++ rest)) (length word) (erased_at word (take (length word) (located ++ rest)))
      → Erased q series (reach q m) word f broken
  erased_front s f located rest broken is long encode erase =
      let lent = front_again (length word) located rest long in
      erased_written q series (reach q m) word f located broken (long ∙ ok.long) (encode ∙ ap (λ (x : ℕ). word_of q (columns_of q series) x f) is)
      (erase ∙ ap (λ (l : List ℕ). writes l (length word) (erased_at word l)) lent
      ∙ ap (λ (n : ℕ). writes located n (erased_at word located)) ok.long)

  module _ (s : ℕ) (f broken : List ℕ) (er : Erased q series s word f broken) where
    erased_value : (p : ℕ) → p < q * q * q → (get_or broken p 0 ≡ 255) ⊎ (get_or broken p 0 < q * q)
    erased_value p l = elim (ℕ_discrete (symbol_at q series s f p) 0) [
      | yes z ↦ inl (er.missing p l z)
      | no d ↦ inr (omega (arith, er.kept p l d, ok.symbols p l))
    ]

    -- so it can be recovered
    pub erased_broken : BrokenOver q (columns_of q series) m broken
    erased_broken =
        record {
          over = full_columns q series (short_curve q ok.curve);
          few = omega (arith, length_columns q series (short_curve q ok.curve));
          order = omega (arith, full_places q series (short_curve q ok.curve), ok.order);
          long = er.long ∙ sym (full_places q series (short_curve q ok.curve));
          value = λ p l. ⊎_elim inl (λ b. inr (omega (arith, (sizes q (short_curve q ok.curve)).size))) (erased_value p (omega (arith, er.long)));
        }
