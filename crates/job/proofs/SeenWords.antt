-- The word with only the symbols below a place, and what a job that holds them says of it.
-- Assumes nothing.
use mathlib.Core.List.{List}
use mathlib.Core.Logic.{inl, ⊎_elim}
use mathlib.Core.Path.{◌≡◌, sym, ◌∙◌, subst}
use Prim.Native.Nat.{ℕ, ◌-◌, ◌≤◌, ◌<◌}
use native.Mathlib.Decide.{dec_lt}
use native.Mathlib.Omega.{arith}
use lib.ListN.{length, take}
use Rattle.field.specs.Curve.{IsCurve}
use Rattle.field.proofs.Curves.{sizes}
use Rattle.field.proofs.Fields.{field_of}
use Rattle.poly.specs.Inner.Linear.{entry}
use Rattle.points.specs.Series.{columns_of}
use Rattle.code.specs.Terms.{size}
use Rattle.code.specs.Word.{word_of}
use Rattle.code.specs.Recovered.{Reading, nothing, message, several, reading}
use Rattle.code.specs.Inner.Recovering.{BrokenOver}
use Rattle.code.proofs.Fitting.{Fits}
use Rattle.code.proofs.Rows.{word_dot}
use Rattle.code.proofs.Readings.{reading_nothing, reading_message}
use Rattle.code.proofs.Recoveries.{reading_of}
use Rattle.equations.specs.Inner.Collecting.{FitsBelow, Collected}
use Rattle.equations.proofs.ReadingSystems.{missing_several}
use Rattle.job.specs.Symbols.{arrived_in, brought_in}
use Rattle.job.specs.Sound.{NoneBelow, OnlyBelow}
use Rattle.job.proofs.Symbols.{length_brought, brought_before, brought_after, brought_value}

module _ (q series m : ℕ) (word : List ℕ) (b : BrokenOver q (columns_of q series) m word) (p : ℕ) (within : p ≤ length word) where
  abbrev seen : List ℕ
  seen = brought_in word (arrived_in (take p word))

  long : length seen ≡ length word
  long = length_brought word (arrived_in (take p word))

  seen_broken : BrokenOver q (columns_of q series) m seen
  seen_broken =
      record {
        over = b.over;
        few = b.few;
        order = b.order;
        long = long ∙ b.long;
        value = λ i l.
            let k : i < length word = omega (arith, long) in
            ⊎_elim (λ e. inl e) (λ e. rw e (b.value i k)) (brought_value word (arrived_in (take p word)) i k);
      }

  to_seen : (v : ℕ → ℕ) → FitsBelow q (columns_of q series) m word p v → FitsBelow q (columns_of q series) m seen (length seen) v
  to_seen v f =
      record {
        at = λ i l n. elim (dec_lt i p) [
          | yes k ↦
              let e = brought_before word p within i k in f.at i k (λ g. n (e ∙ g)) ∙ sym e
          | no k ↦ absurd (n (brought_after word p within i (omega arith) (omega (arith, long))))
        ];
      }

  of_seen : (v : ℕ → ℕ) → FitsBelow q (columns_of q series) m seen (length seen) v → FitsBelow q (columns_of q series) m word p v
  of_seen v f =
      record {
        at = λ i l n.
            let e = brought_before word p within i l in f.at i (omega (arith, long)) (λ g. n (sym e ∙ g)) ∙ e;
      }

  -- a message fits it exactly where it fits the symbols below p
  fits_below : (v : List ℕ) → Fits (word_of q (columns_of q series) m) seen v → FitsBelow q (columns_of q series) m word p (entry v)
  fits_below v f =
      of_seen (entry v)
      (record { at = λ i l n. sym (word_dot q (columns_of q series) b.over m v i (omega (arith, long, b.long))) ∙ f.at i l n })

  below_fits : (v : List ℕ) → FitsBelow q (columns_of q series) m word p (entry v) → Fits (word_of q (columns_of q series) m) seen v
  below_fits v f =
      record { at = λ i l n. word_dot q (columns_of q series) b.over m v i (omega (arith, long, b.long)) ∙ (to_seen (entry v) f).at i l n }

  module _ (curve : IsCurve q) where
    abbrev left : ℕ → Reading
    left Q = reading Q (size q m) (word_of q (columns_of q series) m) seen

    -- "'none' if no message fits them"
    pub seen_none : NoneBelow q series m word p → reading_of q series m seen ≡ nothing
    seen_none h =
        subst (λ (Q : ℕ). left Q ≡ nothing) (sizes q curve).size
        (reading_nothing (field_of q).size (size q m) (word_of q (columns_of q series) m) seen (field_of q).two_le (λ v vector f. h v vector (fits_below v f)))

    -- the candidate alone fits them
    pub seen_only : (candidate whole : List ℕ) → OnlyBelow q series m word p candidate whole → reading_of q series m seen ≡ message candidate
    seen_only candidate whole h =
        subst (λ (Q : ℕ). left Q ≡ message candidate) (sizes q curve).size
        (reading_message (field_of q).size (size q m) (word_of q (columns_of q series) m) seen (field_of q).two_le candidate h.symbols
        (below_fits candidate h.fits) (λ v vector f. h.only v vector (fits_below v f)))

    -- rows are missing: Q^(k - r) messages fit them
    pub seen_several : (work : List ℕ) (r : ℕ) → Collected q (columns_of q series) m word work p r → r < size q m
        → reading_of q series m seen ≡ several (size q m - r)
    seen_several work r c l =
        subst (λ (Q : ℕ). left Q ≡ several (size q m - r)) (sizes q curve).size
        (missing_several q (columns_of q series) m seen seen_broken work r
        (record {
          formed = c.formed;
          ranked = c.ranked;
          same = λ v. (λ f. (c.same v).0 (of_seen v f), λ s. to_seen v ((c.same v).1 s));
        }) l)
