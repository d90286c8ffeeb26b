-- How many messages a reply speaks of: those that fit the symbols brought in.
-- Assumes nothing.
use mathlib.Core.List.Memᴰ.{head}
use mathlib.Core.List.Memᴰ.{not-nil}
use mathlib.Core.List.{List, [], ◌∷◌}
use mathlib.Core.Logic.{inl, inr, ⊎_elim, ◌↔◌}
use mathlib.Core.Path.{◌≡◌, refl, sym, ap, ◌∙◌}
use Prim.Native.Nat.{ℕ, ◌*◌, ◌^◌, ◌<◌}
use native.Mathlib.Nat.{pow-zero, one-le-pow}
use native.Mathlib.Decide.{dec_lt}
use native.Mathlib.Omega.{arith}
use lib.ListN.{length, take}
use Rattle.field.specs.Curve.{IsCurve}
use Rattle.field.proofs.Curves.{sizes, two_symbols}
use Rattle.poly.specs.Sets.{ListOf, Exactly}
use Rattle.poly.proofs.Sets.{same_length, list_iff}
use Rattle.linear.proofs.Elimination.{PowerOrNone}
use Rattle.points.specs.Series.{columns_of}
use Rattle.points.proofs.Series.{full_places}
use Rattle.code.specs.Terms.{size}
use Rattle.code.specs.Word.{word_of}
use Rattle.code.specs.Exponent.{exponent}
use Rattle.code.specs.Fitting.{fitting}
use Rattle.code.specs.Inner.Recovering.{BrokenOver}
use Rattle.code.specs.Recovered.{read, reading}
use Rattle.code.proofs.Exponents.{exponent_power}
use Rattle.code.proofs.Facts.{Broken, facts}
use Rattle.code.proofs.Readings.{Fitting, fitting_list, length_fitting}
use Rattle.code.proofs.Recoveries.{reading_of}
use Rattle.job.specs.declared.Reply.TheVariants.{NoneFits, Leaves}
use Rattle.job.specs.Symbols.{arrived_in, brought_in}
use Rattle.job.specs.Carried.{leaves}
use Rattle.job.specs.Claim.{FitsLowest}
use Rattle.job.proofs.Symbols.{length_brought, brought_low, brought_high, brought_value}

-- ---- "'none' if no message fits them, else the r, which may be 0, for which Q to the power r fit"

module _ (Q : ℕ) (two_le : 1 < Q) (Fit : List ℕ → Type 0) where
  leaves_none : (l : List (List ℕ)) → ListOf Fit l → (leaves (read Q l) ≡ NoneFits) ↔ ((v : List ℕ) → Fit v → ⊥)
  unfolding read leaves
  leaves_none [] h = (λ e v k. not-nil (h.whole v k), λ k. refl)
  leaves_none (u ∷ []) h = (λ e. let z : ◌≡◌ {A = ℕ} 0 1 = cc in absurd (omega arith), λ k. absurd (k u (h.sound u (head refl))))
  leaves_none (u ∷ w ∷ l) h = (λ e. let z : ◌≡◌ {A = ℕ} 0 1 = cc in absurd (omega arith), λ k. absurd (k u (h.sound u (head refl))))

  is_power : (n r : ℕ) → PowerOrNone Q n → 0 < n → exponent Q n ≡ r → n ≡ Q ^ r
  is_power n r (inl z) l e = absurd (omega arith)
  is_power n r (inr w) l e =
      w.1 ∙ ap (λ (s : ℕ). Q ^ s) (sym (exponent_power Q w.0 two_le) ∙ ap (exponent Q) (sym w.1) ∙ e)

  leaves_count : (l : List (List ℕ)) → ListOf Fit l → PowerOrNone Q (length l) → (r : ℕ) → (leaves (read Q l) ≡ Leaves r) ↔ Exactly (Q ^ r) Fit
  unfolding read leaves
  leaves_count [] h p r = (
    λ e. let z : ◌≡◌ {A = ℕ} 0 1 = cc in absurd (omega arith),
    λ k. absurd (omega (arith, same_length Fit [] k.list h k.lists, k.counted, one-le-pow r Q (omega arith))),
  )
  leaves_count (u ∷ []) h p r = (
    λ e. let z : 0 ≡ r = cc in record { list = u ∷ []; lists = h; counted = sym (pow-zero Q) ∙ ap (λ (s : ℕ). Q ^ s) z },
    λ k.
        let c : 1 ≡ Q ^ r = same_length Fit (u ∷ []) k.list h k.lists ∙ k.counted in
        ap Leaves (sym (exponent_power Q 0 two_le) ∙ ap (exponent Q) (pow-zero Q ∙ c) ∙ exponent_power Q r two_le),
  )
  leaves_count (u ∷ w ∷ l) h p r = (
    λ e. record { list = u ∷ w ∷ l; lists = h; counted = is_power (length (u ∷ w ∷ l)) r p (omega arith) (cc) },
    λ k.
        let c = same_length Fit (u ∷ w ∷ l) k.list h k.lists ∙ k.counted in
        ap Leaves (ap (exponent Q) c ∙ exponent_power Q r two_le),
  )

module _ (q series m : ℕ) (curve : IsCurve q) (word : List ℕ) (h : BrokenOver q (columns_of q series) m word) (n : ℕ) where
  abbrev word_from : List ℕ → List ℕ
  word_from = word_of q (columns_of q series) m

  abbrev fit : List (List ℕ)
  fit = fitting (q * q) (size q m) word_from (brought_in word n)

  fits_iff : (v : List ℕ) → Fitting (q * q) (size q m) word_from (brought_in word n) v ↔ FitsLowest q series m word n v
  fits_iff v = (
    λ f. record {
      symbols = f.vector;
      agree = λ p l d b.
          let e = brought_low word n p l b in
          f.fits.at p (omega (arith, length_brought word n)) (λ x. d (sym e ∙ x)) ∙ e;
    },
    λ f. record {
      vector = f.symbols;
      fits = record {
        at = λ p l d.
            let b : p < length word = omega (arith, length_brought word n) in
            elim (dec_lt (arrived_in (take p word)) n) [
              | yes k ↦ let e = brought_low word n p b k in f.agree p b (λ x. d (e ∙ x)) k ∙ sym e
              | no k ↦ absurd (d (brought_high word n p b (omega arith)))
            ];
      };
    },
  )

  fit_list : ListOf (FitsLowest q series m word n) fit
  fit_list =
      list_iff (Fitting (q * q) (size q m) word_from (brought_in word n)) (FitsLowest q series m word n) fit fits_iff
      (fitting_list (q * q) (size q m) word_from (brought_in word n))

  broken : Broken q (brought_in word n)
  broken =
      record {
        len = length_brought word n ∙ h.long ∙ full_places q series curve;
        value = λ p l.
            let b : p < length word = omega (arith, h.long, full_places q series curve) in
            ⊎_elim (λ e. inl e)
            (λ e. rw e (⊎_elim (λ g. inl g) (λ g. inr (omega (arith, (sizes q curve).size))) (h.value p b))) (brought_value word n p b);
      }

  pub says_none : (leaves (reading_of q series m (brought_in word n)) ≡ NoneFits) ↔ ((v : List ℕ) → FitsLowest q series m word n v → ⊥)
  unfolding reading
  says_none = leaves_none (q * q) (two_symbols q curve) (FitsLowest q series m word n) fit fit_list

  pub says_left : (r : ℕ) → (leaves (reading_of q series m (brought_in word n)) ≡ Leaves r) ↔ Exactly ((q * q) ^ r) (FitsLowest q series m word n)
  unfolding reading
  says_left =
      leaves_count (q * q) (two_symbols q curve) (FitsLowest q series m word n) fit fit_list
      (rw (length_fitting (q * q) (size q m) word_from (brought_in word n)) ((facts q series m curve).power (brought_in word n) broken))
