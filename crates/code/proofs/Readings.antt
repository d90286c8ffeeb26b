-- What a reading says of the messages that fit: none, this one alone, or several, and how many.
-- Assumes nothing.
use mathlib.Core.Path.{◌≡◌, refl, sym, ap, ◌∙◌}
use mathlib.Core.Logic.{◌↔◌, inl, inr}
use mathlib.Core.List.Memᴰ.{head}
use mathlib.Core.List.Memᴰ.{tail}
use mathlib.Core.List.{List, [], ◌∷◌}
use mathlib.Core.List.Memᴰ.{eq_of_singleton}
use mathlib.Core.List.Memᴰ.{not-nil}
use Prim.Native.Nat.{ℕ, ◌^◌, ◌<◌}
use native.Mathlib.Omega.{arith}
use lib.ListN.{length}
use Rattle.poly.specs.Lists.{count}
use Rattle.poly.specs.Messages.{Vector, all}
use Rattle.poly.specs.Sets.{ListOf, Alone, TwoOrMore, Exactly}
use Rattle.linear.proofs.Elimination.{PowerOrNone}
use Rattle.poly.proofs.Filter.{mem_filter, of_mem_filter, nodup_filter, length_filter}
use Rattle.poly.proofs.Messages.{mem_all, of_mem_all, nodup_all}
use Rattle.poly.proofs.Sets.{same_length}
use Rattle.code.specs.Exponent.{exponent}
use Rattle.code.specs.Fitting.{fits, fitting}
use Rattle.code.specs.Recovered.{nothing, message, several, read, reading}
use Rattle.code.proofs.Fitting.{Fits, of_fits, to_fits}
use Rattle.code.proofs.Exponents.{exponent_power, lt_pow}

-- ---- what a list reads as: it has just the messages with the property Fit

pub none_listed : (Fit : List ℕ → Type 0) (l : List (List ℕ)) → ListOf Fit l → ((v : List ℕ) → Fit v → ⊥) → l ≡ []
none_listed Fit [] h none = refl
none_listed Fit (u ∷ l) h none = absurd (none u (h.sound u (head refl)))

module _ (Q : ℕ) (two_le : 1 < Q) (Fit : List ℕ → Type 0) where
  pub reads_nothing : (l : List (List ℕ)) → ListOf Fit l → (read Q l ≡ nothing) ↔ ((v : List ℕ) → Fit v → ⊥)
  unfolding read
  reads_nothing [] h = (λ e v k. not-nil (h.whole v k), λ k. refl)
  reads_nothing (u ∷ []) h =
      (λ e. let z : ◌≡◌ {A = ℕ} 0 1 = cc in absurd (omega arith), λ k. absurd (k u (h.sound u (head refl))))
  reads_nothing (u ∷ w ∷ l) h =
      (λ e. let z : ◌≡◌ {A = ℕ} 0 1 = cc in absurd (omega arith), λ k. absurd (k u (h.sound u (head refl))))

  pub reads_message : (l : List (List ℕ)) → ListOf Fit l → (v : List ℕ) → (read Q l ≡ message v) ↔ Alone Fit v
  unfolding read
  reads_message [] h v = (λ e. let z : ◌≡◌ {A = ℕ} 0 1 = cc in absurd (omega arith), λ k. absurd (not-nil (h.whole v k.has)))
  reads_message (u ∷ []) h v = (
    λ e. let s : u ≡ v = cc in record { has = h.sound v (head (sym s)); only = λ w k. eq_of_singleton (h.whole w k) ∙ s },
    λ k. ap message (k.only u (h.sound u (head refl))),
  )
  reads_message (u ∷ w ∷ l) h v = (
    λ e. let z : ◌≡◌ {A = ℕ} 0 1 = cc in absurd (omega arith),
    λ k. absurd (h.distinct.0 (head (k.only u (h.sound u (head refl)) ∙ sym (k.only w (h.sound w (tail (head refl))))))),
  )

  -- a power of Q has the exponent that `exponent` finds
  is_power : (n r : ℕ) → PowerOrNone Q n → 0 < n → exponent Q n ≡ r → n ≡ Q ^ r
  is_power n r (inl z) l e = absurd (omega arith)
  is_power n r (inr w) l e =
      w.1 ∙ ap (λ (s : ℕ). Q ^ s) (sym (exponent_power Q w.0 two_le) ∙ ap (exponent Q) (sym w.1) ∙ e)

  pub reads_several : (l : List (List ℕ)) → ListOf Fit l → PowerOrNone Q (length l)
      → (r : ℕ) → (read Q l ≡ several r) ↔ (TwoOrMore Fit × Exactly (Q ^ r) Fit)
  unfolding read
  reads_several [] h p r =
      (λ e. let z : ◌≡◌ {A = ℕ} 0 1 = cc in absurd (omega arith), λ k. absurd (not-nil (h.whole k.0.one k.0.one_has)))
  reads_several (u ∷ []) h p r = (
    λ e. let z : ◌≡◌ {A = ℕ} 0 1 = cc in absurd (omega arith),
    λ k. let two = k.0 in
        absurd (two.different
        (eq_of_singleton (h.whole two.one two.one_has) ∙ sym (eq_of_singleton (h.whole two.other two.other_has)))),
  )
  reads_several (u ∷ w ∷ l) h p r = (
    λ e. (
      record {
        one = u;
        other = w;
        one_has = h.sound u (head refl);
        other_has = h.sound w (tail (head refl));
        different = λ s. h.distinct.0 (head s);
      },
      record { list = u ∷ w ∷ l; lists = h; counted = is_power (length (u ∷ w ∷ l)) r p (omega arith) (cc) },
    ),
    λ k. let all_of_them = k.1 in
        let long = same_length Fit (u ∷ w ∷ l) all_of_them.list h all_of_them.lists ∙ all_of_them.counted in
        ap several (ap (exponent Q) long ∙ exponent_power Q r two_le),
  )

-- ---- the reading of a broken word, from what is known of the messages that fit it

module _ (Q k : ℕ) (word : List ℕ → List ℕ) (broken : List ℕ) where
  -- v is a message, and fits
  pub record Fitting (v : List ℕ) : Type 0 where
    pub vector : Vector Q k v
    pub fits : Fits word broken v

  pub fitting_list : ListOf Fitting (fitting Q k word broken)
  unfolding fitting
  fitting_list =
      record {
        distinct = nodup_filter (fits word broken) (all Q k) (nodup_all Q k);
        sound = λ v m. let w = of_mem_filter (fits word broken) v (all Q k) m in
            record { vector = of_mem_all Q k v w.0; fits = of_fits word broken v w.1 };
        whole = λ v h. mem_filter (fits word broken) v (all Q k) (mem_all Q k v h.vector) (to_fits word broken v h.fits);
      }

  pub length_fitting : length (fitting Q k word broken) ≡ count (fits word broken) (all Q k)
  unfolding fitting
  length_fitting = length_filter (fits word broken) (all Q k)

  module _ (two_le : 1 < Q) where
    pub reading_nothing : ((v : List ℕ) → Vector Q k v → Fits word broken v → ⊥) → reading Q k word broken ≡ nothing
    unfolding reading
    reading_nothing h = (reads_nothing Q two_le Fitting (fitting Q k word broken) fitting_list).1 (λ v a. h v a.vector a.fits)

    pub reading_message : (v : List ℕ) → Vector Q k v → Fits word broken v → ((w : List ℕ) → Vector Q k w → Fits word broken w → w ≡ v)
        → reading Q k word broken ≡ message v
    unfolding reading
    reading_message v a b u =
        (reads_message Q two_le Fitting (fitting Q k word broken) fitting_list v).1
        (record { has = record { vector = a; fits = b }; only = λ w h. u w h.vector h.fits })

    reads : (l : List (List ℕ)) (r : ℕ) → 1 < length l → length l ≡ Q ^ r → read Q l ≡ several r
    unfolding read
    reads [] r h e = absurd (omega arith)
    reads (u ∷ []) r h e = absurd (omega arith)
    reads (u ∷ w ∷ l) r h e = ap several (ap (exponent Q) e ∙ exponent_power Q r two_le)

    pub reading_several : (r : ℕ) → 0 < r → count (fits word broken) (all Q k) ≡ Q ^ r → reading Q k word broken ≡ several r
    unfolding reading
    reading_several r l e =
        let f : length (fitting Q k word broken) ≡ Q ^ r = length_fitting ∙ e in
        reads (fitting Q k word broken) r (omega (arith, f, lt_pow Q r two_le)) f
