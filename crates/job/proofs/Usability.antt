-- The tests of a job of any bytes say that it may be carried on.
-- Assumes nothing.
use mathlib.Core.Bool.{Bool, true, false, cond, false≢true}
use mathlib.Core.List.{List, [], ◌∷◌}
use mathlib.Core.Logic.{◌↔◌}
use mathlib.Core.Path.{◌≡◌, refl, sym, ap, ap₂, ◌∙◌, subst}
use Prim.Native.Nat.{ℕ, suc, ◌*◌, ◌≤◌, ◌<◌}
use native.Mathlib.Omega.{arith}
use borrow.Author.Tests.{eq-eqb, eqb-true}
use lib.Dec.{T, eqb}
use lib.ListN.{length, get_or, take}
use lib.Seq.{length-take-le}
use Rattle.field.specs.Curve.{IsCurve, is_short}
use Rattle.field.specs.Outcomes.{Outcome, Done, number}
use Rattle.field.specs.Values.{bad_value, first_bad}
use Rattle.field.proofs.Curves.{sizes, short_true}
use Rattle.field.proofs.Fields.{field_of}
use Rattle.field.proofs.Outcomes.{done_or_not}
use Rattle.field.proofs.Values.{all_good, none_found, symbol_of_good, good_symbol}
use Rattle.poly.specs.Messages.{Vector}
use Rattle.linear.specs.Inner.Systems.{WellFormed}
use Rattle.poly.proofs.Bools.{T_true}
use Rattle.code.specs.Terms.{size}
use Rattle.code.specs.Checks.{call_checks}
use Rattle.job.specs.Opened.{open_checks}
use Rattle.job.specs.Inner.Formed.{well_formed}
use Rattle.job.specs.Inner.Bringing.{Usable, Tested}
use Rattle.job.proofs.Formed.{formed_curve}
use Rattle.job.proofs.Openings.{open_block}

-- ---- what a job holds besides its word

-- the search finds at most the length
found_within : (bad : ℕ → Bool) (list : List ℕ) → first_bad bad list ≤ length list
unfolding first_bad
found_within bad [] = omega arith
found_within bad (x ∷ xs) = go (bad x) (found_within bad xs)
  where
    go : (b : Bool) → first_bad bad xs ≤ length xs → cond b 0 (suc (first_bad bad xs)) ≤ suc (length xs)
    go true h = omega arith
    go false h = omega arith

-- the first k values are symbols where it finds k
module _ (q : ℕ) (curve : IsCurve q) (k : ℕ) (values : List ℕ) (fits : k ≤ length values) (w : ℕ)
    (f : w ≡ first_bad (bad_value false (q * q)) (take k values)) where
  long : length (take k values) ≡ k
  long = length-take-le k values fits

  vector_found : (eqb w k ≡ true) ↔ Vector (field_of q).size k (take k values)
  vector_found = (
    λ e. record {
      len = long;
      small = λ i l.
          rw (sizes q curve).size
          (symbol_of_good (q * q) (get_or (take k values) i 0)
          (all_good (bad_value false (q * q)) (take k values) (omega (arith, long, f, eqb-true w k e)) i (omega (arith, long))));
    },
    λ h.
        let none = none_found (bad_value false (q * q)) (take k values)
        (λ i l. good_symbol false (q * q) (get_or (take k values) i 0)
        (subst (λ (Q : ℕ). get_or (take k values) i 0 < Q) (sizes q curve).size (h.small i (omega (arith, long))))) in
        eq-eqb w k (omega (arith, long, f, none, found_within (bad_value false (q * q)) (take k values))),
  )

module _ (q m : ℕ) (work candidate : List ℕ) where
  pub usable_clash : (complete clash : Bool) → clash ≡ true → (true ≡ true) ↔ Usable q m work candidate complete clash
  usable_clash complete true e = (λ t. tt, λ u. refl)
  usable_clash complete false e = absurd (false≢true e)

  usable_by : (complete clash t : Bool) → complete ≡ true → clash ≡ false → (t ≡ true) ↔ Vector (field_of q).size (size q m) candidate
      → (t ≡ true) ↔ Usable q m work candidate complete clash
  usable_by true false t d e h = h
  usable_by false false t d e h = absurd (false≢true d)
  usable_by complete true t d e h = absurd (false≢true (sym e))

  usable_work : (complete clash t : Bool) → complete ≡ false → clash ≡ false → (t ≡ true) ↔ WellFormed (field_of q) 64 (size q m) work
      → (t ≡ true) ↔ Usable q m work candidate complete clash
  usable_work false false t d e h = h
  usable_work true false t d e h = absurd (false≢true (sym d))
  usable_work complete true t d e h = absurd (false≢true (sym e))

module _ (q : ℕ) (curve : IsCurve q) (k m : ℕ) (is_size : k ≡ size q m) (work candidate : List ℕ) (complete clash : Bool) where
  -- w is what the search found
  pub usable_complete : clash ≡ false → complete ≡ true → k ≤ length candidate → (w : ℕ) → w ≡ first_bad (bad_value false (q * q)) (take k candidate)
      → (eqb w k ≡ true) ↔ Usable q m work (take k candidate) complete clash
  usable_complete e d fits w f =
      usable_by q m work (take k candidate) complete clash (eqb w k) d e
      (subst (λ (n : ℕ). (eqb w k ≡ true) ↔ Vector (field_of q).size n (take k candidate)) is_size (vector_found q curve k candidate fits w f))

  -- t is what the test of the work slice said
  pub usable_system : clash ≡ false → complete ≡ false → (t : Bool) → t ≡ well_formed (q * q) 64 k work
      → (t ≡ true) ↔ Usable q m work (take k candidate) complete clash
  usable_system e d t f =
      let h = formed_curve q curve 64 k work in
      usable_work q m work (take k candidate) complete clash t d e
      (subst (λ (n : ℕ). (t ≡ true) ↔ WellFormed (field_of q) 64 n work) is_size
      (λ s. h.0 (subst T (sym s ∙ f) tt), λ s. f ∙ T_true (well_formed (q * q) 64 k work) (h.1 s)))

-- ---- all tests

-- checks 1, 17 and 2 to 4 are those of a call with room for k
pub opening_asked : (q series m : ℕ) (word : List ℕ) (o : Outcome) (taken : Bool) (k : ℕ) → o ≡ call_checks taken true true q series m word k Done → taken ≡ is_short q
    → k ≡ size q m → o ≡ open_checks q series m word
opening_asked q series m word o taken k f t e = f ∙ ap₂ (λ (b : Bool) (n : ℕ). call_checks b true true q series m word n Done) t e

module _ (q series m : ℕ) (places : List ℕ) (next : ℕ) (work candidate : List ℕ) (complete clash : Bool) where
  abbrev All : Type 0
  All = Tested q series m places next work candidate complete clash

  fails : (All → ⊥) → (false ≡ true) ↔ All
  fails n = (λ e. absurd (false≢true e), λ h. absurd (n h))

  pub tested_curve : is_short q ≡ false → (false ≡ true) ↔ All
  tested_curve e = fails (λ h. false≢true (sym e ∙ short_true q (open_block q series m (take (q * q * q) places) h.passes)))

  -- n is the length of the word, and o what the checks said
  module _ (n : ℕ) (is_points : n ≡ q * q * q) (o : Outcome) (f : o ≡ open_checks q series m (take n places)) where
    said : open_checks q series m (take (q * q * q) places) ≡ o
    said = sym (f ∙ ap (λ (x : ℕ). open_checks q series m (take x places)) is_points)

    pub tested_refused : eqb (number o) 0 ≡ false → (false ≡ true) ↔ All
    tested_refused r = fails (λ h. done_or_not o (sym said ∙ h.passes) r)

    pub tested_beyond : n < next → (false ≡ true) ↔ All
    tested_beyond l = fails (λ h. omega (arith, is_points, h.within))

    pub tested_all : o ≡ Done → next ≤ n → (k : ℕ) → k ≡ size q m → (t : Bool) → (t ≡ true) ↔ Usable q m work (take k candidate) complete clash
        → (t ≡ true) ↔ All
    tested_all d l k e t u =
        let v = subst (λ (x : ℕ). (t ≡ true) ↔ Usable q m work (take x candidate) complete clash) e u in
        (λ s. record { passes = said ∙ d; within = omega arith; usable = v.0 s }, λ h. v.1 h.usable)
