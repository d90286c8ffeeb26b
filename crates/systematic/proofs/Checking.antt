-- How the tests of the code decide the checks of a call, and what it says that a call passes them.
-- Assumes nothing.
use mathlib.Core.Bool.{Bool, true, false, not}
use mathlib.Core.List.{List}
use mathlib.Core.Path.{◌≡◌, refl, sym, ap, ◌∙◌}
use Prim.Native.Nat.{ℕ, suc, ◌*◌, ◌≤◌, ◌<◌}
use native.Mathlib.Omega.{arith}
use borrow.Author.Tests.{not-false}
use lib.ListN.{get_or}
use Rattle.field.specs.Curve.{is_short, IsShort, curve_of}
use Rattle.std.specs.Prelude.{Err}
use Rattle.field.specs.Outcomes.{Outcome, Done, number}
use Rattle.field.specs.declared.curve.Curve.{Curve}
use Rattle.field.specs.declared.outcome.Refusal.TheVariants.{BadPlaces}
use Rattle.field.proofs.Curves.{short_true, short_of_true, short_sizes}
use Rattle.field.proofs.Outcomes.{passed}
use Rattle.poly.specs.Messages.{Vector}
use Rattle.points.specs.Series.{is_series}
use Rattle.points.proofs.Passing.{place_bound}
use Rattle.code.specs.Terms.{is_term, size}
use Rattle.code.specs.Checks.{order_checks, slice_checks}
use Rattle.code.proofs.Answers.{Refused, order_refused}
use Rattle.code.proofs.Checks.{order_rest, order_passed, slices_done, symbol_of_good}
use Rattle.systematic.specs.Places.{good_places}
use Rattle.systematic.specs.EncodedAt.{encode_at_checks}
use Rattle.systematic.proofs.PlaceLists.{Places, of_good}

-- k is no more than the places
pub size_room : (q : ℕ) → IsShort q → (m : ℕ) → m < q * q * q → size q m ≤ 64
size_room q short m order = omega (arith, place_bound (is_term q) (suc m), (short_sizes q short).points)

module _ (q series m : ℕ) (places symbols : List ℕ) (room : ℕ) where
  -- a refusal by 1, 17 and 2 is the call's
  pub refused_order : (o : Outcome) → o ≡ order_checks (is_short q) q series m Done → Refused o → o ≡ encode_at_checks q series m places symbols room
  unfolding encode_at_checks
  refused_order o e r = order_refused (is_short q) q series m o e r _

  module _ (short : IsShort q) (named : is_series series ≡ true) (order : m < q * q * q) (v : Curve) (v_is : v ≡ curve_of q)
      (k : ℕ) (k_is : k ≡ size q m) (good : Bool) (good_is : good ≡ good_places k v.points places) where
    good_test : good_places (size q m) (q * q * q) places ≡ good
    good_test = sym (good_is ∙ rw (k_is, v_is) refl)

    pub refused_places : good ≡ false → Err BadPlaces ≡ encode_at_checks q series m places symbols room
    unfolding encode_at_checks
    refused_places e = sym (order_passed (is_short q) q series m _ (short_true q short) named order ∙ rw (good_test ∙ e))

    -- past 15 the others decide
    pub slices_decide : good ≡ true → (o : Outcome) → o ≡ slice_checks false v.symbols k symbols v.points room Done
        → o ≡ encode_at_checks q series m places symbols room
    unfolding encode_at_checks
    slices_decide e o is =
        let same : slice_checks false v.symbols k symbols v.points room Done ≡ slice_checks false (q * q) (size q m) symbols (q * q * q) room Done = rw (k_is, v_is) refl in
        is ∙ same ∙ sym (order_passed (is_short q) q series m _ (short_true q short) named order ∙ rw (good_test ∙ e))

  -- what it says that a call passes all checks but the last
  pub record Passed : Type 0 where
    pub short : IsShort q
    pub named : is_series series ≡ true
    pub order : m < q * q * q
    pub chosen : Places (size q m) (q * q * q) places
    pub message : Vector (q * q) (size q m) symbols
    pub fits : room ≡ q * q * q

  pub checks_passed : encode_at_checks q series m places symbols room ≡ Done → Passed
  unfolding encode_at_checks
  checks_passed e =
      let (taken, low, e1, named) = order_rest (is_short q) q series m _ e in
      let (good, e2) = passed (not (good_places (size q m) (q * q * q) places)) _ BadPlaces e1 in
      let a = slices_done false (q * q) (size q m) symbols (q * q * q) room e2 in
      record {
        short = short_of_true q taken;
        named = named;
        order = low;
        chosen = of_good (size q m) (q * q * q) places (rw (not-false (good_places (size q m) (q * q * q) places) good) tt);
        message = record { len = a.long; small = λ i l. symbol_of_good (q * q) (get_or symbols i 0) (a.good i (omega (arith, a.long))) };
        fits = a.fits;
      }
