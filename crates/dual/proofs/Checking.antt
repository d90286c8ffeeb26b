-- The checks of the check: how the tests of the code decide them, and what it says that a call passes them.
-- Assumes nothing.
use mathlib.Core.Bool.{Bool, true, false, not}
use mathlib.Core.List.{List}
use mathlib.Core.Path.{◌≡◌, sym, ap, ◌∙◌, subst}
use Prim.Native.Nat.{ℕ, ◌-◌, ◌*◌, ◌≤◌, ◌<◌}
use native.Mathlib.Omega.{arith}
use borrow.Author.Tests.{lt-ltb, le-ltb, ltb-false, eq-eqb, ne_eqb, eqb-true, not-false}
use lib.Dec.{eqb, ltb}
use lib.ListN.{length, get_or}
use Rattle.field.specs.Curve.{is_curve, IsCurve, curve_of}
use Rattle.std.specs.Prelude.{Err}
use Rattle.field.specs.Outcomes.{Outcome, Done, number}
use Rattle.field.specs.declared.outcome.Refusal.TheVariants.{BadOrder, BadLength, LowOrder}
use Rattle.field.proofs.Curves.{each_curve, sizes, curve_true, curve_of_true}
use Rattle.field.proofs.Outcomes.{passed, row_not_done}
use Rattle.poly.specs.Messages.{Vector}
use Rattle.points.specs.Series.{is_series, columns_of}
use Rattle.code.specs.Checks.{order_checks, value_check}
use Rattle.code.proofs.HighOrders.{order_high}
use Rattle.code.proofs.Inverse.{word_over}
use Rattle.code.proofs.Checks.{order_rest, order_passed, order_follows, value_rest, symbol_of_good}
use Rattle.code.specs.Inner.Readable.{WordOver}
use Rattle.dual.specs.Partner.{partner}
use Rattle.dual.specs.Checked.{is_orthogonal, check_checks, checked}
use Rattle.dual.proofs.PartnerWeights.{partner_order}
use Rattle.dual.proofs.PointSums.{all_columns, places}

pub genus_range : (q : ℕ) → IsCurve q → (1 ≤ (curve_of q).genus) × ((curve_of q).genus ≤ 28)
genus_range =
    each_curve (λ q. (1 ≤ (curve_of q).genus) × ((curve_of q).genus ≤ 28)) (omega arith, omega arith) (omega arith, omega arith) (omega arith, omega arith)

module _ (q series m : ℕ) (word : List ℕ) where
  -- what 1, 17 and 2 refuse
  pub refused_order : (o : Outcome) → o ≡ order_checks (is_curve q) q series m Done → eqb (number o) 0 ≡ false → o ≡ check_checks q series m word
  unfolding check_checks
  refused_order o e n = row_not_done (order_checks (is_curve q) q series m) (order_follows (is_curve q) q series m) o e _ n

  pub refused_high : IsCurve q → is_series series ≡ true → q * q * q ≤ m → check_checks q series m word ≡ Err BadOrder
  unfolding check_checks
  refused_high curve named h = order_high q series m named h (is_curve q) (curve_true q curve) _

  -- past them
  module _ (curve : IsCurve q) (named : is_series series ≡ true) (order : m < q * q * q) where
    pub refused_low : m < 2 * (curve_of q).genus - 1 → Err LowOrder ≡ check_checks q series m word
    unfolding check_checks
    refused_low l = sym (order_passed (is_curve q) q series m _ (curve_true q curve) named order ∙ rw (lt-ltb m (2 * (curve_of q).genus - 1) l))

    module _ (high : 2 * (curve_of q).genus - 1 ≤ m) where
      pub refused_length : (length word ≡ q * q * q → ⊥) → Err BadLength ≡ check_checks q series m word
      unfolding check_checks
      refused_length d =
          sym (order_passed (is_curve q) q series m _ (curve_true q curve) named order
          ∙ rw (le-ltb m (2 * (curve_of q).genus - 1) high, ne_eqb (length word) (q * q * q) d))

      -- the values decide
      pub values_decide : length word ≡ q * q * q → (o : Outcome) → o ≡ value_check false (q * q) word Done → o ≡ check_checks q series m word
      unfolding check_checks
      values_decide e o is_o =
          is_o
          ∙ sym (order_passed (is_curve q) q series m _ (curve_true q curve) named order
          ∙ rw (le-ltb m (2 * (curve_of q).genus - 1) high, eq-eqb (length word) (q * q * q) e))

  -- what it says that a call passes all of these
  pub record Passed : Type 0 where
    pub curve : IsCurve q
    pub named : is_series series ≡ true
    pub order : m < q * q * q
    pub high : 2 * (curve_of q).genus - 1 ≤ m
    pub vector : Vector (q * q) (q * q * q) word

  pub checks_passed : check_checks q series m word ≡ Done → Passed
  unfolding check_checks
  checks_passed e =
      let (taken, order, rest, named) = order_rest (is_curve q) q series m _ e in
      let (low, e1) = passed (ltb m (2 * (curve_of q).genus - 1)) _ LowOrder rest in
      let (length_is, e2) = passed (not (eqb (length word) (q * q * q))) _ BadLength e1 in
      let long = eqb-true (length word) (q * q * q) (not-false (eqb (length word) (q * q * q)) length_is) in
      let (good, _) = value_rest false (q * q) word Done e2 in
      record {
        curve = curve_of_true q taken;
        named = named;
        order = order;
        high = ltb-false m (2 * (curve_of q).genus - 1) low;
        vector = record { len = long; small = λ i l. symbol_of_good (q * q) (get_or word i 0) (good i (omega arith)) };
      }

  -- the word, and the partner order
  module _ (h : Passed) where
    pub passed_word : WordOver q (columns_of q series) word
    passed_word =
        let f = all_columns q series h.curve in
        let n = places q (columns_of q series) f in
        word_over q (columns_of q series) f.over m (omega (arith, h.order, n)) word (subst (λ (k : ℕ). Vector (q * q) k word) (sym n) h.vector)

    pub passed_partner : partner q m < 512
    passed_partner =
        let (_, below, _) = partner_order q (sizes q h.curve).low m h.high h.order in
        omega (arith, below, (sizes q h.curve).points)

  -- what is said
  pub says_no : (o : Outcome) → o ≡ check_checks q series m word → eqb (number o) 0 ≡ false → record { codeword = false; outcome = o } ≡ checked q series m word
  unfolding checked
  says_no o e n = rw (← e, n)

  pub says : check_checks q series m word ≡ Done → (b : Bool) → b ≡ is_orthogonal q (columns_of q series) (partner q m) word
      → record { codeword = b; outcome = Done } ≡ checked q series m word
  unfolding checked
  says e b is_b = rw (e, is_b)
