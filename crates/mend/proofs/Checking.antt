-- How the tests of the code decide the checks of a call.
-- Assumes nothing.
use mathlib.Core.Bool.{true, false, not}
use mathlib.Core.List.{List}
use mathlib.Core.Path.{◌≡◌, sym, ap₂, ◌∙◌}
use Prim.Native.Nat.{ℕ, ◌-◌, ◌*◌, ◌≤◌, ◌<◌}
use borrow.Author.Tests.{lt-ltb, le-ltb, eq-eqb, ne_eqb}
use lib.Dec.{eqb}
use Rattle.field.specs.Curve.{is_short, IsShort, curve_of}
use Rattle.std.specs.Prelude.{Err}
use Rattle.field.specs.Outcomes.{Outcome, Done, refuse}
use Rattle.field.specs.declared.curve.Curve.{Curve}
use Rattle.field.specs.declared.outcome.Refusal.TheVariants.{BadRoom, NoRadius}
use Rattle.field.proofs.Curves.{short_true}
use Rattle.field.proofs.Outcomes.{row_refused, row_passed}
use Rattle.points.specs.Series.{is_series}
use Rattle.code.specs.Terms.{size}
use Rattle.code.specs.Checks.{order_checks, slice_checks}
use Rattle.code.proofs.Answers.{Refused, order_refused}
use Rattle.code.proofs.Checks.{order_passed, slices_follow}
use Rattle.mend.specs.Mended.{mend_checks}
use Rattle.mend.specs.Inner.Locating.{genus}

-- 3, 4 and 5 of the word and the message, by the numbers that the code has found
pub slices_of_curve : (q m : ℕ) (word : List ℕ) (message : ℕ) (v : Curve) → v ≡ curve_of q → (k : ℕ) → k ≡ size q m → (o : Outcome)
    → o ≡ slice_checks false v.symbols v.points word k message Done
    → o ≡ slice_checks false (q * q) (q * q * q) word (size q m) message Done
slices_of_curve q m word message v v_is k k_is o e =
    e ∙ ap₂ (λ (x : Curve) (n : ℕ). slice_checks false x.symbols x.points word n message Done) v_is k_is

module _ (q series m : ℕ) (word : List ℕ) (message codeword marks : ℕ) where
  -- a refusal by 1, 17 and 2 is the call's
  pub refused_order : (o : Outcome) → o ≡ order_checks (is_short q) q series m Done → Refused o → o ≡ mend_checks q series m word message codeword marks
  unfolding mend_checks
  refused_order o e r = order_refused (is_short q) q series m o e r _

  module _ (curve : IsShort q) (named : is_series series ≡ true) (order : m < q * q * q) where
    pub refused_radius : q * q * q - m - 1 < genus q → Err NoRadius ≡ mend_checks q series m word message codeword marks
    unfolding mend_checks
    refused_radius l = sym (order_passed (is_short q) q series m _ (short_true q curve) named order ∙ rw (lt-ltb (q * q * q - m - 1) (genus q) l))

    abbrev row : Outcome → Outcome
    row = slice_checks false (q * q) (q * q * q) word (size q m) message

    abbrev last_room : Outcome
    last_room = refuse (not (eqb marks (q * q * q))) BadRoom Done

    abbrev rooms : Outcome
    rooms = refuse (not (eqb codeword (q * q * q))) BadRoom last_room

    -- past 12; o is what 3, 4 and 5 of the word and the message came to
    module _ (far : genus q ≤ q * q * q - m - 1) (o : Outcome) (e : o ≡ row Done) where
      past_radius : mend_checks q series m word message codeword marks ≡ row rooms
      unfolding mend_checks
      past_radius = order_passed (is_short q) q series m _ (short_true q curve) named order ∙ rw (le-ltb (q * q * q - m - 1) (genus q) far)

      pub refused_slices : Refused o → o ≡ mend_checks q series m word message codeword marks
      refused_slices r =
          row_refused row (slices_follow false (q * q) (q * q * q) word (size q m) message) o e rooms r ∙ sym past_radius

      module _ (d : o ≡ Done) where
        past_slices : mend_checks q series m word message codeword marks ≡ rooms
        past_slices = past_radius ∙ row_passed row (slices_follow false (q * q) (q * q * q) word (size q m) message) o e rooms d

        pub refused_codeword : (codeword ≡ q * q * q → ⊥) → Err BadRoom ≡ mend_checks q series m word message codeword marks
        refused_codeword n = sym (past_slices ∙ rw (ne_eqb codeword (q * q * q) n))

        pub refused_marks : codeword ≡ q * q * q → (marks ≡ q * q * q → ⊥) → Err BadRoom ≡ mend_checks q series m word message codeword marks
        refused_marks c n = sym (past_slices ∙ rw (eq-eqb codeword (q * q * q) c, ne_eqb marks (q * q * q) n))

        pub none_refused : codeword ≡ q * q * q → marks ≡ q * q * q → Done ≡ mend_checks q series m word message codeword marks
        none_refused c k = sym (past_slices ∙ rw (eq-eqb codeword (q * q * q) c, eq-eqb marks (q * q * q) k))
