-- The checks of a call over chosen columns: how the tests of the code decide them, and what it says that a call passes them.
-- Assumes nothing.
use mathlib.Core.Bool.{Bool, true, false, not, cond}
use mathlib.Core.List.{List}
use mathlib.Core.Path.{◌≡◌, refl, ap, ◌∙◌}
use Prim.Native.Nat.{ℕ, ◌*◌, ◌≤◌, ◌<◌}
use native.Mathlib.Omega.{arith}
use borrow.Author.Tests.{lt-leb, le-leb, leb-false, not-false}
use lib.Dec.{leb}
use lib.ListN.{length}
use Rattle.field.specs.Curve.{is_short, IsShort, curve_of}
use Rattle.std.specs.Prelude.{Err}
use Rattle.field.specs.declared.curve.Curve.{Curve}
use Rattle.field.specs.Outcomes.{Outcome, Done, number}
use Rattle.field.specs.declared.outcome.Refusal.TheVariants.{BadCurve, BadColumns, BadOrder}
use Rattle.field.proofs.Curves.{short_curve, short_true, short_of_true}
use Rattle.field.proofs.Outcomes.{passed}
use Rattle.poly.proofs.Bools.{T_true}
use Rattle.points.specs.Inner.Columns.{Columns}
use Rattle.code.specs.Terms.{size}
use Rattle.code.specs.Checks.{slice_checks}
use Rattle.code.proofs.Checks.{Accepted, slices_done, slices_accepted}
use Rattle.chosen_columns.specs.ColumnLists.{is_column_list, on_checks}
use Rattle.chosen_columns.proofs.ColumnLists.{ColumnList, of_column_list, to_column_list, column_list_columns}

module _ (gaps decodes : Bool) (q : ℕ) (columns : List ℕ) (m : ℕ) (input : List ℕ) (room : ℕ) where
  abbrev checks : Outcome
  checks = on_checks gaps decodes q columns m input room

  pub refused_curve : not (is_short q) ≡ true → Err BadCurve ≡ checks
  unfolding on_checks
  refused_curve e = rw e

  module _ (short : not (is_short q) ≡ false) where
    pub refused_columns : not (is_column_list (q * q) columns) ≡ true → Err BadColumns ≡ checks
    unfolding on_checks
    refused_columns e = rw (short, e)

    module _ (good : not (is_column_list (q * q) columns) ≡ false) where
      pub refused_order : q * length columns ≤ m → Err BadOrder ≡ checks
      unfolding on_checks
      refused_order l = rw (short, good, le-leb (q * length columns) m l)

      -- past them the others decide
      module _ (low : m < q * length columns) (v : Curve) (v_is : v ≡ curve_of q) (k : ℕ) (k_is : k ≡ size q m) (o : Outcome) where
        pub decodes_decide : decodes ≡ true → o ≡ slice_checks gaps v.symbols (q * length columns) input k room Done → o ≡ checks
        unfolding on_checks
        decodes_decide d e =
            let same : slice_checks gaps v.symbols (q * length columns) input k room Done ≡ slice_checks gaps (q * q) (q * length columns) input (size q m) room Done
            = rw (v_is, k_is) refl in
            e ∙ same ∙ rw (short, good, lt-leb (q * length columns) m low, d)

        pub encodes_decide : decodes ≡ false → o ≡ slice_checks gaps v.symbols k input (q * length columns) room Done → o ≡ checks
        unfolding on_checks
        encodes_decide d e =
            let same : slice_checks gaps v.symbols k input (q * length columns) room Done ≡ slice_checks gaps (q * q) (size q m) input (q * length columns) room Done
            = rw (v_is, k_is) refl in
            e ∙ same ∙ rw (short, good, lt-leb (q * length columns) m low, d)

  -- what it says that a call passes all of these
  pub record Passed : Type 0 where
    pub short : IsShort q
    pub list : ColumnList (q * q) columns
    pub order : m < q * length columns
    pub accepted : Accepted gaps (q * q) (cond decodes (q * length columns) (size q m)) input (cond decodes (size q m) (q * length columns)) room

  pub checks_passed : checks ≡ Done → Passed
  unfolding on_checks
  checks_passed e =
      let (taken, e1) = passed (not (is_short q)) _ BadCurve e in
      let (good, e2) = passed (not (is_column_list (q * q) columns)) _ BadColumns e1 in
      let (low, e3) = passed (leb (q * length columns) m) _ BadOrder e2 in
      record {
        short = short_of_true q (not-false (is_short q) taken);
        list = of_column_list (q * q) columns (rw (not-false (is_column_list (q * q) columns) good) tt);
        order = leb-false (q * length columns) m low;
        accepted = slices_done gaps (q * q) (cond decodes (q * length columns) (size q m)) input (cond decodes (size q m) (q * length columns)) room e3;
      }

  -- and a call of which that is so
  pub passed_checks : Passed → checks ≡ Done
  unfolding on_checks
  passed_checks h =
      let list = T_true (is_column_list (q * q) columns) (to_column_list (q * q) columns h.list) in
      rw (short_true q h.short, list, lt-leb (q * length columns) m h.order) (slices_accepted gaps (q * q) _ input _ room Done h.accepted)

  -- the columns
  pub passed_columns : Passed → Columns q columns
  passed_columns h = column_list_columns q columns (short_curve q h.short) h.list
