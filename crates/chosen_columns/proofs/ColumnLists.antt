-- Lists of columns: what the test says of them, and how the tests of the code decide it.
-- Assumes nothing.
use mathlib.Core.Bool.{true, false, not}
use mathlib.Core.List.{List}
use mathlib.Core.Path.{◌≡◌, sym}
use Prim.Native.Nat.{ℕ, ◌*◌, ◌≤◌}
use native.Mathlib.Decide.{ℕ_discrete}
use native.Mathlib.Omega.{arith}
use borrow.Author.Tests.{ne_eqb, eq-eqb}
use lib.Dec.{T, eqb, T_not}
use lib.ListN.{length}
use Rattle.field.specs.Curve.{IsCurve}
use Rattle.field.proofs.Search.{both}
use Rattle.poly.specs.Ascending.{is_ascending_below}
use Rattle.poly.proofs.Ascending.{AscendingBelow, of_ascending, to_ascending, ascending_nodup}
use Rattle.poly.proofs.Bools.{T_true, parts, same_test}
use Rattle.points.specs.Passing.{up_to}
use Rattle.points.specs.Inner.Columns.{Columns}
use Rattle.points.proofs.ColumnPoints.{length_up_to}
use Rattle.points.proofs.Passing.{at_place, ascending}
use Rattle.chosen_columns.specs.ColumnLists.{is_column_list}

pub record ColumnList (Q : ℕ) (columns : List ℕ) : Type 0 where
  pub some : 1 ≤ length columns
  pub ascend : AscendingBelow Q columns

some_number : (n : ℕ) → T (not (eqb n 0)) → 1 ≤ n
some_number n t = elim (ℕ_discrete n 0) [ yes e ↦ absurd (T_not (eqb n 0) t (rw (eq-eqb n 0 e) tt)) | no d ↦ omega arith ]

module _ (Q : ℕ) (columns : List ℕ) where
  pub of_column_list : T (is_column_list Q columns) → ColumnList Q columns
  unfolding is_column_list
  of_column_list t =
      let (some, ascend) = parts (not (eqb (length columns) 0)) (is_ascending_below Q columns) t in
      record { some = some_number (length columns) some; ascend = of_ascending Q columns ascend }

  by_parts : 1 ≤ length columns → T (is_ascending_below Q columns) → T (is_column_list Q columns)
  unfolding is_column_list
  by_parts l t = both (not (eqb (length columns) 0)) (is_ascending_below Q columns) (rw (ne_eqb (length columns) 0 (omega arith)) tt) t

  pub to_column_list : ColumnList Q columns → T (is_column_list Q columns)
  to_column_list h = by_parts h.some (to_ascending Q columns h.ascend)

  -- ---- how the tests of the code decide it

  pub are_good : 1 ≤ length columns → T (is_ascending_below Q columns) → true ≡ is_column_list Q columns
  are_good l t = sym (T_true (is_column_list Q columns) (by_parts l t))

  pub none_given : length columns ≡ 0 → false ≡ is_column_list Q columns
  none_given e = same_test false (is_column_list Q columns) (λ t. absurd t) (λ t. absurd (omega (arith, (of_column_list t).some)))

  pub not_good : (T (is_ascending_below Q columns) → ⊥) → false ≡ is_column_list Q columns
  not_good d = same_test false (is_column_list Q columns) (λ t. absurd t) (λ t. absurd (d (to_ascending Q columns (of_column_list t).ascend)))

-- they are different columns of the curve
pub column_list_columns : (q : ℕ) (columns : List ℕ) → IsCurve q → ColumnList (q * q) columns → Columns q columns
column_list_columns q columns curve h =
    record { curve = curve; small = h.ascend.below; distinct = ascending_nodup (q * q) columns h.ascend }

-- all columns, ascending, are such a list
pub all_columns_list : (Q : ℕ) → 1 ≤ Q → ColumnList Q (up_to Q)
all_columns_list Q l =
    record {
      some = omega (arith, length_up_to Q);
      ascend = record { ascending = ascending (λ i. true) Q; below = λ i b. (at_place (λ i. true) Q i b).0 };
    }
