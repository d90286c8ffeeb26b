-- "The full list gives what the plain calls give with series 1."
-- Assumes nothing.
use mathlib.Core.Bool.{Bool, true, false}
use mathlib.Core.List.{List}
use mathlib.Core.Path.{◌≡◌, sym, ap, ap₂, ◌∙◌}
use Prim.Native.Nat.{ℕ, ◌*◌}
use native.Mathlib.Omega.{arith}
use lib.ListN.{length}
use Rattle.field.specs.Curve.{is_curve, is_short, IsShort}
use Rattle.field.specs.Outcomes.{Outcome, Done}
use Rattle.field.proofs.Curves.{sizes, short_curve, short_true, curve_true, two_symbols}
use Rattle.poly.proofs.Bools.{T_true}
use Rattle.points.specs.Passing.{up_to}
use Rattle.points.specs.Series.{columns_of}
use Rattle.points.proofs.ColumnPoints.{length_up_to}
use Rattle.points.proofs.Series.{first_columns}
use Rattle.code.specs.Terms.{size}
use Rattle.code.specs.Word.{word_of}
use Rattle.code.specs.Fitting.{fitting}
use Rattle.code.specs.Answers.{answered, unless_refused}
use Rattle.code.specs.Checks.{curve_checks, order_checks, call_checks}
use Rattle.code.specs.Encoded.{encoded}
use Rattle.code.specs.Unencoded.{the_message, unencoded}
use Rattle.code.specs.Recovered.{reading, answer_of, recovered}
use Rattle.chosen_columns.specs.ColumnLists.{is_column_list, on_checks}
use Rattle.chosen_columns.specs.EncodedOn.{encoded_on}
use Rattle.chosen_columns.specs.UnencodedOn.{unencoded_on}
use Rattle.chosen_columns.specs.RecoveredOn.{recovered_on}
use Rattle.chosen_columns.proofs.ColumnLists.{to_column_list, all_columns_list}

module _ (q : ℕ) (short : IsShort q) where
  -- all columns, ascending
  abbrev full : List ℕ
  full = up_to (q * q)

  series_1 : columns_of q 1 ≡ full
  series_1 = first_columns q 1 (λ e. omega arith)

  places : q * length full ≡ q * q * q
  places = ap (λ (x : ℕ). q * x) (length_up_to (q * q)) ∙ (sizes q (short_curve q short)).grid

  accepted : is_column_list (q * q) full ≡ true
  accepted = T_true (is_column_list (q * q) full) (to_column_list (q * q) full (all_columns_list (q * q) (omega (arith, two_symbols q (short_curve q short)))))

  same_checks : (taken gaps decodes : Bool) → taken ≡ true → (m : ℕ) (input : List ℕ) (room : ℕ)
      → on_checks gaps decodes q full m input room ≡ call_checks taken gaps decodes q 1 m input room Done
  unfolding on_checks order_checks curve_checks
  same_checks taken gaps decodes t m input room = rw (t, short_true q short, accepted, places)

  pub full_encoded : (m : ℕ) (message word : List ℕ) → encoded_on q full m message word ≡ encoded q 1 m message word
  unfolding encoded_on encoded
  full_encoded m message word =
      ap₂ (λ (o : Outcome) (l : List ℕ). unless_refused o word (answered Done (word_of q l m message)))
      (same_checks (is_curve q) false false (curve_true q (short_curve q short)) m message (length word)) (sym series_1)

  pub full_unencoded : (m : ℕ) (word slice : List ℕ) → unencoded_on q full m word slice ≡ unencoded q 1 m word slice
  unfolding unencoded_on unencoded
  full_unencoded m word slice =
      ap₂ (λ (o : Outcome) (l : List ℕ). unless_refused o slice (the_message (fitting (q * q) (size q m) (word_of q l m) word) slice))
      (same_checks (is_curve q) false true (curve_true q (short_curve q short)) m word (length slice)) (sym series_1)

  pub full_recovered : (m : ℕ) (broken slice : List ℕ) → recovered_on q full m broken slice ≡ recovered q 1 m broken slice
  unfolding recovered_on recovered
  full_recovered m broken slice =
      ap₂ (λ (o : Outcome) (l : List ℕ). unless_refused o slice (answer_of (reading (q * q) (size q m) (word_of q l m) broken) slice))
      (same_checks (is_short q) true true (short_true q short) m broken (length slice)) (sym series_1)
