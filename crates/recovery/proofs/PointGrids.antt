-- The grid of the word that is 1 at one point of all columns, in any order, and 0 at every other: the entry of x^i·y^j is the product of the
-- indicators' coefficients i and j.
-- Assumes nothing.
use mathlib.Core.List.{List}
use mathlib.Core.Path.{◌≡◌, refl, sym, ap, ◌∙◌}
use Prim.Native.Nat.{ℕ, ◌+◌, ◌*◌, ◌/◌, ◌%◌, ◌<◌}
use native.Mathlib.Decide.{ℕ_discrete}
use native.Mathlib.Omega.{arith}
use borrow.Author.Tests.{eq-eqb, ne_eqb}
use lib.Dec.{eqb}
use lib.ListN.{length, get_or}
use Rattle.field.specs.Plus.{plus}
use Rattle.field.specs.Power.{power}
use Rattle.field.proofs.Plus.{plus_self}
use Rattle.field.proofs.FieldLaws.{zero_times, times_zero}
use Rattle.field.proofs.Fields.{field_of}
use Rattle.field.proofs.Curves.{curve_even, square_even}
use Rattle.poly.specs.Lists.{one_if}
use Rattle.poly.specs.Inner.Polynomials.{value}
use Rattle.poly.specs.Inner.Indicators.{indicator}
use Rattle.poly.proofs.Lists.{nodup_get_or}
use Rattle.poly.proofs.Values.{value_cong, value_scale}
use Rattle.poly.proofs.Indicators.{indicator_here, indicator_there}
use Rattle.points.specs.Points.{ys_of}
use Rattle.points.specs.Inner.Columns.{Columns, column_y}
use Rattle.points.proofs.Places.{quotient, remainder}
use Rattle.points.proofs.ColumnPoints.{length_ys}
use Rattle.points.proofs.Points.{nodup_ys, column_on_curve}
use Rattle.code.proofs.Weights.{curve_pos}
use Rattle.code.proofs.Stages.{ys_below, columns_below}
use Rattle.code.proofs.SymbolPowers.{power_size}
use Rattle.recovery.specs.Inner.Gaps.{grid_at, point_term}

module _ (q : ℕ) (columns : List ℕ) (over : Columns q columns) where
  pos : 0 < q
  pos = curve_pos q over.curve

  module _ (full : length columns ≡ q * q) (t₀ s₀ : ℕ) (a : t₀ < length columns) (b : s₀ < q) where
    abbrev x₀ : ℕ
    x₀ = get_or columns t₀ 0

    abbrev y₀ : ℕ
    y₀ = column_y q columns t₀ s₀

    -- the factor in x
    in_x : ℕ → ℕ
    in_x t = value (field_of q) (length columns) (indicator (field_of q) (q * q) x₀) (get_or columns t 0)

    x_here : in_x t₀ ≡ 1
    unfolding in_x
    x_here =
        let h = square_even q over.curve in
        ap (λ (n : ℕ). value (field_of q) n (indicator (field_of q) (q * q) x₀) x₀) full
        ∙ indicator_here (field_of q) (q * q) h.0 x₀ h.1 h.2

    x_there : (t : ℕ) → t < length columns → (t ≡ t₀ → ⊥) → in_x t ≡ 0
    unfolding in_x
    x_there t l d =
        let h = square_even q over.curve in
        ap (λ (n : ℕ). value (field_of q) n (indicator (field_of q) (q * q) x₀) (get_or columns t 0)) full
        ∙ indicator_there (field_of q) (q * q) x₀ (get_or columns t 0) (omega (arith, h.1, h.2))
        (columns_below q columns over t₀) (columns_below q columns over t)
        (λ e. d (sym (nodup_get_or columns 0 over.distinct t₀ t a l e))) (zero t₀ a ∙ sym (zero t l))
      where
        zero : (t : ℕ) → t < length columns → plus (power (field_of q) (get_or columns t 0) (q * q)) (get_or columns t 0) ≡ 0
        zero t l =
            let x = get_or columns t 0 in
            ap (λ (z : ℕ). plus z x) (power_size q over.curve x (over.small t l)) ∙ plus_self x

    -- the factor in y, in the point's column
    in_y : ℕ → ℕ → ℕ
    in_y t s = value (field_of q) q (indicator (field_of q) q y₀) (column_y q columns t s)

    y_here : in_y t₀ s₀ ≡ 1
    unfolding in_y
    y_here = let h = curve_even q over.curve in indicator_here (field_of q) q h.0 y₀ h.1 h.2

    y_there : (s : ℕ) → s < q → (s ≡ s₀ → ⊥) → in_y t₀ s ≡ 0
    unfolding in_y
    y_there s l d =
        let long = length_ys q over.curve x₀ (over.small t₀ a) in
        let small = ys_below q over.curve x₀ (over.small t₀ a) in
        indicator_there (field_of q) q y₀ (column_y q columns t₀ s) pos (small s₀) (small s)
        (λ e. d (sym (nodup_get_or (ys_of q x₀) 0 (nodup_ys q x₀) s₀ s (omega arith) (omega arith) e))) (column_on_curve q columns over t₀ s₀ a b ∙ sym (column_on_curve q columns over t₀ s a l))

    module _ (f : ℕ → ℕ) (is : (i j : ℕ) → i < length columns → j < q → f (q * i + j) ≡ point_term q x₀ y₀ i j) where
      factors : (t s : ℕ) → grid_at q columns f t s ≡ (field_of q).times (in_x t) (in_y t s)
      unfolding in_x in_y
      factors t s =
          let F = field_of q in
          let c = length columns in
          let x = get_or columns t 0 in
          let g = indicator F (q * q) x₀ in
          let h = indicator F q y₀ in
          let A = value F c g x in
          value_cong F q (λ j. value F c (λ i. f (q * i + j)) x) (λ j. F.times A (h j)) (column_y q columns t s)
          (λ j k. value_cong F c (λ i. f (q * i + j)) (λ i. F.times (h j) (g i)) x (λ i l. is i j l k ∙ F.times_comm _ _)
          ∙ value_scale F c (h j) g x ∙ F.times_comm _ _)
          ∙ value_scale F q A h (column_y q columns t s)

      -- THE VALUES: 1 at the point, 0 at every other
      pub point_values : (t s : ℕ) → t < length columns → s < q → grid_at q columns f t s ≡ one_if (eqb (q * t + s) (q * t₀ + s₀))
      point_values t s l k = factors t s ∙ go (ℕ_discrete t t₀) (ℕ_discrete s s₀)
        where
          go : Dec (t ≡ t₀) → Dec (s ≡ s₀) → (field_of q).times (in_x t) (in_y t s) ≡ one_if (eqb (q * t + s) (q * t₀ + s₀))
          go (no d) v =
              rw (
                x_there t l d,
                ne_eqb (q * t + s) (q * t₀ + s₀) (λ e. d (sym (quotient q pos t s k) ∙ ap (λ (p : ℕ). p / q) e ∙ quotient q pos t₀ s₀ b)),
              ) (zero_times (field_of q) (in_y t s))
          go (yes e) (no d) =
              rw (
                e,
                y_there s k d,
                ne_eqb (q * t₀ + s) (q * t₀ + s₀) (λ h. d (sym (remainder q pos t₀ s k) ∙ ap (λ (p : ℕ). p % q) h ∙ remainder q pos t₀ s₀ b)),
              ) (times_zero (field_of q) (in_x t₀))
          go (yes e) (yes h) =
              rw (e, h, x_here, y_here, eq-eqb (q * t₀ + s₀) (q * t₀ + s₀) refl) ((field_of q).times_one 1 (field_of q).two_le)
