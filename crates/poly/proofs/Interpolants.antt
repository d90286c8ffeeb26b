-- INTERPOLATION, in plain terms. Let the columns be c different places, and rows a list of c rows of d symbols, of which the first w count, w at
-- most the field's size. There is one list, and only one, of w * c symbols whose sum in two variables is at each column x that column's row, as a
-- polynomial in y; and with d = 16 it is what `interpolate` leaves.
-- Assumes nothing.
use mathlib.Core.Path.{◌≡◌, sym, ap, ap₂, ◌∙◌}
use mathlib.Core.List.{List}
use Prim.Native.Nat.{ℕ, zero, suc, ◌+◌, ◌*◌, ◌/◌, ◌%◌, ◌≤◌, ◌<◌}
use native.Mathlib.Nat.{mul_comm, mod-lt, div-add-mod, div-lt_iff_lt-mul, mul-add-div}
use native.Mathlib.Nat.{mul-add-mod_self_left, mod-eq_of_lt, div-eq_of_lt, zero-mul, add-zero}
use native.Mathlib.Omega.{arith}
use lib.ListN.{length, get_or}
use lib.Seq.{ext_get_or}
use Rattle.field.specs.Field.{Field}
use Rattle.field.proofs.FieldLaws.{zero_lt}
use Rattle.poly.specs.Lists.{Nodup}
use Rattle.poly.specs.Messages.{Vector}
use Rattle.poly.specs.Inner.Ranges.{Below}
use Rattle.poly.specs.Inner.Polynomials.{value}
use Rattle.poly.specs.Inner.Interpolation.{interleaved, row, bivariate, divided, Interpolated}
use Rattle.poly.proofs.Lists.{each_mem}
use Rattle.poly.proofs.Messages.{tabulate, get_or_tabulate, vector_tabulate, vector_below, below_vector}
use Rattle.poly.proofs.Values.{value_cong, value_lt}
use Rattle.poly.proofs.Roots.{value_unique, value_everywhere}
use Rattle.poly.proofs.Interleaving.{place_lt, bivariate_interleaved}
use Rattle.poly.proofs.LagrangeSums.{lagrange_at, coefficients, coefficients_lt, coefficients_value}

-- what holds of the number j of each row holds at each place
each_place : (w n : ℕ) (P : ℕ → Type 0) → ((i j : ℕ) → i < n → j < w → P (w * i + j)) → (p : ℕ) → p < w * n → P p
each_place zero n P h p l = absurd (omega (arith, zero-mul n))
each_place (suc w) n P h p l =
    rw (sym (div-add-mod p (suc w)))
    (h (p / suc w) (p % suc w) ((div-lt_iff_lt-mul {k = suc w} (omega arith)).1 (rw (mul_comm (suc w) n) at l)) (mod-lt p (omega arith)))

-- the polynomial j of s, at column t
abbrev pub at_column : Field → ℕ → List ℕ → List ℕ → ℕ → ℕ → ℕ
at_column F w columns s t j = value F (length columns) (interleaved w s j) (get_or columns t 0)

-- ---- uniqueness

module _ (F : Field) (w : ℕ) (columns : List ℕ) (small : Below F.size columns) (different : Nodup columns) where
  pub interleaved_unique : (a b : List ℕ) → Vector F.size (w * length columns) a → Vector F.size (w * length columns) b
      → ((j t : ℕ) → j < w → t < length columns → at_column F w columns a t j ≡ at_column F w columns b t j) → a ≡ b
  interleaved_unique a b va vb e =
      ext_get_or 0 a b (va.len ∙ sym vb.len)
      (λ p l. each_place w (length columns) (λ (p : ℕ). get_or a p 0 ≡ get_or b p 0) (λ i j h k. same j k i h) p (omega (arith, va.len)))
    where
      same : (j : ℕ) → j < w → (i : ℕ) → i < length columns → interleaved w a j i ≡ interleaved w b j i
      same j k =
          value_unique F columns (length columns) (interleaved w a j) (interleaved w b j) small different
          (λ i l. va.small (w * i + j) (place_lt w i j (length columns) k l)) (λ i l. vb.small (w * i + j) (place_lt w i j (length columns) k l))
          (omega arith)
          (each_mem (λ (x : ℕ). value F (length columns) (interleaved w a j) x ≡ value F (length columns) (interleaved w b j) x) 0 columns
          (λ t m. e j t k m))

  -- by the values at the columns and at all y
  pub bivariate_unique : w ≤ F.size → (a b : List ℕ) → Vector F.size (w * length columns) a → Vector F.size (w * length columns) b
      → ((t y : ℕ) → t < length columns → y < F.size
      → bivariate F w (length columns) a (get_or columns t 0) y ≡ bivariate F w (length columns) b (get_or columns t 0) y) → a ≡ b
  bivariate_unique wide a b va vb e =
      interleaved_unique a b va vb
      (λ j t k l. value_everywhere F w (at_column F w columns a t) (at_column F w columns b t) wide
      (λ j m. value_lt F (length columns) (interleaved w a j) (get_or columns t 0))
      (λ j m. value_lt F (length columns) (interleaved w b j) (get_or columns t 0))
      (λ y m. sym (bivariate_interleaved F w (length columns) a (get_or columns t 0) y)
      ∙ e t y l m
      ∙ bivariate_interleaved F w (length columns) b (get_or columns t 0) y) j k)

-- ---- existence

module _ (F : Field) (d w : ℕ) (columns : List ℕ) where
  -- Lagrange's sum
  pub lagrange : List ℕ → List ℕ
  lagrange rows =
      tabulate (w * length columns)
      (λ p. coefficients F columns (divided F columns (interleaved d rows (p % w))) (p / w))

  lagrange_interleaved : (rows : List ℕ) (j i : ℕ) → j < w → i < length columns
      → interleaved w (lagrange rows) j i ≡ coefficients F columns (divided F columns (interleaved d rows j)) i
  unfolding lagrange
  lagrange_interleaved rows j i k l =
      let down : (w * i + j) % w ≡ j = mul-add-mod_self_left w i j ∙ mod-eq_of_lt k in
      let along : (w * i + j) / w ≡ i = mul-add-div {m = w} (omega arith) i j ∙ ap (λ (n : ℕ). i + n) (div-eq_of_lt k) ∙ add-zero i in
      get_or_tabulate (w * length columns) _ (w * i + j) (place_lt w i j (length columns) k l)
      ∙ ap₂ (λ (u v : ℕ). coefficients F columns (divided F columns (interleaved d rows u)) v) down along

  pub lagrange_vector : (rows : List ℕ) → Vector F.size (w * length columns) (lagrange rows)
  unfolding lagrange
  lagrange_vector rows = vector_tabulate F.size (w * length columns) _ (λ p l. coefficients_lt F columns _ (p / w))

  -- s has at each column x the row of that column, as a polynomial in y
  abbrev pub Takes : List ℕ → List ℕ → Type 0
  Takes rows s = (t y : ℕ) → t < length columns → y < F.size → bivariate F w (length columns) s (get_or columns t 0) y ≡ row F d w rows t y

  takes : (rows s : List ℕ) → Interpolated F d w columns rows s → Takes rows s
  unfolding row
  takes rows s h t y l m =
      bivariate_interleaved F w (length columns) s (get_or columns t 0) y
      ∙ value_cong F w (at_column F w columns s t) (λ j. interleaved d rows j t) y (λ j k. h.is j t k l)

module _ (F : Field) (d w : ℕ) (columns : List ℕ) (small : Below F.size columns) (different : Nodup columns) where
  pub lagrange_interpolated : (rows : List ℕ) → Below F.size rows → Interpolated F d w columns rows (lagrange F d w columns rows)
  lagrange_interpolated rows b = record {
    below = vector_below F.size (w * length columns) (lagrange F d w columns rows) (zero_lt F) (lagrange_vector F d w columns rows);
    is = λ j t k l.
        let g : ℕ → ℕ = divided F columns (interleaved d rows j) in
        value_cong F (length columns) (interleaved w (lagrange F d w columns rows) j) (coefficients F columns g) (get_or columns t 0)
        (λ i m. lagrange_interleaved F d w columns rows j i k m)
        ∙ coefficients_value F columns g (get_or columns t 0) ∙ lagrange_at F columns (interleaved d rows j) t small different l (b (d * t + j));
  }

  -- ---- both, and what `interpolate` leaves

  -- THE INTERPOLATION LAW
  pub interpolation : w ≤ F.size → (rows out : List ℕ) → length out ≡ w * length columns → Interpolated F d w columns rows out
      → Vector F.size (w * length columns) out × Takes F d w columns rows out
      × ((s : List ℕ) → Vector F.size (w * length columns) s → Takes F d w columns rows s → s ≡ out)
  interpolation wide rows out len h = (
    vo,
    takes F d w columns rows out h,
    λ s vs e. bivariate_unique F w columns small different wide s out vs vo
        (λ t y l m. e t y l m ∙ sym (takes F d w columns rows out h t y l m)),
  )
    where
      vo : Vector F.size (w * length columns) out
      vo = below_vector F.size (w * length columns) out len h.below

  pub exactly_one : w ≤ F.size → (rows : List ℕ) → Below F.size rows
      → (out : List ℕ) × Vector F.size (w * length columns) out × Takes F d w columns rows out
      × ((s : List ℕ) → Vector F.size (w * length columns) s → Takes F d w columns rows s → s ≡ out)
  exactly_one wide rows b =
      let h = interpolation wide rows (lagrange F d w columns rows) (lagrange_vector F d w columns rows).len (lagrange_interpolated rows b) in
      (lagrange F d w columns rows, h.0, h.1, h.2)
