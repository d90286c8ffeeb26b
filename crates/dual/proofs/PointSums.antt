-- THE SUMS OVER ALL POINTS: the sum of x^a·y^b is 0 where the weight q·a + (q + 1)·b is below n + 2g − 1, and 1 where a = q·q − 1 and b = q − 1.
-- By induction on b: the power sums of a column's y, then of all x; and y^q is x^(q+1) + y, of no higher weight.
-- Assumes nothing.
use mathlib.Core.List.{List}
use mathlib.Core.Path.{◌≡◌, sym, ap, ap₂, ◌∙◌}
use Prim.Native.Nat.{ℕ, zero, suc, ◌+◌, ◌-◌, ◌*◌, ◌/◌, ◌%◌, ◌<◌}
use native.Mathlib.Nat.{mod-lt}
use native.Mathlib.Decide.{dec_lt}
use native.Mathlib.Omega.{arith}
use lib.ListN.{length, get_or}
use Rattle.field.specs.Curve.{IsCurve}
use Rattle.field.specs.Plus.{plus}
use Rattle.field.specs.Power.{power}
use Rattle.field.specs.Sum.{sum}
use Rattle.field.proofs.Plus.{plus_ac, plus_self}
use Rattle.field.proofs.FieldLaws.{times_zero, plus_times, times_exchange, times_one_right}
use Rattle.field.proofs.Powers.{power_suc, power_add, power_lt}
use Rattle.field.proofs.Sums.{sum_cong, sum_zeros, sum_plus, sum_blocks, sum_scale}
use Rattle.field.proofs.Fields.{field_of}
use Rattle.field.proofs.Curves.{sizes, curve_even, square_even}
use Rattle.poly.specs.Inner.RootInterpolation.{TrinomialRoots}
use Rattle.poly.proofs.Lists.{nodup_get_or}
use Rattle.poly.proofs.RootSums.{root_sum_low, root_sum_top}
use Rattle.points.specs.Points.{ys_of}
use Rattle.points.specs.Series.{columns_of}
use Rattle.points.specs.Inner.Columns.{column_y}
use Rattle.points.proofs.Places.{column_of, quotient, remainder}
use Rattle.points.proofs.ColumnPoints.{length_ys}
use Rattle.points.proofs.Points.{nodup_ys, column_on_curve}
use Rattle.points.proofs.Series.{full_columns, length_columns}
use Rattle.code.proofs.Stages.{columns_below, ys_below}
use Rattle.code.proofs.SymbolPowers.{power_size}
use Rattle.dual.specs.Inner.PointSums.{AllColumns, x_at, y_at, powers_at, point_sum, heaviest}
use Rattle.dual.proofs.PartnerWeights.{x_below, replaced_below}

-- the columns of each series are all columns
pub all_columns : (q series : ℕ) → IsCurve q → AllColumns q (columns_of q series)
all_columns q series curve = record { over = full_columns q series curve; full = length_columns q series curve }

-- the product of two
pub powers_times : (q : ℕ) (columns : List ℕ) (a b i j p : ℕ)
    → (field_of q).times (powers_at q columns a b p) (powers_at q columns i j p) ≡ powers_at q columns (a + i) (b + j) p
unfolding powers_at
powers_times q columns a b i j p =
    let F = field_of q in
    let x = x_at q columns p in
    let y = y_at q columns p in
    times_exchange F (power F x a) (power F y b) (power F x i) (power F y j) ∙ sym (ap₂ F.times (power_add F x a i) (power_add F y b j))

module _ (q : ℕ) (columns : List ℕ) (f : AllColumns q columns) where
  curve : IsCurve q
  curve = f.over.curve

  two : 1 < q
  two = (sizes q curve).low

  pos : 0 < q
  pos = omega (arith, two)

  pub places : q * length columns ≡ q * q * q
  places = ap (λ (c : ℕ). q * c) f.full ∙ (sizes q curve).grid

  -- the column of a place, and which of its points
  pub place_of_lem : (p : ℕ) → p < q * q * q → (p / q < length columns) × (p % q < q)
  place_of_lem p l = (column_of q pos (length columns) p (omega (arith, places)), mod-lt p pos)

  -- ---- the power sums of a column's y, and of all x

  module _ (t : ℕ) (l : t < q * q) where
    abbrev ys : List ℕ
    ys = ys_of q (get_or columns t 0)

    within : t < length columns
    within = omega (arith, f.full)

    small : get_or columns t 0 < q * q
    small = f.over.small t within

    long : length ys ≡ q
    long = length_ys q curve (get_or columns t 0) small

    y_roots : TrinomialRoots (field_of q) q ys
    y_roots =
        record {
          different = λ s u a b. nodup_get_or ys 0 (nodup_ys q (get_or columns t 0)) s u (omega (arith, long)) (omega (arith, long));
          roots = λ s u a b. column_on_curve q columns f.over t s within a ∙ sym (column_on_curve q columns f.over t u within b);
        }

    y_sum_low : (b : ℕ) → b < q - 1 → sum q (λ s. power (field_of q) (column_y q columns t s) b) ≡ 0
    y_sum_low =
        let h = curve_even q curve in
        root_sum_low (field_of q) q h.0 h.1 h.2 ys long (ys_below q curve (get_or columns t 0) small) y_roots

    y_sum_top : sum q (λ s. power (field_of q) (column_y q columns t s) (q - 1)) ≡ 1
    y_sum_top =
        let h = curve_even q curve in
        root_sum_top (field_of q) q h.0 h.1 h.2 ys long (ys_below q curve (get_or columns t 0) small) y_roots

  x_roots : TrinomialRoots (field_of q) (q * q) columns
  x_roots =
      record {
        different = λ s t a b. nodup_get_or columns 0 f.over.distinct s t (omega (arith, f.full)) (omega (arith, f.full));
        roots = λ s t a b. root s a ∙ sym (root t b);
      }
    where
      root : (t : ℕ) → t < q * q → plus (power (field_of q) (get_or columns t 0) (q * q)) (get_or columns t 0) ≡ 0
      root t l =
          let x = get_or columns t 0 in
          ap (λ (z : ℕ). plus z x) (power_size q f.over.curve x (f.over.small t (omega (arith, f.full)))) ∙ plus_self x

  x_sum_low : (a : ℕ) → a < q * q - 1 → sum (q * q) (λ t. power (field_of q) (get_or columns t 0) a) ≡ 0
  x_sum_low =
      let h = square_even q curve in
      root_sum_low (field_of q) (q * q) h.0 h.1 h.2 columns f.full (columns_below q columns f.over) x_roots

  x_sum_top : sum (q * q) (λ t. power (field_of q) (get_or columns t 0) (q * q - 1)) ≡ 1
  x_sum_top =
      let h = square_even q curve in
      root_sum_top (field_of q) (q * q) h.0 h.1 h.2 columns f.full (columns_below q columns f.over) x_roots

  -- ---- over all points

  -- a sum over all points in two stages: where x^i is a factor, first over the points of each column
  pub in_stages : (i : ℕ) (h : ℕ → ℕ) (g : ℕ → ℕ → ℕ) → ((t s : ℕ) → s < q → h (q * t + s) ≡ g t s)
      → sum (q * q * q) (λ p. (field_of q).times (power (field_of q) (x_at q columns p) i) (h p))
      ≡ sum (q * q) (λ t. (field_of q).times (power (field_of q) (get_or columns t 0) i) (sum q (g t)))
  in_stages i h g is =
      ap (λ (n : ℕ). sum n term) (sym (sizes q curve).grid) ∙ sum_blocks q (q * q) term
      ∙ sum_cong (q * q) (λ t. sum q (λ s. term (q * t + s))) (λ t. (field_of q).times (power (field_of q) (get_or columns t 0) i) (sum q (g t)))
      (λ t l. sum_cong q (λ s. term (q * t + s)) (λ s. (field_of q).times (power (field_of q) (get_or columns t 0) i) (g t s))
      (λ s k. ap₂ (λ (c y : ℕ). (field_of q).times (power (field_of q) (get_or columns c 0) i) y) (quotient q pos t s k) (is t s k))
      ∙ sum_scale (field_of q) q (power (field_of q) (get_or columns t 0) i) (g t))
    where
      term : ℕ → ℕ
      term p = (field_of q).times (power (field_of q) (x_at q columns p) i) (h p)

  pub y_at_lem : (t s : ℕ) → s < q → y_at q columns (q * t + s) ≡ column_y q columns t s
  y_at_lem t s k = ap₂ (column_y q columns) (quotient q pos t s k) (remainder q pos t s k)

  by_columns : (a b : ℕ) → point_sum q columns a b
      ≡ sum (q * q) (λ t. (field_of q).times (power (field_of q) (get_or columns t 0) a) (sum q (λ s. power (field_of q) (column_y q columns t s) b)))
  unfolding powers_at
  by_columns a b =
      in_stages a (λ p. power (field_of q) (y_at q columns p) b) (λ t s. power (field_of q) (column_y q columns t s) b)
      (λ t s k. ap (λ (y : ℕ). power (field_of q) y b) (y_at_lem t s k))

  -- b < q - 1, for any a
  sum_low : (a b : ℕ) → b < q - 1 → point_sum q columns a b ≡ 0
  sum_low a b l =
      by_columns a b
      ∙ sum_zeros (q * q) _ (λ t k. ap ((field_of q).times (power (field_of q) (get_or columns t 0) a)) (y_sum_low t k b l)
      ∙ times_zero (field_of q) (power (field_of q) (get_or columns t 0) a))

  -- b = q - 1
  sum_last : (a : ℕ) → point_sum q columns a (q - 1) ≡ sum (q * q) (λ t. power (field_of q) (get_or columns t 0) a)
  sum_last a =
      by_columns a (q - 1)
      ∙ sum_cong (q * q) _ (λ t. power (field_of q) (get_or columns t 0) a)
      (λ t k. ap ((field_of q).times (power (field_of q) (get_or columns t 0) a)) (y_sum_top t k)
      ∙ times_one_right (field_of q) (power (field_of q) (get_or columns t 0) a) (power_lt (field_of q) (get_or columns t 0) a))

  -- y^(q + r) = x^(q+1)·y^r + y^(r+1)
  powers_high : (a r p : ℕ) → p < q * q * q
      → powers_at q columns a (q + r) p ≡ plus (powers_at q columns (a + suc q) r p) (powers_at q columns a (suc r) p)
  unfolding powers_at
  powers_high a r p l =
      rw (
        power_add (field_of q) (y_at q columns p) q r,
        replaced,
        plus_times (field_of q),
        (field_of q).times_plus,
        power_suc (field_of q) (y_at q columns p) r,
        power_add (field_of q) (x_at q columns p) a (suc q),
        (field_of q).times_assoc,
      )
    where
      replaced : power (field_of q) (y_at q columns p) q ≡ plus (power (field_of q) (x_at q columns p) (suc q)) (y_at q columns p)
      replaced =
          let h = place_of_lem p l in
          rw (← column_on_curve q columns f.over (p / q) (p % q) h.0 h.1) (simp plus_ac)

  sum_high : (a r : ℕ) → point_sum q columns a (q + r) ≡ plus (point_sum q columns (a + suc q) r) (point_sum q columns a (suc r))
  sum_high a r =
      sum_cong (q * q * q) (powers_at q columns a (q + r)) (λ p. plus (powers_at q columns (a + suc q) r p) (powers_at q columns a (suc r) p))
      (powers_high a r)
      ∙ sum_plus (q * q * q) (powers_at q columns (a + suc q) r) (powers_at q columns a (suc r))

  below_fuel : (k a b : ℕ) → b < k → q * a + suc q * b < heaviest q → point_sum q columns a b ≡ 0
  below_fuel zero a b l w = absurd (omega arith)
  below_fuel (suc k) a b l w = go (dec_lt b (q - 1)) (dec_lt b q) (below_fuel k)
    where
      go : Dec (b < q - 1) → Dec (b < q) → ((a b : ℕ) → b < k → q * a + suc q * b < heaviest q → point_sum q columns a b ≡ 0)
          → point_sum q columns a b ≡ 0
      go (yes d) c ih = sum_low a b d
      go (no d) (yes c) ih =
          let e : b ≡ q - 1 = omega arith in
          ap (point_sum q columns a) e ∙ sum_last a ∙ x_sum_low a (x_below q two a b e w)
      go (no d) (no c) ih =
          let e : b ≡ q + (b - q) = omega arith in
          let h = replaced_below q two a b (b - q) e w in
          ap (point_sum q columns a) e ∙ sum_high a (b - q)
          ∙ ap₂ plus (ih (a + suc q) (b - q) (omega (arith, two)) h.0) (ih a (suc (b - q)) (omega (arith, two)) h.1)
          ∙ plus_self 0

  -- THE LEMMA
  pub sum_below : (a b : ℕ) → q * a + suc q * b < heaviest q → point_sum q columns a b ≡ 0
  sum_below a b = below_fuel (suc b) a b (omega arith)

  pub sum_top : point_sum q columns (q * q - 1) (q - 1) ≡ 1
  sum_top = sum_last (q * q - 1) ∙ x_sum_top
