-- Interpolation at the roots of x^u + x + a: what the turns of its loop leave, and that the polynomial takes the values.
-- Assumes nothing.
use mathlib.Core.List.{List}
use mathlib.Core.Path.{◌≡◌, refl, sym, ap, ap₂, ◌∙◌}
use Prim.Native.Nat.{ℕ, suc, ◌+◌, ◌-◌, ◌≤◌, ◌<◌}
use native.Mathlib.Decide.{dec_lt, ℕ_discrete}
use native.Mathlib.Omega.{arith}
use lib.ListN.{length, set, length-set, get_or-eq_default}
use lib.Seq.{get_or-set_same, get_or-set_other}
use Rattle.field.specs.Plus.{plus}
use Rattle.field.specs.Field.{Field}
use Rattle.field.specs.Power.{power}
use Rattle.field.specs.Sum.{sum}
use Rattle.field.proofs.FieldLaws.{zero_times}
use Rattle.field.proofs.Sums.{sum_lt, sum_extend}
use Rattle.poly.specs.Inner.Ranges.{Below}
use Rattle.poly.specs.Inner.Linear.{entry}
use Rattle.poly.specs.Inner.Lanes.{lanes}
use Rattle.poly.specs.Inner.Polynomials.{value}
use Rattle.poly.specs.Inner.RootInterpolation.{Summable, power_sum_of, PowersSummed, TrinomialRoots, RootInterpolated}
use Rattle.poly.proofs.Values.{value_cong, value_constant}
use Rattle.poly.proofs.Entries.{below_set}
use Rattle.poly.proofs.LanePowers.{raised, raised_lanes, raised_none, raised_more, raised_sum}
use Rattle.poly.proofs.ClosedForm.{summed_value}

-- the loop: the sums from i on are in the row, and v has what that at i was summed from
pub record Summing (F : Field) (places values row₀ row v : List ℕ) (i : ℕ) : Type 0 where
  pub within : i < length values
  pub long : length row ≡ length row₀
  pub sums : PowersSummed F places values row₀ row i
  pub lanes_are : v ≡ raised_lanes F places values (length values - 1 - i)

module _ (F : Field) (places values row₀ : List ℕ) (h : Summable F places values row₀) where
  pub two_values : 2 ≤ length values
  two_values = let w = h.even in omega (arith, w.1, w.2)

  pub few : length values ≤ 16
  few = let w = h.even in omega (arith, w.1, w.3)

  -- the lanes past the values are 0
  lanes_sum : (v : List ℕ) (e : ℕ) → v ≡ raised_lanes F places values e → sum 16 (entry v) ≡ power_sum_of F places values e
  lanes_sum v e is_v =
      raised_sum F places values v e is_v
      ∙ sum_extend (length values) 16 (raised F places values e) few
      (λ s a b. ap (λ (x : ℕ). F.times x (power F (entry places s) e)) (get_or-eq_default values 0 {n = s} a)
      ∙ zero_times F (power F (entry places s) e))

  -- ---- the powers are summed from the last number of the row down to that at i

  sums_more : (base v row : List ℕ) (i w : ℕ) → length values ≤ length row → 0 < i → i ≤ length values → PowersSummed F places values base row i
      → v ≡ raised_lanes F places values (length values - i) → w ≡ sum 16 (entry v) → PowersSummed F places values base (set row (i - 1) w) (i - 1)
  sums_more base v row i w room pos l s is_v is_w =
      record {
        at = λ k a b. go k a b (ℕ_discrete k (i - 1));
        rest = λ k a. get_or-set_other row (i - 1) k w 0 (omega arith) ∙ s.rest k a;
      }
    where
      go : (k : ℕ) → i - 1 ≤ k → k < length values → Dec (k ≡ i - 1)
          → entry (set row (i - 1) w) k ≡ power_sum_of F places values (length values - 1 - k)
      go k a b (yes d) =
          let e : length values - i ≡ length values - 1 - k = omega arith in
          ap (entry (set row (i - 1) w)) d ∙ get_or-set_same row (i - 1) w 0 (omega arith) ∙ is_w ∙ lanes_sum v (length values - i) is_v
          ∙ ap (power_sum_of F places values) e
      go k a b (no d) = get_or-set_other row (i - 1) k w 0 d ∙ s.at k (omega arith) b

  -- before the loop
  pub summing_first : (v : List ℕ) (w : ℕ) → v ≡ lanes (entry values) → w ≡ sum 16 (entry v)
      → Summing F places values (set row₀ (length values - 1) w) (set row₀ (length values - 1) w) v (length values - 1)
  summing_first v w is_v is_w =
      let z : 0 ≡ length values - length values = omega arith in
      let y : 0 ≡ length values - 1 - (length values - 1) = omega arith in
      let none : PowersSummed F places values row₀ row₀ (length values) = record { at = λ k a b. absurd (omega arith); rest = λ k l. refl } in
      let one = sums_more row₀ v row₀ (length values) w h.room (omega (arith, two_values)) (omega arith) none
      (raised_none F places values v h.values_below is_v ∙ ap (raised_lanes F places values) z) is_w in
      record {
        within = omega (arith, two_values);
        long = refl;
        sums = record { at = one.at; rest = λ k l. refl };
        lanes_are = raised_none F places values v h.values_below is_v ∙ ap (raised_lanes F places values) y;
      }

  -- w₀ is the first of the sums
  module _ (w₀ : ℕ) (row v : List ℕ) (i : ℕ) (s : Summing F places values (set row₀ (length values - 1) w₀) row v i) where
    pub summing_room : length values ≤ length row
    summing_room = omega (arith, s.long, length-set row₀ (length values - 1) w₀, h.room)

    pub summing_turn : 0 < i → (new : List ℕ) (w : ℕ) → new ≡ lanes (λ t. F.times (entry places t) (entry v t)) → w ≡ sum 16 (entry new)
        → Summing F places values (set row₀ (length values - 1) w₀) (set row (i - 1) w) new (i - 1)
    summing_turn pos new w is_new is_w =
        let e : suc (length values - 1 - i) ≡ length values - i = omega (arith, s.within) in
        let f : suc (length values - 1 - i) ≡ length values - 1 - (i - 1) = omega (arith, s.within) in
        let more = raised_more F places values v (length values - 1 - i) s.lanes_are new is_new in
        record {
          within = omega (arith, s.within);
          long = length-set row (i - 1) w ∙ s.long;
          sums = sums_more (set row₀ (length values - 1) w₀) new row i w summing_room pos (omega (arith, s.within)) s.sums
              (more ∙ ap (raised_lanes F places values) e) is_w;
          lanes_are = more ∙ ap (raised_lanes F places values) f;
        }

    pub summing_all : i ≤ 0 → PowersSummed F places values row₀ row 0
    summing_all l =
        record {
          at = λ k a b. s.sums.at k (omega arith) b;
          rest = λ k b. s.sums.rest k b ∙ get_or-set_other row₀ (length values - 1) k w₀ 0 (omega (arith, two_values));
        }

  -- ---- THE INTERPOLATION: with the last sum added to the first, the sums are the coefficients

  module _ (roots : TrinomialRoots F (length values) places) (row : List ℕ) (long : length row ≡ length row₀)
      (s : PowersSummed F places values row₀ row 0) where
    sum_below : (k : ℕ) → k < length values → entry row k < F.size
    sum_below k l =
        rw (s.at k (omega arith) l)
        (sum_lt F (length values) (raised F places values (length values - 1 - k))
        (λ t b. F.times_lt (entry values t) (power F (entry places t) (length values - 1 - k))))

    row_below : Below F.size row₀ → Below F.size row
    row_below small k = elim (dec_lt k (length values)) [ yes l ↦ sum_below k l | no d ↦ rw (s.rest k (omega arith)) (small k) ]

    pub root_interpolated : (c : ℕ) → c ≡ plus (entry row 0) (entry row (length values - 1)) → RootInterpolated F places values row₀ (set row 0 c)
    root_interpolated c is_c =
        record {
          is = λ t l.
              ap (λ (n : ℕ). value F n (entry (set row 0 c)) (entry places t)) one
              ∙ value_constant F (length values - 1) (entry row) (entry (set row 0 c)) (entry row (length values - 1)) (entry places t)
              first_below last_below
              (get_or-set_same row 0 c 0 (omega (arith, long, h.room, two_values)) ∙ is_c) (λ i b. get_or-set_other row 0 (suc i) c 0 (omega arith))
              ∙ ap₂ plus
              (ap (λ (n : ℕ). value F n (entry row) (entry places t)) (sym one)
              ∙ value_cong F (length values) (entry row) (λ i. power_sum_of F places values (length values - 1 - i)) (entry places t)
              (λ i b. s.at i (omega arith) b))
              (s.at (length values - 1) (omega arith) (omega (arith, two_values)))
              ∙ summed_value F (length values) w.0 w.1 (entry places) (entry values) (λ t b. h.places_below t) (λ t b. h.values_below t)
              roots.different roots.roots t l;
          rest = λ k l. get_or-set_other row 0 k c 0 (omega (arith, two_values)) ∙ s.rest k l;
          below = λ small. below_set F.size row 0 c (row_below small)
              (rw is_c (F.plus_lt (entry row 0) (entry row (length values - 1)) first_below last_below));
        }
      where
        w : (h : ℕ) × (length values ≡ h + h) × (1 ≤ h) × (h ≤ 8)
        w = h.even

        one : length values ≡ suc (length values - 1)
        one = omega (arith, two_values)

        first_below : entry row 0 < F.size
        first_below = sum_below 0 (omega (arith, two_values))

        last_below : entry row (length values - 1) < F.size
        last_below = sum_below (length values - 1) (omega (arith, two_values))
