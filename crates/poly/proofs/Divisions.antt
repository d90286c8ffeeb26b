-- Rows of 16 divided each by the derivative's value at its column: that value, row by row and group by group, and interpolation as division
-- and join.
-- Assumes nothing.
use mathlib.Core.Path.{◌≡◌, refl, sym, ap, ap₂, ◌∙◌, subst}
use mathlib.Core.List.{List}
use Prim.Native.Nat.{ℕ, suc, ◌+◌, ◌-◌, ◌*◌, ◌/◌, ◌%◌, ◌≤◌, ◌<◌}
use native.Mathlib.Nat.{le_antisymm, mul-suc, mul-add, mul-le-mul_left}
use native.Mathlib.Numerals.{add-one}
use native.Mathlib.Decide.{ℕ_discrete, dec_lt}
use native.Mathlib.Omega.{arith}
use lib.ListN.{length, get_or, length-replicate}
use lib.Seq.{ext_get_or}
use borrow.Rule.Slice.PartMut.{put_mid}
use Rattle.field.specs.Field.{Field}
use Rattle.field.proofs.FieldLaws.{zero_lt, times_zero, times_cancel}
use Rattle.poly.specs.Lists.{Nodup}
use Rattle.poly.specs.Inner.Ranges.{Below, part, put, writes}
use Rattle.poly.specs.Inner.Linear.{entry}
use Rattle.poly.specs.Inner.Rows.{scaled, stored}
use Rattle.poly.specs.Inner.Lanes.{lanes}
use Rattle.poly.specs.Inner.Polynomials.{value, derivative, vanishing, others, Terms, Vanishing}
use Rattle.poly.specs.Inner.Interpolation.{interleaved, divided, Joinable, Joined, SlopesAt, RowsDivided, Divided, Interpolated}
use Rattle.poly.proofs.Entries.{zeros, below_zeros}
use Rattle.poly.proofs.Writes.{length_writes, writes_in, writes_out, writes_cong}
use Rattle.poly.proofs.Parts.{length_part, part_at, put_is, put_low, put_in, put_high, below_put}
use Rattle.poly.proofs.Values.{value_cong, value_extend}
use Rattle.poly.proofs.Derivatives.{derivative_value}
use Rattle.poly.proofs.Vanishings.{derivative_at}
use Rattle.poly.proofs.Multiples.{scaled_at, below_scaled_at, scaled_at_low, scaled_at_in, scaled_at_high, stored_in, below_stored}
use Rattle.poly.proofs.LaneLaws.{lanes_at}
use Rattle.poly.proofs.Interleaving.{place_lt, place_add}
use Rattle.poly.proofs.LagrangeSums.{lagrange_sum_cong, lagrange_at}

derivative_cong : (f g : ℕ → ℕ) → ((i : ℕ) → f i ≡ g i) → (i : ℕ) → derivative f i ≡ derivative g i
unfolding derivative
derivative_cong f g e i = ap (λ (u : ℕ). suc i % 2 * u) (e (suc i))

-- a range that is given what it holds
writes_same_values : (l : List ℕ) (n : ℕ) (f : ℕ → ℕ) → n ≤ length l → ((j : ℕ) → j < n → f j ≡ get_or l j 0) → l ≡ writes l n f
writes_same_values l n f h e =
    ext_get_or 0 l (writes l n f) (sym (length_writes l f n))
    (λ j b. elim (dec_lt j n) [
      | yes k ↦ sym (writes_in l f n j k h ∙ e j k)
      | no k ↦ sym (writes_out l f n j (omega arith))
    ])

module _ (F : Field) where
  -- a row divided by 1
  pub divided_by_one : (v : ℕ) (row : List ℕ) → v ≡ 1 → v < F.size → (v ≡ 0 → ⊥) → Below F.size row
      → row ≡ scaled F (F.inverse v) (length row) row
  unfolding scaled
  divided_by_one v row e small ne below =
      writes_same_values row (length row) _ (omega arith)
      (λ j k. ap (F.times (F.inverse v)) (sym (F.times_one (get_or row j 0) (below j)) ∙ ap (λ (u : ℕ). F.times u (get_or row j 0)) (sym e))
      ∙ times_cancel F v (get_or row j 0) small ne (below j))

  -- a row of sixteen multiplied in lanes
  pub scaled_in_lanes : (c : ℕ) (row a b : List ℕ) → length row ≡ 16 → a ≡ lanes (λ t. get_or row (0 + t) 0)
      → b ≡ lanes (λ t. F.times (entry a t) c) → stored 16 b row ≡ scaled F c (length row) row
  unfolding scaled stored
  scaled_in_lanes c row a b long is_a is_b =
      writes_cong row (entry b) (λ j. F.times c (get_or row j 0)) 16
      (λ j k.
      let z : 0 + j ≡ j = omega arith in
      ap (λ (l : List ℕ). entry l j) is_b ∙ lanes_at _ j k
      ∙ ap (λ (u : ℕ). F.times u c) (ap (λ (l : List ℕ). entry l j) is_a ∙ lanes_at _ j k ∙ ap (λ (i : ℕ). get_or row i 0) z)
      ∙ F.times_comm (get_or row j 0) c)
      ∙ ap (λ (n : ℕ). writes row n (λ j. F.times c (get_or row j 0))) (sym long)

  -- ---- the derivative's value

  -- the first n of a list, and zeros up to sixteen
  places_at : (n : ℕ) (list places : List ℕ) → n ≤ 16 → places ≡ stored n list (zeros 16) → (t : ℕ) → t < n → get_or places t 0 ≡ get_or list t 0
  places_at n list places few e t b =
      ap (λ (x : List ℕ). get_or x t 0) e ∙ stored_in n list (zeros 16) t b (omega (arith, length-replicate {A = ℕ} 16 0))

  pub places_below : (n : ℕ) (list places : List ℕ) → n ≤ 16 → places ≡ stored n list (zeros 16) → Below F.size list → Below F.size places
  places_below n list places few e small =
      subst (Below F.size) (sym e)
      (below_stored F.size n list (zeros 16) (omega (arith, length-replicate {A = ℕ} 16 0)) small (below_zeros F.size 16 (zero_lt F)))

  pub slopes_are : (columns f places squares slopes : List ℕ) (from to n : ℕ) → to ≤ length columns → to ≤ from + 16 → Vanishing F columns f
      → places ≡ stored (to - from) (part columns from to) (zeros 16)
      → squares ≡ lanes (λ t. F.times (entry places t) (entry places t))
      → Terms (λ i. get_or f (2 * i + 1) 0) ((length columns + 1) / 2) n
      → slopes ≡ lanes (λ t. value F n (λ i. get_or f (2 * i + 1) 0) (entry squares t)) → SlopesAt F columns from to slopes
  slopes_are columns f places squares slopes from to n within few v p s e r = record { at = λ t b. at t b }
    where
      at : (t : ℕ) → from + t < to → get_or slopes t 0 ≡ others F columns (from + t) (get_or columns (from + t) 0)
      at t b =
          let k : t < 16 = omega arith in
          let x = get_or columns (from + t) 0 in
          let c = length columns in
          let one : c + 1 - 1 ≡ c = omega arith in
          ap (λ (l : List ℕ). get_or l t 0) r ∙ lanes_at _ t k
          ∙ ap (value F n (λ i. get_or f (2 * i + 1) 0))
          (ap (λ (l : List ℕ). get_or l t 0) s ∙ lanes_at _ t k
          ∙ ap (λ (u : ℕ). F.times u u)
          (places_at (to - from) (part columns from to) places (omega arith) p t (omega arith) ∙ part_at columns from to t b))
          ∙ sym (value_extend F n ((c + 1) / 2) (λ i. get_or f (2 * i + 1) 0) (F.times x x) e.within e.zeros)
          ∙ sym (derivative_value F (c + 1) (λ i. get_or f i 0) x)
          ∙ ap (λ (m : ℕ). value F m (derivative (λ i. get_or f i 0)) x) one
          ∙ value_cong F c (derivative (λ i. get_or f i 0)) (derivative (vanishing F columns)) x
          (λ i b. derivative_cong (λ i. get_or f i 0) (vanishing F columns) v.is i)
          ∙ derivative_at F columns (from + t) (omega arith)

  -- ---- row by row

  module _ (columns : List ℕ) where
    -- what a row is multiplied by
    abbrev divisor : ℕ → ℕ
    divisor t = F.inverse (others F columns t (get_or columns t 0))

    pub rows_none : (from : ℕ) (rows : List ℕ) → Below F.size rows → RowsDivided F columns from 0 rows rows
    rows_none from rows b = record { below = b; done = λ j t jw h. absurd (omega arith); rest = λ p h. refl }

    module _ (from count t : ℕ) (rows₀ rows : List ℕ) (given : length rows₀ ≡ 16 * count) (h : t < count)
        (long : length rows ≡ length rows₀) where
      abbrev at : ℕ
      at = 16 * t

      pub divide_room : 16 * t + 16 ≤ length rows
      divide_room = omega (arith, given, mul-suc 16 t, mul-le-mul_left 16 h)

      module _ (u : ℕ) (ys : List ℕ) (d : RowsDivided F columns from t rows₀ rows) (eu : u ≡ divisor (from + t))
          (ey : ys ≡ scaled F u 16 (part rows at (at + 16))) where
        abbrev new : List ℕ
        new = scaled_at F u (16 * t) 16 rows

        back : put_mid at (at + 16 - at) rows ys ≡ new
        back = put_is rows at (at + 16) ys (omega arith) ∙ ap (put rows at (at + 16)) ey

        here : (j : ℕ) → j < 16 → interleaved 16 new j t ≡ F.times (divisor (from + t)) (interleaved 16 rows₀ j t)
        here j jw = scaled_at_in F u (16 * t) 16 rows divide_room j jw ∙ ap₂ F.times eu (d.rest (16 * t + j) (omega arith))

        earlier : (j i : ℕ) → j < 16 → i < t → interleaved 16 new j i ≡ F.times (divisor (from + i)) (interleaved 16 rows₀ j i)
        earlier j i jw b = scaled_at_low F u (16 * t) 16 rows divide_room (16 * i + j) (place_lt 16 i j t jw b) ∙ d.done j i jw b

        turned : RowsDivided F columns from (t + 1) rows₀ new
        turned = record {
          below = below_scaled_at F u (16 * t) 16 rows divide_room d.below;
          done = λ j i jw b. elim (ℕ_discrete i t) [ yes q ↦ rw q (here j jw) | no q ↦ earlier j i jw (omega arith) ];
          rest = λ p b. let past : 16 * t + 16 ≤ p = omega (arith, mul-suc 16 t, ap (λ (n : ℕ). 16 * n) (add-one t)) in
              scaled_at_high F u (16 * t) 16 rows divide_room p past ∙ d.rest p (omega arith);
        }

        pub divide_turn : RowsDivided F columns from (t + 1) rows₀ (put_mid (16 * t) (16 * t + 16 - 16 * t) rows ys)
        divide_turn = rw back turned

    pub rows_all : (from count t : ℕ) (rows₀ rows : List ℕ) → t ≤ count → count ≤ t → RowsDivided F columns from t rows₀ rows
        → RowsDivided F columns from count rows₀ rows
    rows_all from count t rows₀ rows a b = subst (λ (n : ℕ). RowsDivided F columns from n rows₀ rows) (le_antisymm a b)

    -- ---- group by group: the rows from number from up to number to

    module _ (from to : ℕ) (rows₀ rows : List ℕ) (given : length rows₀ ≡ 16 * length columns) (low : from < to) (high : to ≤ length columns)
        (long : length rows ≡ length rows₀) where
      pub group_room : 16 * to ≤ length rows
      group_room = omega (arith, given, mul-le-mul_left 16 high)

      group_order : 16 * from ≤ 16 * to
      group_order = let l : from ≤ to = omega arith in mul-le-mul_left 16 l

      group_size : 16 * to - 16 * from ≡ 16 * (to - from)
      group_size =
          let e : to ≡ from + (to - from) = omega arith in
          omega (arith, mul-add 16 from (to - from), ap (λ (n : ℕ). 16 * n) e)

      pub group_long : length (part rows (16 * from) (16 * to)) ≡ 16 * (to - from)
      group_long = length_part rows (16 * from) (16 * to) group_order group_room ∙ group_size

      module _ (ys : List ℕ) (ly : length ys ≡ length (part rows (16 * from) (16 * to))) (d : RowsDivided F columns 0 from rows₀ rows)
          (g : RowsDivided F columns from (to - from) (part rows (16 * from) (16 * to)) ys) where
        size : length ys ≡ 16 * to - 16 * from
        size = ly ∙ group_long ∙ sym group_size

        group_here : (j t : ℕ) → j < 16 → from ≤ t → t < to
            → interleaved 16 (put rows (16 * from) (16 * to) ys) j t ≡ F.times (divisor (0 + t)) (interleaved 16 rows₀ j t)
        group_here j t jw a b =
            let e : from + (t - from) ≡ t = omega arith in
            let z : 0 + t ≡ t = omega arith in
            let i : t - from < to - from = omega arith in
            let s : 16 * from + (16 * (t - from) + j) ≡ 16 * t + j =
            sym (place_add 16 from (t - from) j) ∙ ap (λ (n : ℕ). 16 * n + j) e in
            let l : 16 * (t - from) + j < 16 * to - 16 * from = rw group_size (place_lt 16 (t - from) j (to - from) jw i) in
            ap (λ (p : ℕ). get_or (put rows (16 * from) (16 * to) ys) p 0) (sym s)
            ∙ put_in rows (16 * from) (16 * to) ys group_order group_room size (16 * (t - from) + j) l
            ∙ g.done j (t - from) jw i
            ∙ ap₂ F.times (ap divisor (e ∙ sym z))
            (part_at rows (16 * from) (16 * to) (16 * (t - from) + j) (omega arith)
            ∙ ap (λ (p : ℕ). get_or rows p 0) s ∙ d.rest (16 * t + j) (omega (arith, mul-le-mul_left 16 a)))

        group_earlier : (j t : ℕ) → j < 16 → t < from
            → interleaved 16 (put rows (16 * from) (16 * to) ys) j t ≡ F.times (divisor (0 + t)) (interleaved 16 rows₀ j t)
        group_earlier j t jw b =
            put_low rows (16 * from) (16 * to) ys group_order group_room size (16 * t + j) (place_lt 16 t j from jw b) ∙ d.done j t jw b

        grouped : RowsDivided F columns 0 to rows₀ (put rows (16 * from) (16 * to) ys)
        grouped = record {
          below = below_put rows (16 * from) (16 * to) ys group_order group_room size F.size d.below g.below;
          done = λ j t jw b. elim (dec_lt t from) [ yes l ↦ group_earlier j t jw l | no l ↦ group_here j t jw (omega arith) b ];
          rest = λ p b. put_high rows (16 * from) (16 * to) ys group_order group_room size p b ∙ d.rest p (omega (arith, group_order));
        }

        pub group_turn : RowsDivided F columns 0 to rows₀ (put_mid (16 * from) (16 * to - 16 * from) rows ys)
        group_turn = rw (put_is rows (16 * from) (16 * to) ys group_order) grouped

    pub groups_all : (from : ℕ) (rows₀ rows : List ℕ) → from ≤ length columns → length columns ≤ from → RowsDivided F columns 0 from rows₀ rows
        → Divided F columns rows₀ rows
    groups_all from rows₀ rows a b d = record {
      below = d.below;
      is = λ j t jw h. let z : 0 + t ≡ t = omega arith in
          d.done j t jw (omega arith) ∙ ap (λ (i : ℕ). F.times (divisor i) (interleaved 16 rows₀ j t)) z;
    }

  -- ---- `interpolate`

  pub interpolated : (w : ℕ) (columns rows₀ rows₁ rows₂ : List ℕ) → Joinable F w columns rows₀ → Nodup columns
      → Divided F columns rows₀ rows₁ → Joined F w columns rows₁ rows₂ → Interpolated F 16 w columns rows₀ rows₂
  interpolated w columns rows₀ rows₁ rows₂ p n d j = record {
    below = j.below;
    is = λ i t iw h.
        let k : i < 16 = omega (arith, p.narrow) in
        j.is i (get_or columns t 0) iw
        ∙ lagrange_sum_cong F columns (interleaved 16 rows₁ i) (divided F columns (interleaved 16 rows₀ i)) (get_or columns t 0) (λ t b. d.is i t k b)
        ∙ lagrange_at F columns (interleaved 16 rows₀ i) t p.columns_below n h (p.work_below (16 * t + i));
  }

  -- the rows stay zero from w on
  pub divided_joinable : (w : ℕ) (columns rows₀ rows₁ : List ℕ) → Joinable F w columns rows₀ → length rows₁ ≡ length rows₀
      → Divided F columns rows₀ rows₁ → Joinable F w columns rows₁
  divided_joinable w columns rows₀ rows₁ p long d = record {
    columns_below = p.columns_below;
    work_below = d.below;
    few = p.few;
    narrow = p.narrow;
    long = long ∙ p.long;
    zeros = λ t j b l k. d.is j t k b
        ∙ ap (F.times (F.inverse (others F columns t (get_or columns t 0)))) (p.zeros t j b l k)
        ∙ times_zero F (F.inverse (others F columns t (get_or columns t 0)));
  }
