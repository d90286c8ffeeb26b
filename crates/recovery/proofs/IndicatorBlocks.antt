-- The polynomial that is 1 at one point and 0 at every other, in blocks of sixteen: its tables by computed tests, the loop that writes the
-- blocks, and why they are its grid.
-- Assumes nothing.
use mathlib.Core.List.{List}
use mathlib.Core.Bool.{cond}
use mathlib.Core.Path.{◌≡◌, refl, sym, ap, ap₂, ◌∙◌, subst}
use Prim.Native.Nat.{ℕ, zero, suc, ◌+◌, ◌-◌, ◌*◌, ◌/◌, ◌%◌, ◌≤◌, ◌<◌}
use native.Mathlib.Nat.{mul-suc, mul-zero, div-add-mod, mod-lt}
use native.Mathlib.Decide.{dec_lt, ℕ_discrete}
use native.Mathlib.Omega.{arith}
use borrow.Author.Tests.{lt-ltb, le-ltb, ne_eqb}
use borrow.Rule.Slice.PartMut.{put_mid}
use lib.Dec.{T, ltb}
use lib.ListN.{length, get_or, get_or-eq_default}
use Rattle.field.specs.Curve.{IsCurve}
use Rattle.field.specs.Field.{Field}
use Rattle.field.specs.Plus.{plus}
use Rattle.field.specs.Power.{power}
use Rattle.field.proofs.Fields.{field_of}
use Rattle.field.proofs.FieldLaws.{zero_lt, zero_times, plus_times}
use Rattle.field.proofs.Plus.{plus_zero}
use Rattle.field.proofs.Powers.{power_zero, power_suc, power_add}
use Rattle.field.proofs.Table.{agrees, entry as table_entry, all_below, below_entry}
use Rattle.field.proofs.Curves.{each_curve, sizes}
use Rattle.poly.specs.Inner.Ranges.{Below, Blocks, part, put}
use Rattle.poly.specs.Inner.Linear.{entry}
use Rattle.poly.specs.Inner.Lanes.{lanes}
use Rattle.poly.specs.Inner.Rows.{stored, summed}
use Rattle.poly.specs.Inner.Indicators.{indicator}
use Rattle.poly.proofs.Blocks.{block_fits}
use Rattle.poly.proofs.Indicators.{indicator_lt}
use Rattle.poly.proofs.LaneLaws.{lanes_at, lanes_below}
use Rattle.poly.proofs.Multiples.{length_stored, stored_in}
use Rattle.poly.proofs.Parts.{length_part, put_is, length_put, put_in, put_high, below_back}
use Rattle.poly.proofs.Writes.{writes_in, writes_out, below_writes}
use Rattle.points.proofs.Places.{quotient, remainder}
use Rattle.recovery.specs.Inner.Gaps.{point_term}
use Rattle.recovery.specs.Inner.Indicators.{blocks_of, YFactors, XPowers, BlocksWritten}

-- ---- the tables

-- sixteen numbers for each symbol, side by side
abbrev pub sixteens : (ℕ → ℕ → ℕ) → ℕ → ℕ
sixteens f p = f (p / 16) (p % 16)

sixteen_at : (f : ℕ → ℕ → ℕ) (n : ℕ) (list : List ℕ) → T (agrees (sixteens f) 0 (16 * n) list) → (s t : ℕ) → s < n → t < 16
    → entry list (16 * s + t) ≡ f s t
sixteen_at f n list test s t l k =
    table_entry (sixteens f) (16 * n) list test (16 * s + t) (omega (arith, block_fits 16 s n l))
    ∙ ap₂ f (quotient 16 (omega arith) s t k) (remainder 16 (omega arith) s t k)

-- the factors in y
abbrev pub y_factor : ℕ → ℕ → ℕ → ℕ
y_factor q y t = indicator (field_of q) q y (t % q)

pub y_factors_table : (q n : ℕ) (list : List ℕ) → length list ≡ n → 16 * (q * q) ≤ n → T (agrees (sixteens (y_factor q)) 0 (16 * (q * q)) list)
    → T (all_below (field_of q).size list) → YFactors q list
y_factors_table q n list long fits test small =
    record {
      long = omega (arith, long);
      symbols = below_entry (field_of q).size list (zero_lt (field_of q)) small;
      at = λ y t l k. sixteen_at (y_factor q) (q * q) list test y t l k;
    }

-- entry t of the last block, in the grid
abbrev pub last_place : ℕ → ℕ → ℕ
last_place q t = 16 * (blocks_of q - 1) + t

-- the powers of x
abbrev pub x_power_at : ℕ → ℕ → ℕ → ℕ
x_power_at q x t = cond (ltb (last_place q t) (q * q * q)) (power (field_of q) x (q * q - 1 - last_place q t / q)) 0

pub x_powers_table : (q n : ℕ) (list : List ℕ) → length list ≡ n → 16 * (q * q) ≤ n → T (agrees (sixteens (x_power_at q)) 0 (16 * (q * q)) list)
    → T (all_below (field_of q).size list) → XPowers q list
x_powers_table q n list long fits test small =
    record {
      long = omega (arith, long);
      symbols = below_entry (field_of q).size list (zero_lt (field_of q)) small;
      at = λ x t l k b. sixteen_at (x_power_at q) (q * q) list test x t l k ∙ rw (lt-ltb (last_place q t) (q * q * q) b) refl;
      zeros = λ x t l k b. sixteen_at (x_power_at q) (q * q) list test x t l k ∙ rw (le-ltb (last_place q t) (q * q * q) b) refl;
    }

-- ---- the loop that writes the blocks

-- the blocks from b on are written
pub record BlocksFrom (q c count : ℕ) (last grid₀ grid : List ℕ) (factor b : ℕ) : Type 0 where
  pub within : b ≤ count
  pub long : length grid ≡ length grid₀
  pub symbols : Below (field_of q).size grid
  pub is_factor : factor ≡ power (field_of q) c (count - b)
  pub at : (i t : ℕ) → b ≤ i → i < count → t < 16
      → entry grid (16 * i + t) ≡ (field_of q).times (entry last t) (power (field_of q) c (count - 1 - i))
  pub kept : (i : ℕ) → 16 * count ≤ i → entry grid i ≡ entry grid₀ i

module _ (q c count : ℕ) (last grid₀ : List ℕ) where
  pub blocks_none : Below (field_of q).size grid₀ → BlocksFrom q c count last grid₀ grid₀ 1 count
  blocks_none small =
      let none : 0 ≡ count - count = omega arith in
      record {
        within = omega arith;
        long = refl;
        symbols = small;
        is_factor = sym (power_zero (field_of q) c) ∙ ap (power (field_of q) c) none;
        at = λ i t a b l. absurd (omega arith);
        kept = λ i l. refl;
      }

  -- the block before
  module _ (grid : List ℕ) (factor b : ℕ) (h : BlocksFrom q c count last grid₀ grid factor b) (pos : 0 < b) (room : 16 * count ≤ length grid₀) where
    pub block_within : (16 * (b - 1) ≤ 16 * (b - 1) + 16) × (16 * (b - 1) + 16 ≤ length grid) × (length (part grid (16 * (b - 1)) (16 * (b - 1) + 16)) ≡ 16)
    block_within =
        let fits : 16 * (b - 1) + 16 ≤ length grid = omega (arith, h.within, h.long) in
        (omega arith, fits, length_part grid (16 * (b - 1)) (16 * (b - 1) + 16) (omega arith) fits ∙ omega arith)

    pub blocks_turn : (block new : List ℕ) → block ≡ lanes (λ t. (field_of q).times (entry last t) factor)
        → new ≡ stored 16 block (part grid (16 * (b - 1)) (16 * (b - 1) + 16))
        → BlocksFrom q c count last grid₀ (put_mid (16 * (b - 1)) (16 * (b - 1) + 16 - 16 * (b - 1)) grid new) ((field_of q).times c factor) (b - 1)
    blocks_turn block new is_block is_new =
        record {
          within = omega (arith, h.within);
          long = ap length back ∙ length_put grid from to new w.0 w.1 new_long ∙ h.long;
          symbols = below_back (field_of q).size grid new from to w.0 w.1 new_long h.symbols new_below;
          is_factor = ap ((field_of q).times c) h.is_factor ∙ sym (power_suc (field_of q) c (count - b)) ∙ ap (power (field_of q) c) more;
          at = λ i t a l k. ap (λ (x : List ℕ). entry x (16 * i + t)) back ∙ go i t a l k (ℕ_discrete i (b - 1));
          kept = λ i l.
              ap (λ (x : List ℕ). entry x i) back ∙ put_high grid from to new w.0 w.1 new_long i (omega (arith, h.within)) ∙ h.kept i l;
        }
      where
        from : ℕ
        from = 16 * (b - 1)

        to : ℕ
        to = 16 * (b - 1) + 16

        w : (from ≤ to) × (to ≤ length grid) × (length (part grid from to) ≡ 16)
        w = block_within

        back : put_mid from (to - from) grid new ≡ put grid from to new
        back = put_is grid from to new w.0

        new_long : length new ≡ to - from
        new_long = ap length is_new ∙ length_stored 16 block (part grid from to) ∙ w.2 ∙ omega arith

        new_at : (t : ℕ) → t < 16 → entry new t ≡ (field_of q).times (entry last t) factor
        new_at t k =
            ap (λ (x : List ℕ). entry x t) is_new
            ∙ stored_in 16 block (part grid from to) t k (omega (arith, w.2))
            ∙ ap (λ (x : List ℕ). entry x t) is_block
            ∙ lanes_at (λ t. (field_of q).times (entry last t) factor) t k

        new_below : Below (field_of q).size new
        new_below t = elim (dec_lt t 16) [
          | yes k ↦ rw (new_at t k) ((field_of q).times_lt (entry last t) factor)
          | no d ↦ rw (get_or-eq_default new 0 {n = t} (omega (arith, new_long))) (zero_lt (field_of q))
        ]

        more : suc (count - b) ≡ count - (b - 1)
        more = omega (arith, h.within)

        go : (i t : ℕ) → b - 1 ≤ i → i < count → t < 16 → Dec (i ≡ b - 1)
            → entry (put grid from to new) (16 * i + t) ≡ (field_of q).times (entry last t) (power (field_of q) c (count - 1 - i))
        go i t a l k (yes e) =
            let place : 16 * i + t ≡ from + t = omega arith in
            let same : count - b ≡ count - 1 - i = omega arith in
            ap (λ (x : ℕ). entry (put grid from to new) x) place
            ∙ put_in grid from to new w.0 w.1 new_long t (omega arith)
            ∙ new_at t k
            ∙ ap ((field_of q).times (entry last t)) (h.is_factor ∙ ap (power (field_of q) c) same)
        go i t a l k (no d) =
            put_high grid from to new w.0 w.1 new_long (16 * i + t) (omega arith) ∙ h.at i t (omega arith) l k

  pub blocks_all : (grid : List ℕ) (factor b : ℕ) → BlocksFrom q c count last grid₀ grid factor b → b ≤ 0 → BlocksWritten q c count last grid₀ grid
  blocks_all grid factor b h z = record { symbols = h.symbols; at = λ i t l k. h.at i t (omega arith) l k; kept = h.kept }

-- ---- why the blocks are the grid

power_power : (F : Field) (a m n : ℕ) → power F (power F a m) n ≡ power F a (m * n)
power_power F a m zero = power_zero F (power F a m) ∙ sym (ap (power F a) (mul-zero m) ∙ power_zero F a)
power_power F a m (suc n) =
    let e : m + m * n ≡ m * suc n = omega (arith, mul-suc m n) in
    power_suc F (power F a m) n ∙ ap (F.times (power F a m)) (power_power F a m n) ∙ sym (power_add F a m (m * n)) ∙ ap (power F a) e

-- the coefficients of an indicator
indicator_zero : (F : Field) (n b : ℕ) → indicator F n b 0 ≡ plus (power F b (n - 1 - 0)) 1
unfolding indicator
indicator_zero F n b = refl

indicator_suc : (F : Field) (n b i : ℕ) → indicator F n b (suc i) ≡ power F b (n - 1 - suc i)
unfolding indicator
indicator_suc F n b i = rw (ne_eqb (suc i) 0 (λ e. omega arith)) (plus_zero (power F b (n - 1 - suc i)))

-- the power of x that each block has more than the next
abbrev step : ℕ → ℕ
step q = q * q - 16 * (blocks_of q - 1) / q

-- the numbers of entry e of a grid, which is entry e % 16 of block e / 16
record Numbers (q e : ℕ) : Type 0 where
  block : e / 16 < blocks_of q
  last : last_place q (e % 16) < q * q * q
  exponent : q * q - 1 - last_place q (e % 16) / q + step q * (blocks_of q - 1 - e / 16) ≡ q * q - 1 - e / q
  in_y : e % 16 % q ≡ e % q

numbers : (q : ℕ) → IsCurve q → (e : ℕ) → e < q * q * q → Numbers q e
numbers =
    each_curve (λ q. (e : ℕ) → e < q * q * q → Numbers q e)
    (λ e l. record { block = omega arith; last = omega arith; exponent = omega arith; in_y = omega arith })
    (λ e l. record { block = omega arith; last = omega arith; exponent = omega arith; in_y = omega arith })
    (λ e l. record { block = omega arith; last = omega arith; exponent = omega arith; in_y = omega arith })

first_power : (q : ℕ) → IsCurve q → (last_place q 0 < q * q * q) × (suc (q * q - 1 - last_place q 0 / q) ≡ step q)
first_power = each_curve (λ q. (last_place q 0 < q * q * q) × (suc (q * q - 1 - last_place q 0 / q) ≡ step q))
    (omega arith, omega arith) (omega arith, omega arith) (omega arith, omega arith)

pub grid_room : (q : ℕ) → IsCurve q → q ≤ 16 * blocks_of q
grid_room = each_curve (λ q. q ≤ 16 * blocks_of q) (omega arith) (omega arith) (omega arith)

-- sixteen that are taken from a list
pub taken_symbols : (n at : ℕ) (list taken : List ℕ) → Below n list → taken ≡ lanes (λ t. get_or list (at + t) 0) → Below n taken
taken_symbols n at list taken h e = rw e (lanes_below (λ t. get_or list (at + t) 0) n (λ t l. h (at + t)))

-- the factors in y and the powers of x of a point
module _ (q : ℕ) (curve : IsCurve q) (factors powers : List ℕ) (fs : YFactors q factors) (ps : XPowers q powers) (x y : ℕ) (xl : x < q * q)
    (yl : y < q * q) (ys xs : List ℕ) (is_ys : ys ≡ lanes (λ t. get_or factors (16 * y + t) 0))
    (is_xs : xs ≡ lanes (λ t. get_or powers (16 * x + t) 0)) where
  ys_at : (t : ℕ) → t < 16 → entry ys t ≡ indicator (field_of q) q y (t % q)
  ys_at t l = ap (λ (v : List ℕ). entry v t) is_ys ∙ lanes_at (λ t. get_or factors (16 * y + t) 0) t l ∙ fs.at y t yl l

  xs_at : (t : ℕ) → t < 16 → entry xs t ≡ entry powers (16 * x + t)
  xs_at t l = ap (λ (v : List ℕ). entry v t) is_xs ∙ lanes_at (λ t. get_or powers (16 * x + t) 0) t l

  -- the last block, the grid that the blocks make, and the grid
  module _ (last : List ℕ) (c count : ℕ) (grid₀ grid₁ grid : List ℕ)
      (is_last : last ≡ lanes (λ t. (field_of q).times (entry xs t) (entry ys t))) (is_c : c ≡ (field_of q).times x (entry xs 0))
      (is_count : count ≡ blocks_of q) (zeros : (i : ℕ) → entry grid₀ i ≡ 0) (written : BlocksWritten q c count last grid₀ grid₁)
      (fits : q ≤ length grid₁) (is_grid : grid ≡ summed q ys grid₁) where
    last_at : (t : ℕ) → t < 16 → entry last t ≡ (field_of q).times (entry xs t) (entry ys t)
    last_at t l = ap (λ (v : List ℕ). entry v t) is_last ∙ lanes_at (λ t. (field_of q).times (entry xs t) (entry ys t)) t l

    c_is : c ≡ power (field_of q) x (step q)
    c_is =
        let f = first_power q curve in
        is_c ∙ ap ((field_of q).times x) (xs_at 0 (omega arith) ∙ ps.at x 0 xl (omega arith) f.0)
        ∙ sym (power_suc (field_of q) x (q * q - 1 - last_place q 0 / q)) ∙ ap (power (field_of q) x) f.1

    -- entry t of block b
    block_at : (b t : ℕ) → b < blocks_of q → t < 16
        → entry grid₁ (16 * b + t) ≡ (field_of q).times ((field_of q).times (entry xs t) (entry ys t)) (power (field_of q) c (blocks_of q - 1 - b))
    block_at b t l k =
        written.at b t (omega arith) k
        ∙ ap₂ (field_of q).times (last_at t k) (ap (λ (n : ℕ). power (field_of q) c (n - 1 - b)) is_count)

    products : (e : ℕ) → e < q * q * q
        → entry grid₁ e ≡ (field_of q).times (power (field_of q) x (q * q - 1 - e / q)) (indicator (field_of q) q y (e % q))
    products e l =
        let F = field_of q in
        let n = numbers q curve e l in
        let t : e % 16 < 16 = mod-lt e (omega arith) in
        let u : ℕ = q * q - 1 - last_place q (e % 16) / q in
        let v : ℕ = step q * (blocks_of q - 1 - e / 16) in
        let Y : ℕ = indicator F q y (e % q) in
        let is_x : entry xs (e % 16) ≡ power F x u = xs_at (e % 16) t ∙ ps.at x (e % 16) xl t n.last in
        let is_y : entry ys (e % 16) ≡ Y = ys_at (e % 16) t ∙ ap (indicator F q y) n.in_y in
        let is_p : power F c (blocks_of q - 1 - e / 16) ≡ power F x v =
        ap (λ (a : ℕ). power F a (blocks_of q - 1 - e / 16)) c_is ∙ power_power F x (step q) (blocks_of q - 1 - e / 16) in
        ap (entry grid₁) (sym (div-add-mod e 16))
        ∙ block_at (e / 16) (e % 16) n.block t
        ∙ ap₂ F.times (ap₂ F.times is_x is_y) is_p
        ∙ F.times_assoc (power F x u) Y (power F x v)
        ∙ ap (F.times (power F x u)) (F.times_comm Y (power F x v))
        ∙ sym (F.times_assoc (power F x u) (power F x v) Y)
        ∙ ap (λ (a : ℕ). F.times a Y) (sym (power_add F x u v) ∙ ap (power F x) n.exponent)

    -- past the grid
    past : (e : ℕ) → q * q * q ≤ e → entry grid₁ e ≡ 0
    past e l = elim (dec_lt e (16 * blocks_of q)) [
      | yes b ↦
          let F = field_of q in
          let t : e % 16 < 16 = mod-lt e (omega arith) in
          let whole : 16 * (e / 16) + e % 16 ≡ e = div-add-mod e 16 in
          let p : ℕ = power F c (blocks_of q - 1 - e / 16) in
          ap (entry grid₁) (sym whole)
          ∙ block_at (e / 16) (e % 16) (omega arith) t
          ∙ ap (λ (a : ℕ). F.times (F.times a (entry ys (e % 16))) p) (xs_at (e % 16) t ∙ ps.zeros x (e % 16) xl t (omega arith))
          ∙ ap (λ (a : ℕ). F.times a p) (zero_times F (entry ys (e % 16)))
          ∙ zero_times F p
      | no d ↦ written.kept e (omega arith) ∙ zeros e
    ]

    low : (p : ℕ) → p < q → entry grid p ≡ plus (entry grid₁ p) (entry ys p)
    unfolding summed
    low p l = ap (λ (v : List ℕ). entry v p) is_grid ∙ writes_in grid₁ (λ j. plus (entry grid₁ j) (entry ys j)) q p l fits

    high : (p : ℕ) → q ≤ p → entry grid p ≡ entry grid₁ p
    unfolding summed
    high p l = ap (λ (v : List ℕ). entry v p) is_grid ∙ writes_out grid₁ (λ j. plus (entry grid₁ j) (entry ys j)) q p l

    grid_at : Blocks q (point_term q x y) grid (q * q)
    grid_at = record { at = at }
      where
        pos : 0 < q
        pos = omega (arith, (sizes q curve).low)

        within : (i j : ℕ) → i < q * q → j < q → q * i + j < q * q * q
        within i j l k = omega (arith, block_fits q i (q * q) l, (sizes q curve).grid)

        term : (i j : ℕ) → i < q * q → j < q
            → entry grid₁ (q * i + j) ≡ (field_of q).times (power (field_of q) x (q * q - 1 - i)) (indicator (field_of q) q y j)
        term i j l k =
            products (q * i + j) (within i j l k)
            ∙ ap₂ (λ (u v : ℕ). (field_of q).times (power (field_of q) x (q * q - 1 - u)) (indicator (field_of q) q y v)) (quotient q pos i j k)
            (remainder q pos i j k)

        at : (i j : ℕ) → i < q * q → j < q → entry grid (q * i + j) ≡ point_term q x y i j
        at zero j l k =
            let F = field_of q in
            let P : ℕ = power F x (q * q - 1 - 0) in
            let Y : ℕ = indicator F q y j in
            let first : q * 0 + j < q = omega (arith, mul-zero q) in
            let same : (q * 0 + j) % q ≡ j = remainder q pos 0 j k in
            low (q * 0 + j) first
            ∙ ap₂ plus (term 0 j l k) (ys_at (q * 0 + j) (omega (arith, (sizes q curve).high)) ∙ ap (indicator F q y) same)
            ∙ ap (plus (F.times P Y)) (sym (F.times_one Y (indicator_lt F q y j)))
            ∙ sym (plus_times F P 1 Y)
            ∙ ap (λ (a : ℕ). F.times a Y) (sym (indicator_zero F (q * q) x))
        at (suc i) j l k =
            high (q * suc i + j) (omega (arith, mul-suc q i)) ∙ term (suc i) j l k
            ∙ ap (λ (a : ℕ). (field_of q).times a (indicator (field_of q) q y j)) (sym (indicator_suc (field_of q) (q * q) x i))

    symbols : Below (field_of q).size grid
    unfolding summed
    symbols =
        subst (Below (field_of q).size) (sym is_grid)
        (below_writes grid₁ (λ j. plus (entry grid₁ j) (entry ys j)) (field_of q).size q fits written.symbols
        (λ j l. (field_of q).plus_lt (entry grid₁ j) (entry ys j) (written.symbols j)
        (taken_symbols (field_of q).size (16 * y) factors ys fs.symbols is_ys j)))

    pub point_written : (Blocks q (point_term q x y) grid (q * q) × Below (field_of q).size grid) × ((i : ℕ) → q * q * q ≤ i → entry grid i ≡ 0)
    point_written =
        let some : 0 < q * q = omega arith in
        ((grid_at, symbols), λ i l. high i (omega (arith, (sizes q curve).grid, block_fits q 0 (q * q) some)) ∙ past i l)
