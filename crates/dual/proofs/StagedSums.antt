-- The two stages of a word's sums against terms: what the turns of their loops leave, of sixteen columns at most.
-- Assumes nothing.
use mathlib.Core.Bool.{Bool}
use mathlib.Core.List.{List}
use mathlib.Core.Path.{◌≡◌, refl, sym, ap, ap₂, ◌∙◌, subst}
use Prim.Native.Nat.{ℕ, ◌+◌, ◌-◌, ◌*◌, ◌≤◌, ◌<◌}
use native.Mathlib.Nat.{mul-le-mul_left}
use native.Mathlib.Numerals.{add-one}
use native.Mathlib.Decide.{dec_lt}
use native.Mathlib.Omega.{arith}
use borrow.Rule.Slice.PartMut.{put_mid}
use lib.ListN.{length, get_or, replicate, length-replicate, get_or-eq_default}
use Rattle.field.specs.Curve.{IsCurve, IsShort}
use Rattle.field.specs.Plus.{plus}
use Rattle.field.specs.Field.{Field}
use Rattle.field.specs.Power.{power}
use Rattle.field.proofs.Curves.{sizes, short_sizes}
use Rattle.field.proofs.Fields.{field_of}
use Rattle.field.proofs.FieldLaws.{zero_lt, zero_times}
use Rattle.field.proofs.Sums.{sum_none, sum_suc, sum_cong, sum_zeros, sum_extend}
use Rattle.poly.specs.Inner.Lanes.{lanes}
use Rattle.poly.specs.Inner.Linear.{entry}
use Rattle.poly.specs.Inner.Ranges.{Below, Blocks, writes, part}
use Rattle.poly.specs.Inner.Rows.{summed}
use Rattle.poly.proofs.Blocks.{blocks_none, blocks_more}
use Rattle.poly.proofs.Entries.{get_or_zeros}
use Rattle.poly.proofs.LaneLaws.{lanes_at, is_lanes}
use Rattle.poly.proofs.LanePowers.{raised, raised_lanes, raised_none, raised_at, raised_more, raised_below}
use Rattle.poly.proofs.Parts.{length_part, part_at, put_is, length_put, put_high, below_back}
use Rattle.poly.proofs.Writes.{length_writes, writes_in, writes_out}
use Rattle.points.specs.Inner.Columns.{PaddedYs, column_y}
use Rattle.code.proofs.Stages.{columns_below}
use Rattle.code.specs.Inner.Encodable.{Staged}
use Rattle.code.specs.Inner.Readable.{WordOver}
use Rattle.dual.proofs.RowTests.{tells_same}
use Rattle.dual.specs.Inner.StagedSums.{first_symbols, column_sum, SummedInY, sum_by_power_of_x, staged_sum, PowersVanish, TermsVanish, Tells}

-- ---- sixteen lanes

-- c stores in sixteen zeros, where no more are needed
pub stores_lanes : (f : ℕ → ℕ) (c : ℕ) → c ≤ 16 → ((t : ℕ) → c ≤ t → f t ≡ 0) → writes (replicate 16 0) c f ≡ lanes f
stores_lanes f c few zeros =
    is_lanes f (writes (replicate 16 0) c f) (length_writes (replicate 16 0) f c ∙ length-replicate {A = ℕ} 16 0) (λ t k. at t (dec_lt t c))
  where
    at : (t : ℕ) → Dec (t < c) → entry (writes (replicate 16 0) c f) t ≡ f t
    at t (yes l) = writes_in (replicate 16 0) f c t l (omega (arith, length-replicate {A = ℕ} 16 0))
    at t (no d) = writes_out (replicate 16 0) f c t (omega arith) ∙ get_or_zeros 16 t ∙ sym (zeros t (omega arith))

-- the y number s of each column, stored in sixteen zeros
pub taken_ys : (q : ℕ) → IsCurve q → (all columns : List ℕ) (s : ℕ) → PaddedYs q all → length columns ≤ 16 → Below (field_of q).size columns → s < q → (r : List ℕ)
    → r ≡ writes (replicate 16 0) (length columns) (λ t. get_or all (q * get_or columns t 0 + s) 0)
    → ((t : ℕ) → t < length columns → entry r t ≡ column_y q columns t s) × Below (field_of q).size r × (length r ≡ 16)
taken_ys q curve all columns s h few small below r is_r = (
  λ t l. at t l ∙ h.at (get_or columns t 0) s (omega (arith, small t, (sizes q curve).size)) below,
  λ t. go t (dec_lt t (length columns)),
  ap length is_r ∙ length_writes (replicate 16 0) y (length columns) ∙ length-replicate {A = ℕ} 16 0,
)
  where
    y : ℕ → ℕ
    y t = get_or all (q * get_or columns t 0 + s) 0

    at : (t : ℕ) → t < length columns → entry r t ≡ y t
    at t l =
        ap (λ (x : List ℕ). entry x t) is_r ∙ writes_in (replicate 16 0) y (length columns) t l (omega (arith, length-replicate {A = ℕ} 16 0))

    go : (t : ℕ) → Dec (t < length columns) → entry r t < (field_of q).size
    go t (yes l) = rw (at t l) (h.symbols (q * get_or columns t 0 + s))
    go t (no d) =
        rw (ap (λ (x : List ℕ). entry x t) is_r ∙ writes_out (replicate 16 0) y (length columns) t (omega arith) ∙ get_or_zeros 16 t) (zero_lt (field_of q))

-- a row of another added to a list
length_summed : (n : ℕ) (src dst : List ℕ) → length (summed n src dst) ≡ length dst
unfolding summed
length_summed n src dst = length_writes dst (λ j. plus (entry dst j) (entry src j)) n

summed_at : (n : ℕ) (src dst : List ℕ) (t : ℕ) → t < n → n ≤ length dst → get_or (summed n src dst) t 0 ≡ plus (get_or dst t 0) (entry src t)
unfolding summed
summed_at n src dst t l fits = writes_in dst (λ j. plus (entry dst j) (entry src j)) n t l fits

-- ---- powers of places, added to rows of sixteen lanes

pub record Adding (F : Field) (places values rows₀ rows v : List ℕ) (j : ℕ) : Type 0 where
  pub long : length rows ≡ length rows₀
  pub done : Blocks 16 (λ i t. plus (get_or rows₀ (16 * i + t) 0) (raised F places values i t)) rows j
  pub rest : (p : ℕ) → 16 * j ≤ p → get_or rows p 0 ≡ get_or rows₀ p 0
  pub symbols : Below F.size rows
  pub lanes_are : v ≡ raised_lanes F places values j

module _ (F : Field) (places values rows₀ : List ℕ) where
  pub adding_none : length values ≡ 16 → Below F.size values → Below F.size rows₀ → Adding F places values rows₀ rows₀ values 0
  adding_none long small symbols =
      record {
        long = refl;
        done = blocks_none 16 _ rows₀;
        rest = λ p l. refl;
        symbols = symbols;
        lanes_are = raised_none F places values values small (is_lanes (entry values) values long (λ t k. refl));
      }

  pub adding_turn : (rows v last new : List ℕ) (j at : ℕ) → Adding F places values rows₀ rows v j → at ≡ 16 * j → at + 16 ≤ length rows
      → last ≡ summed 16 v (part rows at (at + 16)) → new ≡ lanes (λ t. F.times (entry places t) (entry v t))
      → Adding F places values rows₀ (put_mid at (at + 16 - at) rows last) new (j + 1)
  adding_turn rows v last new j at h is_at fits is_last is_new =
      record {
        long = ap length (put_is rows at (at + 16) last (omega arith)) ∙ length_put rows at (at + 16) last (omega arith) fits back_long ∙ h.long;
        done = blocks_more 16 (λ i t. plus (get_or rows₀ (16 * i + t) 0) (raised F places values i t)) rows last j at (at + 16) h.done is_at refl fits
            last_long added;
        rest = λ p l. ap (λ (x : List ℕ). get_or x p 0) (put_is rows at (at + 16) last (omega arith))
            ∙ put_high rows at (at + 16) last (omega arith) fits back_long p (omega arith) ∙ h.rest p (omega arith);
        symbols = below_back F.size rows last at (at + 16) (omega arith) fits back_long h.symbols small;
        lanes_are = raised_more F places values v j h.lanes_are new is_new ∙ ap (raised_lanes F places values) (sym (add-one j));
      }
    where
      mid : List ℕ
      mid = part rows at (at + 16)

      mid_long : length mid ≡ 16
      mid_long = length_part rows at (at + 16) (omega arith) fits ∙ omega arith

      last_long : length last ≡ 16
      last_long = ap length is_last ∙ length_summed 16 v mid ∙ mid_long

      back_long : length last ≡ at + 16 - at
      back_long = last_long ∙ omega arith

      at_last : (t : ℕ) → t < 16 → get_or last t 0 ≡ plus (get_or rows (at + t) 0) (entry v t)
      at_last t k =
          ap (λ (x : List ℕ). get_or x t 0) is_last ∙ summed_at 16 v mid t k (omega (arith, mid_long))
          ∙ ap (λ (x : ℕ). plus x (entry v t)) (part_at rows at (at + 16) t (omega arith))

      added : (t : ℕ) → t < 16 → get_or last t 0 ≡ plus (get_or rows₀ (16 * j + t) 0) (raised F places values j t)
      added t k =
          at_last t k
          ∙ ap₂ plus (h.rest (at + t) (omega arith) ∙ ap (λ (x : ℕ). get_or rows₀ (x + t) 0) is_at) (raised_at F places values v j h.lanes_are t k)

      small : Below F.size last
      small t = elim (dec_lt t 16) [
        | yes k ↦ rw (at_last t k)
            (F.plus_lt (get_or rows (at + t) 0) (entry v t) (h.symbols (at + t)) (raised_below F places values v j h.lanes_are t))
        | no d ↦ rw (get_or-eq_default last 0 {n = t} (omega (arith, last_long))) (zero_lt F)
      ]

-- ---- the first stage

-- a short block's word, as the stages ask for it, and whatever else has symbols only
pub word_staged : (q : ℕ) (columns word : List ℕ) → IsShort q → WordOver q columns word → (list : List ℕ) → Below (field_of q).size list → Staged q columns list
word_staged q columns word short h list small =
    record {
      curve = h.over.curve;
      columns_below = columns_below q columns h.over;
      few = omega (arith, h.few, (short_sizes q short).symbols);
      symbols = small;
    }

-- past the word there is nothing to be summed
symbols_past : (n q : ℕ) (columns word : List ℕ) (j t : ℕ) → length word ≤ q * t → first_symbols n q columns word j t ≡ 0
symbols_past n q columns word j t past =
    sum_zeros n _ (λ s l. ap (λ (x : ℕ). (field_of q).times x (power (field_of q) (column_y q columns t s) j))
    (get_or-eq_default word 0 {n = q * t + s} (omega arith))
    ∙ zero_times (field_of q) (power (field_of q) (column_y q columns t s) j))

module _ (q : ℕ) (columns word : List ℕ) (long : length word ≡ q * length columns) where
  past_columns : (t : ℕ) → length columns ≤ t → length word ≤ q * t
  past_columns t l = omega (arith, long, mul-le-mul_left q l)

  pub summed_none : (rows : List ℕ) → ((i : ℕ) → get_or rows i 0 ≡ 0) → SummedInY 0 q columns word rows
  summed_none rows zeros =
      record {
        sums = record { at = λ j t a b. zeros (16 * j + t) ∙ sym (sum_none _) };
        symbols = λ i. rw (zeros i) (zero_lt (field_of q));
      }

  -- the next symbols are values, times their y to each power
  pub summed_turn : (n : ℕ) (rows ys values new : List ℕ) → SummedInY n q columns word rows
      → ((t : ℕ) → t < length columns → entry ys t ≡ column_y q columns t n) → values ≡ lanes (λ t. get_or word (q * t + n) 0)
      → Blocks 16 (λ j t. plus (get_or rows (16 * j + t) 0) (raised (field_of q) ys values j t)) new q → Below (field_of q).size new
      → SummedInY (n + 1) q columns word new
  summed_turn n rows ys values new h is_ys is_values added small =
      subst (λ (k : ℕ). SummedInY k q columns word new) (sym (add-one n))
      (record {
        sums = record {
          at = λ j t a b. added.at j t a b ∙ ap₂ plus (h.sums.at j t a b) (next j t b (dec_lt t (length columns))) ∙ sym (sum_suc n (term j t));
        };
        symbols = small;
      })
    where
      term : ℕ → ℕ → ℕ → ℕ
      term j t s = (field_of q).times (get_or word (q * t + s) 0) (power (field_of q) (column_y q columns t s) j)

      value_at_lem : (t : ℕ) → t < 16 → entry values t ≡ get_or word (q * t + n) 0
      value_at_lem t b = ap (λ (x : List ℕ). entry x t) is_values ∙ lanes_at (λ t. get_or word (q * t + n) 0) t b

      next : (j t : ℕ) → t < 16 → Dec (t < length columns) → raised (field_of q) ys values j t ≡ term j t n
      next j t b (yes l) = ap₂ (λ (x y : ℕ). (field_of q).times x (power (field_of q) y j)) (value_at_lem t b) (is_ys t l)
      next j t b (no d) =
          let none : get_or word (q * t + n) 0 ≡ 0 = get_or-eq_default word 0 {n = q * t + n} (omega (arith, past_columns t (omega arith))) in
          ap (λ (x : ℕ). (field_of q).times x (power (field_of q) (entry ys t) j)) (value_at_lem t b ∙ none)
          ∙ zero_times (field_of q) (power (field_of q) (entry ys t) j)
          ∙ sym (ap (λ (x : ℕ). (field_of q).times x (power (field_of q) (column_y q columns t n) j)) none
          ∙ zero_times (field_of q) (power (field_of q) (column_y q columns t n) j))

  -- ---- the second stage over sixteen lanes is that over the columns
  pub lanes_staged : length columns ≤ 16 → (rows : List ℕ) → SummedInY q q columns word rows → (i j : ℕ) → j < q
      → sum_by_power_of_x 16 q columns i (λ t. get_or rows (16 * j + t) 0) ≡ staged_sum q columns word i j
  lanes_staged few rows h i j l =
      sum_cong 16 _ (λ t. (field_of q).times (column_sum q columns word j t) (power (field_of q) (get_or columns t 0) i))
      (λ t k. ap (λ (x : ℕ). (field_of q).times x (power (field_of q) (get_or columns t 0) i)) (h.sums.at j t l k))
      ∙ sum_extend (length columns) 16 _ few
      (λ t a b. ap (λ (x : ℕ). (field_of q).times x (power (field_of q) (get_or columns t 0) i)) (symbols_past q q columns word j t (past_columns t a))
      ∙ zero_times (field_of q) (power (field_of q) (get_or columns t 0) i))

-- ---- what a Bool tells of sums, it tells of equal ones

-- of the lanes of a row, and of the row
pub row_told : (q m j : ℕ) (columns rows places row : List ℕ) → places ≡ lanes (entry columns) → row ≡ lanes (λ t. get_or rows (16 * j + t) 0) → (b : Bool)
    → Tells b (PowersVanish q m j (λ i. sum_by_power_of_x 16 q places i (entry row)))
    → Tells b (PowersVanish q m j (λ i. sum_by_power_of_x 16 q columns i (λ t. get_or rows (16 * j + t) 0)))
row_told q m j columns rows places row is_places is_row b = tells_same b (λ z i w. sym (same i) ∙ z i w) (λ z i w. same i ∙ z i w)
  where
    same : (i : ℕ) → sum_by_power_of_x 16 q places i (entry row) ≡ sum_by_power_of_x 16 q columns i (λ t. get_or rows (16 * j + t) 0)
    same i =
        sum_cong 16 _ _
        (λ t k. ap₂ (λ (x y : ℕ). (field_of q).times x (power (field_of q) y i))
        (ap (λ (l : List ℕ). entry l t) is_row ∙ lanes_at (λ t. get_or rows (16 * j + t) 0) t k)
        (ap (λ (l : List ℕ). entry l t) is_places ∙ lanes_at (entry columns) t k))

pub sums_same : (q m : ℕ) (b : Bool) (f g : ℕ → ℕ → ℕ) → ((i j : ℕ) → j < q → f i j ≡ g i j) → Tells b (TermsVanish q m f) → Tells b (TermsVanish q m g)
sums_same q m b f g same =
    tells_same b (λ z j l i w. sym (same i j l) ∙ z j l i w) (λ z j l i w. same i j l ∙ z j l i w)
