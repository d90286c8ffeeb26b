-- Tables of the multiples of a vector, written sixteen numbers at a time, and what is left of a vector that is cleared by them.
-- Assumes nothing.
use mathlib.Core.List.{List}
use mathlib.Core.Path.{◌≡◌, refl, sym, ap, ap₂, ◌∙◌}
use Prim.Native.Nat.{ℕ, suc, ◌+◌, ◌-◌, ◌*◌, ◌/◌, ◌%◌, ◌^◌, ◌≤◌, ◌<◌}
use native.Mathlib.Nat.{mul-suc, mul-add, mul-one, mul_left_comm, mul-le-mul_left}
use native.Mathlib.Decide.{dec_lt, ℕ_discrete}
use native.Mathlib.Omega.{arith}
use borrow.Rule.Slice.PartMut.{put_mid}
use lib.ListN.{length, get_or, length-replicate}
use Rattle.field.specs.Curve.{bits_of}
use Rattle.field.specs.Inner.Halves.{half_of}
use Rattle.field.specs.Plus.{plus}
use Rattle.field.specs.Field.{Field}
use Rattle.field.proofs.Fields.{field_of}
use Rattle.field.proofs.FieldLaws.{zero_lt, zero_times, plus_times}
use Rattle.field.proofs.Halves.{halves, low_half_lt, high_half_lt, half_lt, two_le_half, two_times, two_times_half, plus_one}
use Rattle.poly.specs.Inner.Ranges.{Below, writes, part}
use Rattle.poly.specs.Inner.Linear.{entry}
use Rattle.poly.specs.Inner.Lanes.{lanes}
use Rattle.poly.specs.Inner.Rows.{stored, cleared}
use Rattle.linear.specs.Inner.Eliminating.{Table, Multiples, Doubled, Clearing}
use Rattle.poly.proofs.Entries.{zeros, get_or_zeros}
use Rattle.poly.proofs.Parts.{length_part, part_at, put_is, length_put, put_low, put_in, put_high, below_put, below_part}
use Rattle.poly.proofs.Multiples.{length_stored, stored_in}
use Rattle.poly.proofs.LaneLaws.{lanes_at, lanes_below}
use Rattle.poly.proofs.Writes.{length_writes, writes_in, below_writes, writes_cong}

-- ---- sixteen numbers in the place of sixteen

-- new is out, but has those of a from p on
pub record Block (out a : List ℕ) (p : ℕ) (new : List ℕ) : Type 0 where
  pub long : length new ≡ length out
  pub inside : (t : ℕ) → t < 16 → get_or new (p + t) 0 ≡ get_or a t 0
  pub low : (i : ℕ) → i < p → get_or new i 0 ≡ get_or out i 0
  pub high : (i : ℕ) → p + 16 ≤ i → get_or new i 0 ≡ get_or out i 0

pub block_written : (out a last : List ℕ) (p : ℕ) → p + 16 ≤ length out → last ≡ stored 16 a (part out p (p + 16))
    → Block out a p (put_mid p (p + 16 - p) out last)
block_written out a last p fits e =
    rw (put_is out p (p + 16) last (omega arith))
    record {
      long = length_put out p (p + 16) last (omega arith) fits last_long;
      inside =
          λ t l. put_in out p (p + 16) last (omega arith) fits last_long t (omega arith)
          ∙ ap (λ (x : List ℕ). get_or x t 0) e ∙ stored_in 16 a row t l (omega (arith, row_long));
      low = put_low out p (p + 16) last (omega arith) fits last_long;
      high = put_high out p (p + 16) last (omega arith) fits last_long;
    }
  where
    row : List ℕ
    row = part out p (p + 16)

    row_long : length row ≡ 16
    row_long = length_part out p (p + 16) (omega arith) fits ∙ omega arith

    last_long : length last ≡ p + 16 - p
    last_long = ap length e ∙ length_stored 16 a row ∙ row_long ∙ omega arith

pub block_below : (n : ℕ) (out a : List ℕ) (p : ℕ) (new : List ℕ) → Block out a p new → Below n out → Below n a → Below n new
block_below n out a p new h old added i = go (dec_lt i p) (dec_lt i (p + 16))
  where
    go : Dec (i < p) → Dec (i < p + 16) → get_or new i 0 < n
    go (yes l) d = rw (h.low i l) (old i)
    go (no l) (yes k) =
        let e : p + (i - p) ≡ i = omega arith in
        rw (← e) (rw (h.inside (i - p) (omega arith)) (added (i - p)))
    go (no l) (no k) = rw (h.high i (omega arith)) (old i)

-- ---- rows 2·a and 2·a + 1 of a table

-- the first j of their entries are written; j is a multiple of 16
pub record Doubling (F : Field) (n a : ℕ) (table₀ table : List ℕ) (j : ℕ) : Type 0 where
  pub blocks : ℕ
  pub is_at : j ≡ 16 * blocks
  pub long : length table ≡ length table₀
  pub symbols : Below F.size table
  pub even : (e : ℕ) → e < j → entry table (2 * (n * a) + e) ≡ F.times 2 (entry table₀ (n * a + e))
  pub odd : (e : ℕ) → e < j → entry table (2 * (n * a) + n + e) ≡ plus (F.times 2 (entry table₀ (n * a + e))) (entry table₀ (n + e))
  pub kept : (i : ℕ) → i < 2 * (n * a) → entry table i ≡ entry table₀ i

pub doubling_none : (F : Field) (n a : ℕ) (table : List ℕ) → Below F.size table → Doubling F n a table table 0
doubling_none F n a table h =
    record {
      blocks = 0;
      is_at = refl;
      long = refl;
      symbols = h;
      even = λ e l. absurd (omega arith);
      odd = λ e l. absurd (omega arith);
      kept = λ i l. refl;
    }

-- the rows are within the table, and row a and row 1 before them
pub rows_fit : (n a length : ℕ) → 1 ≤ a → n * (2 * a + 2) ≤ length → (n ≤ n * a) × (2 * (n * a) + n + n ≤ length)
rows_fit n a length one room =
    let k : n * 1 ≤ n * a = mul-le-mul_left n one in
    (omega (arith, mul-one n), omega (arith, mul-add n (2 * a) 2, mul_left_comm n 2 a))

module _ (F : Field) (n a : ℕ) (table₀ table : List ℕ) (j : ℕ) (h : Doubling F n a table₀ table j) (sixteens : n % 16 ≡ 0) (more : j < n)
    (below : n ≤ n * a) (room : 2 * (n * a) + n + n ≤ length table₀) where
  pub block_in : j + 16 ≤ n
  block_in = omega (arith, h.is_at)

  -- what stands in row a and in row 1
  source_at : (t : ℕ) → t < 16
      → (get_or table (n * a + j + t) 0 ≡ entry table₀ (n * a + (j + t))) × (get_or table (n + j + t) 0 ≡ entry table₀ (n + (j + t)))
  source_at t l =
      let in_a : n * a + j + t ≡ n * a + (j + t) = omega arith in
      let in_one : n + j + t ≡ n + (j + t) = omega arith in (
        ap (entry table) in_a ∙ h.kept (n * a + (j + t)) (omega (arith, block_in)),
        ap (entry table) in_one ∙ h.kept (n + (j + t)) (omega (arith, block_in)),
      )

  pub doubling_turn : (row first double sum last next : List ℕ) → row ≡ lanes (λ t. get_or table (n * a + j + t) 0)
      → first ≡ lanes (λ t. get_or table (n + j + t) 0) → double ≡ lanes (λ t. F.times 2 (entry row t))
      → sum ≡ lanes (λ t. plus (entry double t) (entry first t))
      → last ≡ stored 16 double (part table (2 * (n * a) + j) (2 * (n * a) + j + 16))
      → (middle : List ℕ) → middle ≡ put_mid (2 * (n * a) + j) (2 * (n * a) + j + 16 - (2 * (n * a) + j)) table last
      → next ≡ stored 16 sum (part middle (2 * (n * a) + n + j) (2 * (n * a) + n + j + 16))
      → Doubling F n a table₀ (put_mid (2 * (n * a) + n + j) (2 * (n * a) + n + j + 16 - (2 * (n * a) + n + j)) middle next) (j + 16)
  doubling_turn row first double sum last next is_row is_first is_double is_sum is_last middle is_middle is_next =
      record {
        blocks = suc h.blocks;
        is_at = omega (arith, h.is_at, mul-suc 16 h.blocks);
        long = odd_block.long ∙ even_block.long ∙ h.long;
        symbols =
            block_below F.size middle sum (odd + j) new odd_block
            (block_below F.size table double (even + j) middle even_block h.symbols double_symbols) sum_symbols;
        even = λ e l. odd_block.low (even + e) (omega (arith, block_in)) ∙ even_row e l (dec_lt e j);
        odd = λ e l. odd_row e l (dec_lt e j);
        kept = λ i l. odd_block.low i (omega arith) ∙ even_block.low i (omega arith) ∙ h.kept i l;
      }
    where
      even : ℕ
      even = 2 * (n * a)

      odd : ℕ
      odd = 2 * (n * a) + n

      new : List ℕ
      new = put_mid (odd + j) (odd + j + 16 - (odd + j)) middle next

      even_block : Block table double (even + j) middle
      even_block = rw is_middle (block_written table double last (even + j) (omega (arith, h.long, block_in)) is_last)

      odd_block : Block middle sum (odd + j) new
      odd_block = block_written middle sum next (odd + j) (omega (arith, even_block.long, h.long, block_in)) is_next

      double_at : (t : ℕ) → t < 16 → entry double t ≡ F.times 2 (entry table₀ (n * a + (j + t)))
      double_at t l =
          ap (λ (x : List ℕ). get_or x t 0) is_double ∙ lanes_at _ t l
          ∙ ap (F.times 2) (ap (λ (x : List ℕ). get_or x t 0) is_row ∙ lanes_at _ t l ∙ (source_at t l).0)

      sum_at : (t : ℕ) → t < 16 → entry sum t ≡ plus (F.times 2 (entry table₀ (n * a + (j + t)))) (entry table₀ (n + (j + t)))
      sum_at t l =
          ap (λ (x : List ℕ). get_or x t 0) is_sum ∙ lanes_at _ t l
          ∙ ap₂ plus (double_at t l) (ap (λ (x : List ℕ). get_or x t 0) is_first ∙ lanes_at _ t l ∙ (source_at t l).1)

      double_symbols : Below F.size double
      double_symbols = rw is_double (lanes_below _ F.size (λ t l. F.times_lt 2 (entry row t)))

      first_symbols : Below F.size first
      first_symbols = rw is_first (lanes_below _ F.size (λ t l. h.symbols (n + j + t)))

      sum_symbols : Below F.size sum
      sum_symbols =
          rw is_sum (lanes_below _ F.size (λ t l. F.plus_lt (entry double t) (entry first t) (double_symbols t) (first_symbols t)))

      even_row : (e : ℕ) → e < j + 16 → Dec (e < j) → entry middle (even + e) ≡ F.times 2 (entry table₀ (n * a + e))
      even_row e l (yes k) = even_block.low (even + e) (omega arith) ∙ h.even e k
      even_row e l (no k) =
          let place : even + e ≡ even + j + (e - j) = omega arith in
          let back : n * a + (j + (e - j)) ≡ n * a + e = omega arith in
          ap (entry middle) place ∙ even_block.inside (e - j) (omega arith) ∙ double_at (e - j) (omega arith)
          ∙ ap (λ (x : ℕ). F.times 2 (entry table₀ x)) back

      odd_row : (e : ℕ) → e < j + 16 → Dec (e < j)
          → entry new (odd + e) ≡ plus (F.times 2 (entry table₀ (n * a + e))) (entry table₀ (n + e))
      odd_row e l (yes k) =
          odd_block.low (odd + e) (omega arith) ∙ even_block.high (odd + e) (omega (arith, block_in)) ∙ h.odd e k
      odd_row e l (no k) =
          let place : odd + e ≡ odd + j + (e - j) = omega arith in
          let back : j + (e - j) ≡ e = omega arith in
          ap (entry new) place ∙ odd_block.inside (e - j) (omega arith) ∙ sum_at (e - j) (omega arith)
          ∙ ap (λ (x : ℕ). plus (F.times 2 (entry table₀ (n * a + x))) (entry table₀ (n + x))) back

-- every entry of both rows is written
pub doubling_all : (F : Field) (n a : ℕ) (table₀ table : List ℕ) (j : ℕ) → Doubling F n a table₀ table j → n ≤ j → Doubled F n a table₀ table
doubling_all F n a table₀ table j h all =
    let even : n * (2 * a) ≡ 2 * (n * a) = mul_left_comm n 2 a in
    let odd : n * (2 * a + 1) ≡ 2 * (n * a) + n = mul-add n (2 * a) 1 ∙ ap₂ (λ (x y : ℕ). x + y) even (mul-one n) in
    record {
      symbols = h.symbols;
      even = λ e l. rw even (h.even e (omega arith));
      odd = λ e l. rw odd (h.odd e (omega arith));
      kept = λ i l. h.kept i (omega arith);
    }

-- ---- the multiples of row 1

-- rows 0 and 1
pub multiples_two : (F : Field) (n count : ℕ) (table : List ℕ) → Table F n count table → Multiples F n (2 * 1) (λ j. entry table (n + j)) table
multiples_two F n count table h = record { at = λ s j l k. go s j l k (ℕ_discrete s 0) }
  where
    go : (s j : ℕ) → s < 2 * 1 → j < n → Dec (s ≡ 0) → entry table (n * s + j) ≡ F.times s (entry table (n + j))
    go s j l k (yes e) =
        rw e (let place : n * 0 + j ≡ j = omega arith in ap (entry table) place ∙ h.zero j k ∙ sym (zero_times F (entry table (n + j))))
    go s j l k (no d) =
        let e : s ≡ 1 = omega arith in
        rw e
        (let place : n * 1 + j ≡ n + j = omega arith in
        ap (entry table) place ∙ sym (F.times_one (entry table (n + j)) (h.symbols (n + j))))

-- rows 2·a and 2·a + 1 more
pub multiples_more : (q n a : ℕ) (v : ℕ → ℕ) (table₀ table : List ℕ) → 1 ≤ a → 2 * a < 2 ^ bits_of q → Multiples (field_of q) n (2 * a) v table₀
    → Doubled (field_of q) n a table₀ table → Multiples (field_of q) n (2 * (a + 1)) v table
multiples_more q n a v table₀ table one small h d = record { at = λ s j l k. go s j l k (dec_lt s (2 * a)) (ℕ_discrete s (2 * a)) }
  where
    F : Field
    F = field_of q

    even : (j : ℕ) → j < n → F.times 2 (entry table₀ (n * a + j)) ≡ F.times (2 * a) (v j)
    even j k =
        ap (F.times 2) (h.at a j (omega arith) k) ∙ sym (F.times_assoc 2 a (v j))
        ∙ ap (λ (x : ℕ). F.times x (v j)) (two_times q a (omega arith))

    odd : (j : ℕ) → j < n → plus (F.times 2 (entry table₀ (n * a + j))) (entry table₀ (n + j)) ≡ F.times (2 * a + 1) (v j)
    odd j k =
        let place : n + j ≡ n * 1 + j = omega arith in
        ap₂ plus (even j k) (ap (entry table₀) place ∙ h.at 1 j (omega arith) k)
        ∙ sym (plus_times F (2 * a) 1 (v j)) ∙ ap (λ (x : ℕ). F.times x (v j)) (plus_one a)

    go : (s j : ℕ) → s < 2 * (a + 1) → j < n → Dec (s < 2 * a) → Dec (s ≡ 2 * a) → entry table (n * s + j) ≡ F.times s (v j)
    go s j l k (yes b) e = d.kept (n * s + j) (omega (arith, mul-suc n s, mul-le-mul_left n b)) ∙ h.at s j b k
    go s j l k (no b) (yes e) = rw e (d.even j k ∙ even j k)
    go s j l k (no b) (no e) = let last : s ≡ 2 * a + 1 = omega arith in rw last (d.odd j k ∙ odd j k)

-- fewer rows
pub multiples_less : (F : Field) (n m count : ℕ) (v : ℕ → ℕ) (table : List ℕ) → m ≤ count → Multiples F n count v table → Multiples F n m v table
multiples_less F n m count v table few h = record { at = λ s j l k. h.at s j (omega arith) k }

pub table_doubled : (F : Field) (n count a : ℕ) (table₀ table : List ℕ) → 1 ≤ a → length table ≡ length table₀ → Table F n count table₀
    → Doubled F n a table₀ table → Table F n count table
table_doubled F n count a table₀ table one long h d =
    record {
      sixteens = h.sixteens;
      room = rw long h.room;
      symbols = d.symbols;
      zero = λ j l. d.kept j (omega (arith, mul-le-mul_left n one, mul-one n, mul_left_comm n 2 a)) ∙ h.zero j l;
    }

pub multiples_cong : (F : Field) (n count : ℕ) (v w : ℕ → ℕ) (table : List ℕ) → ((j : ℕ) → j < n → v j ≡ w j) → Multiples F n count v table
    → Multiples F n count w table
multiples_cong F n count v w table e h = record { at = λ s j l k. h.at s j l k ∙ ap (F.times s) (e j k) }

-- rows 2 and 3, where they are asked for, are written; row 1 is as it was
pub record Begun (q n : ℕ) (table₀ table : List ℕ) : Type 0 where
  pub long : length table ≡ length table₀
  pub formed : Table (field_of q) n (half_of q) table
  pub first : (j : ℕ) → j < n → entry table (n + j) ≡ entry table₀ (n + j)
  pub rows : (m : ℕ) → m ≤ 2 * 2 → m ≤ half_of q → Multiples (field_of q) n m (λ j. entry table (n + j)) table

pub begun_doubled : (q n : ℕ) (table₀ table : List ℕ) → Table (field_of q) n (half_of q) table₀ → length table ≡ length table₀
    → Doubled (field_of q) n 1 table₀ table → Begun q n table₀ table
begun_doubled q n table₀ table h long d = record {
  long = long;
  formed = table_doubled (field_of q) n (half_of q) 1 table₀ table (omega arith) long h d;
  first = same;
  rows = λ m few most.
      multiples_less (field_of q) n m (2 * (1 + 1)) (λ j. entry table (n + j)) table few
      (multiples_cong (field_of q) n (2 * (1 + 1)) (λ j. entry table₀ (n + j)) (λ j. entry table (n + j)) table (λ j l. sym (same j l))
      (multiples_more q n 1 (λ j. entry table₀ (n + j)) table₀ table (omega arith) (omega (arith, two_le_half q, half_lt q))
      (multiples_two (field_of q) n (half_of q) table₀ h) d));
}
  where
    same : (j : ℕ) → j < n → entry table (n + j) ≡ entry table₀ (n + j)
    same j l = d.kept (n + j) (omega arith)

pub begun_alone : (q n : ℕ) (table₀ table : List ℕ) → Table (field_of q) n (half_of q) table₀ → table ≡ table₀ → half_of q ≤ 2 → Begun q n table₀ table
begun_alone q n table₀ table h same small = rw same (record {
  long = refl;
  formed = h;
  first = λ j l. refl;
  rows = λ m few most.
      multiples_less (field_of q) n m (2 * 1) (λ j. entry table₀ (n + j)) table₀ (omega arith) (multiples_two (field_of q) n (half_of q) table₀ h);
})

-- ---- row 1 of a table, written

pub two_rows : (F : Field) (n count : ℕ) (table : List ℕ) → Table F n count table → 2 ≤ count → 2 * n ≤ length table
two_rows F n count table h two = omega (arith, h.room, mul-le-mul_left n two)

module _ (F : Field) (n count : ℕ) (table ys : List ℕ) (h : Table F n count table) (two : 2 ≤ count) (long : length ys ≡ n) where
  fits : 2 * n ≤ length table
  fits = two_rows F n count table h two

  table_put : Below F.size ys → Table F n count (put_mid n (2 * n - n) table ys)
  table_put small =
      rw (put_is table n (2 * n) ys (omega arith))
      record {
        sixteens = h.sixteens;
        room = rw (length_put table n (2 * n) ys (omega arith) fits (omega arith)) h.room;
        symbols = below_put table n (2 * n) ys (omega arith) fits (omega arith) F.size h.symbols small;
        zero = λ j l. put_low table n (2 * n) ys (omega arith) fits (omega arith) j l ∙ h.zero j l;
      }

  row_put : (j : ℕ) → j < n → entry (put_mid n (2 * n - n) table ys) (n + j) ≡ entry ys j
  row_put j l =
      ap (λ (x : List ℕ). get_or x (n + j) 0) (put_is table n (2 * n) ys (omega arith))
      ∙ put_in table n (2 * n) ys (omega arith) fits (omega arith) j (omega arith)

module _ (q n : ℕ) (table : List ℕ) (h : Table (field_of q) n (half_of q) table) where
  -- the part that is lent
  pub row_long : length (part table n (2 * n)) ≡ n
  row_long = length_part table n (2 * n) (omega arith) (two_rows (field_of q) n (half_of q) table h (two_le_half q)) ∙ omega arith

  -- v is copied to it
  pub row_copied : (last v : List ℕ) → length v ≡ n → Below (field_of q).size v → last ≡ v
      → Table (field_of q) n (half_of q) (put_mid n (2 * n - n) table last)
      × ((j : ℕ) → j < n → entry (put_mid n (2 * n - n) table last) (n + j) ≡ entry v j)
  row_copied last v long small e =
      let two = two_le_half q in
      rw e (table_put (field_of q) n (half_of q) table v h two long small, row_put (field_of q) n (half_of q) table v h two long)

  -- z times src is written to it
  pub row_doubled : (last src : List ℕ) → length src ≡ n
      → last ≡ writes (part table n (2 * n)) (length src) (λ j. (field_of q).times 2 (entry src j))
      → Table (field_of q) n (half_of q) (put_mid n (2 * n - n) table last)
      × ((j : ℕ) → j < n → entry (put_mid n (2 * n - n) table last) (n + j) ≡ (field_of q).times 2 (entry src j))
  row_doubled last src long e =
      let F = field_of q in
      let row = part table n (2 * n) in
      let f : ℕ → ℕ = λ j. F.times 2 (entry src j) in
      let last_long : length last ≡ n = ap length e ∙ length_writes row f (length src) ∙ row_long in
      let small : Below F.size last = rw e (below_writes row f F.size (length src) (omega (arith, row_long))
      (below_part F.size table n (2 * n) h.symbols) (λ j l. F.times_lt 2 (entry src j))) in (
        table_put F n (half_of q) table last h (two_le_half q) last_long small,
        λ j l. row_put F n (half_of q) table last h (two_le_half q) last_long j l ∙ ap (λ (x : List ℕ). get_or x j 0) e
            ∙ writes_in row f (length src) j (omega arith) (omega (arith, row_long)),
      )

-- ---- the row by half of the half

module _ (q n half : ℕ) (low : List ℕ) (is_half : half ≡ half_of q) where
  pub half_row_fits : Table (field_of q) n (half_of q) low → n * (half / 2) + n ≤ length low
  half_row_fits h =
      let l : half / 2 < half_of q = omega (arith, two_le_half q) in
      omega (arith, h.room, mul-suc n (half / 2), mul-le-mul_left n l)

  pub half_row_long : Table (field_of q) n (half_of q) low → length (part low (n * (half / 2)) (n * (half / 2) + n)) ≡ n
  half_row_long h = let from = n * (half / 2) in length_part low from (from + n) (omega arith) (half_row_fits h) ∙ omega arith

  -- z times it
  pub half_row_doubled : (v : ℕ → ℕ) → Multiples (field_of q) n (half_of q) v low → (j : ℕ) → j < n
      → (field_of q).times 2 (entry (part low (n * (half / 2)) (n * (half / 2) + n)) j) ≡ (field_of q).times (half_of q) (v j)
  half_row_doubled v h j l =
      let F = field_of q in
      let from = n * (half / 2) in
      ap (F.times 2) (part_at low from (from + n) j (omega arith) ∙ h.at (half / 2) j (omega (arith, two_le_half q)) l)
      ∙ sym (F.times_assoc 2 (half / 2) (v j))
      ∙ ap (λ (x : ℕ). F.times x (v j)) (ap (λ (x : ℕ). F.times 2 (x / 2)) is_half ∙ two_times_half q)

-- room for the multiples of vectors of n symbols
pub zero_table : (q n room : ℕ) → n % 16 ≡ 0 → n * half_of q ≤ room → Table (field_of q) n (half_of q) (zeros room)
zero_table q n room sixteens fits =
    record {
      sixteens = sixteens;
      room = omega (arith, fits, length-replicate {A = ℕ} room 0);
      symbols = λ i. rw (get_or_zeros room i) (zero_lt (field_of q));
      zero = λ j l. get_or_zeros room j;
    }

-- ---- clearing

-- A vector to which multiples by both halves of a factor are added.
module _ (q i : ℕ) (factors low top w : List ℕ)
    (h : Clearing (field_of q) (half_of q) (length w) i (entry factors 1) (λ j. entry low (length w + j)) factors low top)
    (small : Below (field_of q).size w) (a b : ℕ) (is_a : a ≡ entry factors (entry w i) % half_of q)
    (is_b : b ≡ entry factors (entry w i) / half_of q) where
  abbrev n : ℕ
  n = length w

  abbrev factor : ℕ
  factor = entry factors (entry w i)

  is_factor : factor ≡ (field_of q).times (entry w i) (entry factors 1)
  is_factor = h.scaled (entry w i) (small i)

  factor_lt : factor < (field_of q).size
  factor_lt = rw is_factor ((field_of q).times_lt (entry w i) (entry factors 1))

  low_lt : a < half_of q
  low_lt = rw is_a (low_half_lt q factor)

  high_lt : b < half_of q
  high_lt = rw is_b (high_half_lt q factor factor_lt)

  pub parts_fit : (length w * a + length w ≤ length low) × (length w * b + length w ≤ length top)
  parts_fit = (
    omega (arith, h.low_room, mul-suc n a, mul-le-mul_left n low_lt),
    omega (arith, h.top_room, mul-suc n b, mul-le-mul_left n high_lt),
  )

  product : (j : ℕ) → j < n
      → plus (entry (part low (n * a) (n * a + n)) j) (entry (part top (n * b) (n * b + n)) j)
      ≡ (field_of q).times ((field_of q).times (entry w i) (entry factors 1)) (entry low (n + j))
  product j l =
      let F = field_of q in
      let half = half_of q in
      let v = entry low (n + j) in
      ap₂ plus
      (part_at low (n * a) (n * a + n) j (omega arith) ∙ h.low_rows.at a j low_lt l)
      (part_at top (n * b) (n * b + n) j (omega arith) ∙ h.top_rows.at b j high_lt l
      ∙ sym (F.times_assoc b half v) ∙ ap (λ (x : ℕ). F.times x v) (F.times_comm b half))
      ∙ sym (plus_times F a (F.times half b) v)
      ∙ ap (λ (x : ℕ). F.times x v) (ap₂ (λ (x y : ℕ). plus x (F.times half y)) is_a is_b ∙ halves q factor factor_lt ∙ is_factor)

  pub cleared_by_halves : writes w (length w) (λ j. plus (entry w j) (plus (entry (part low (length w * a) (length w * a + length w)) j)
      (entry (part top (length w * b) (length w * b + length w)) j)))
      ≡ cleared (field_of q) i (entry factors 1) (λ j. entry low (length w + j)) w
  unfolding cleared
  cleared_by_halves = writes_cong w _ _ (length w) (λ j l. ap (plus (entry w j)) (product j l))
