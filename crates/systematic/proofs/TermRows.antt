-- The loops that write the powers of a list's symbols, the points of the places and the products of powers, row by row, and the words
-- of the terms that these products are.
-- Assumes nothing.
use mathlib.Core.List.{List}
use mathlib.Core.Path.{◌≡◌, refl, sym, ap, ap₂, ◌∙◌, subst}
use Prim.Native.Nat.{ℕ, suc, ◌+◌, ◌-◌, ◌*◌, ◌/◌, ◌%◌, ◌≤◌, ◌<◌}
use native.Mathlib.Nat.{mul-zero, mod-lt, lt-mul-div-succ}
use native.Mathlib.Decide.{ℕ_discrete, dec_lt}
use native.Mathlib.Omega.{arith}
use borrow.Rule.Slice.PartMut.{put_mid}
use lib.ListN.{length, get_or, set, replicate, length-set, length-replicate, get_or-replicate, get_or-eq_default}
use lib.Seq.{ext_get_or, get_or-set_same, get_or-set_other}
use Rattle.field.specs.Curve.{IsShort}
use Rattle.field.specs.Power.{power}
use Rattle.field.proofs.Fields.{field_of}
use Rattle.field.proofs.FieldLaws.{zero_lt}
use Rattle.field.proofs.Powers.{power_zero, power_next}
use Rattle.field.proofs.Curves.{sizes, short_sizes, short_curve}
use Rattle.poly.specs.Inner.Ranges.{Below, writes, part, put}
use Rattle.poly.specs.Inner.Linear.{entry}
use Rattle.poly.specs.Inner.Rows.{stored}
use Rattle.poly.proofs.Blocks.{blocks_none, blocks_more, block_start, block_fits}
use Rattle.poly.proofs.Entries.{below_set}
use Rattle.poly.proofs.Lists.{get_or_map}
use Rattle.poly.proofs.Multiples.{length_stored, stored_in, stored_all, below_stored}
use Rattle.poly.proofs.Parts.{length_part, part_at, below_part, put_is, length_put, put_low, put_in, below_back}
use Rattle.poly.proofs.Writes.{length_writes, writes_in, below_writes}
use Rattle.points.specs.Inner.Columns.{column_y}
use Rattle.points.proofs.Passing.{at_place}
use Rattle.code.specs.Terms.{is_term, weights, size}
use Rattle.code.specs.Inner.Grid.{entry_of, entries_of}
use Rattle.code.specs.Inner.Rows.{row_of}
use Rattle.code.proofs.GridEntries.{Split, entry_at_most}
use Rattle.code.proofs.Stages.{rows_fit}
use Rattle.code.proofs.Weights.{entry_x, entry_y, size_le}
use Rattle.systematic.specs.Inner.TermWords.{PowerRows, PointLists, ProductRows, TermWords}

-- ---- a product of two rows

-- the one is copied, and the other multiplied in
pub product_written : (q : ℕ) (a b out row new : List ℕ) → length a ≡ 64 → length out ≡ 64 → row ≡ stored 64 a out
    → new ≡ writes row (length row) (λ j. (field_of q).times (entry b j) (entry row j))
    → new ≡ writes out 64 (λ j. (field_of q).times (entry b j) (entry a j))
product_written q a b out row new la lo is_row is_new =
    ext_get_or 0 new (writes out 64 g) (new_long ∙ sym (length_writes out g 64 ∙ lo))
    (λ j l.
    let k : j < 64 = omega (arith, new_long) in
    ap (λ (x : List ℕ). get_or x j 0) is_new
    ∙ writes_in row f (length row) j (omega (arith, row_long)) (omega arith)
    ∙ ap (λ (x : List ℕ). (field_of q).times (entry b j) (entry x j)) row_is
    ∙ sym (writes_in out g 64 j k (omega arith)))
  where
    f : ℕ → ℕ
    f j = (field_of q).times (entry b j) (entry row j)

    g : ℕ → ℕ
    g j = (field_of q).times (entry b j) (entry a j)

    row_is : row ≡ a
    row_is = is_row ∙ stored_all 64 a out la lo

    row_long : length row ≡ 64
    row_long = ap length row_is ∙ la

    new_long : length new ≡ 64
    new_long = ap length is_new ∙ length_writes row f (length row) ∙ row_long

-- what is multiplied in meets a row of its length, of symbols
pub copied_row : (n : ℕ) (a out row : List ℕ) → length a ≡ 64 → length out ≡ 64 → row ≡ stored 64 a out → Below n a
    → (length row ≡ 64) × Below n row
copied_row n a out row la lo is_row small =
    let e : row ≡ a = is_row ∙ stored_all 64 a out la lo in (ap length e ∙ la, subst (Below n) (sym e) small)

-- ---- the powers

-- the rows of the powers below i are written, and row has the powers i
pub record PowersBelow (q : ℕ) (base table₀ table row : List ℕ) (at i : ℕ) : Type 0 where
  pub is_at : at ≡ 64 * i
  pub long : length table ≡ length table₀
  pub row_long : length row ≡ 64
  pub row_symbols : Below (field_of q).size row
  pub row_at : (p : ℕ) → p < 64 → entry row p ≡ power (field_of q) (entry base p) i
  pub rows : PowerRows q base i table

module _ (q : ℕ) (base table₀ : List ℕ) where
  pub powers_none : Below (field_of q).size table₀ → PowersBelow q base table₀ table₀ (replicate 64 1) 0 0
  powers_none small =
      record {
        is_at = sym (mul-zero 64);
        long = refl;
        row_long = length-replicate {A = ℕ} 64 1;
        row_symbols = λ p. elim (dec_lt p 64) [
          | yes l ↦ rw (get_or-replicate {A = ℕ} 64 p 1 0 l) (field_of q).two_le
          | no d ↦ rw (get_or-eq_default (replicate {A = ℕ} 64 1) 0 {n = p} (omega (arith, length-replicate {A = ℕ} 64 1))) (zero_lt (field_of q))
        ];
        row_at = λ p l. get_or-replicate {A = ℕ} 64 p 1 0 l ∙ sym (power_zero (field_of q) (entry base p));
        rows = record { symbols = small; at = blocks_none 64 _ table₀ };
      }

  module _ (table row : List ℕ) (at i count : ℕ) (h : PowersBelow q base table₀ table row at i) (l : i < count)
      (room : 64 * count ≤ length table₀) where
    -- the next row is within the table
    pub powers_fit : at + 64 ≤ length table
    powers_fit = omega (arith, h.is_at, h.long, block_fits 64 i count l)

    pub powers_part : length (part table at (at + 64)) ≡ 64
    powers_part = length_part table at (at + 64) (omega arith) powers_fit ∙ omega arith

    pub powers_more : (new next : List ℕ) → new ≡ stored 64 row (part table at (at + 64))
        → next ≡ writes row (length row) (λ j. (field_of q).times (entry base j) (entry row j))
        → PowersBelow q base table₀ (put_mid at (at + 64 - at) table new) next (at + 64) (i + 1)
    powers_more new next is_new is_next =
        record {
          is_at = block_start 64 i at (at + 64) h.is_at refl;
          long = ap length (put_is table at (at + 64) new (omega arith)) ∙ length_put table at (at + 64) new (omega arith) powers_fit back ∙ h.long;
          row_long = ap length is_next ∙ length_writes row f (length row) ∙ h.row_long;
          row_symbols = subst (Below (field_of q).size) (sym is_next)
              (below_writes row f (field_of q).size (length row) (omega arith) h.row_symbols (λ j k. (field_of q).times_lt (entry base j) (entry row j)));
          row_at = λ p k.
              ap (λ (x : List ℕ). entry x p) is_next ∙ writes_in row f (length row) p (omega (arith, h.row_long)) (omega arith)
              ∙ ap ((field_of q).times (entry base p)) (h.row_at p k) ∙ sym (power_next (field_of q) (entry base p) i);
          rows = record {
            symbols = below_back (field_of q).size table new at (at + 64) (omega arith) powers_fit back h.rows.symbols
                (subst (Below (field_of q).size) (sym is_new)
                (below_stored (field_of q).size 64 row (part table at (at + 64)) (omega (arith, powers_part)) h.row_symbols
                (below_part (field_of q).size table at (at + 64) h.rows.symbols)));
            at = blocks_more 64 (λ i p. power (field_of q) (entry base p) i) table new i at (at + 64) h.rows.at h.is_at refl powers_fit new_long
                (λ j k.
                ap (λ (x : List ℕ). entry x j) is_new ∙ stored_in 64 row (part table at (at + 64)) j k (omega (arith, powers_part))
                ∙ h.row_at j k);
          };
        }
      where
        f : ℕ → ℕ
        f j = (field_of q).times (entry base j) (entry row j)

        new_long : length new ≡ 64
        new_long = ap length is_new ∙ length_stored 64 row (part table at (at + 64)) ∙ powers_part

        back : length new ≡ at + 64 - at
        back = new_long ∙ omega arith

  pub powers_all : (table row : List ℕ) (at i count : ℕ) → PowersBelow q base table₀ table row at i → count ≤ i → PowerRows q base count table
  powers_all table row at i count h l =
      record { symbols = h.rows.symbols; at = record { at = λ r p u v. h.rows.at.at r p (omega arith) v } }

-- ---- the points

-- the points of the places below p are written
pub record PointsBelow (q : ℕ) (columns xs₀ ys₀ xs ys : List ℕ) (p : ℕ) : Type 0 where
  pub xs_long : length xs ≡ length xs₀
  pub ys_long : length ys ≡ length ys₀
  pub xs_symbols : Below (field_of q).size xs
  pub ys_symbols : Below (field_of q).size ys
  pub x_at : (i : ℕ) → i < p → entry xs i ≡ get_or columns (i / q) 0
  pub y_at : (i : ℕ) → i < p → entry ys i ≡ column_y q columns (i / q) (i % q)

-- a list of which the numbers below p are given, and one more
set_more : (f : ℕ → ℕ) (l : List ℕ) (p v : ℕ) → ((i : ℕ) → i < p → entry l i ≡ f i) → p < length l → v ≡ f p
    → (i : ℕ) → i < p + 1 → entry (set l p v) i ≡ f i
set_more f l p v h fits e i b = elim (ℕ_discrete i p) [
  | yes d ↦ rw d (get_or-set_same l p v 0 fits ∙ e)
  | no d ↦ get_or-set_other l p i v 0 d ∙ h i (omega arith)
]

module _ (q : ℕ) (columns xs₀ ys₀ : List ℕ) where
  pub points_none : Below (field_of q).size xs₀ → Below (field_of q).size ys₀ → PointsBelow q columns xs₀ ys₀ xs₀ ys₀ 0
  points_none a b =
      record {
        xs_long = refl;
        ys_long = refl;
        xs_symbols = a;
        ys_symbols = b;
        x_at = λ i l. absurd (omega arith);
        y_at = λ i l. absurd (omega arith);
      }

  pub points_more : (xs ys : List ℕ) (p : ℕ) → PointsBelow q columns xs₀ ys₀ xs ys p → p < length xs₀ → p < length ys₀ → (x y : ℕ)
      → x < (field_of q).size → y < (field_of q).size → x ≡ get_or columns (p / q) 0 → y ≡ column_y q columns (p / q) (p % q)
      → PointsBelow q columns xs₀ ys₀ (set xs p x) (set ys p y) (p + 1)
  points_more xs ys p h a b x y sx sy is_x is_y =
      record {
        xs_long = length-set xs p x ∙ h.xs_long;
        ys_long = length-set ys p y ∙ h.ys_long;
        xs_symbols = below_set (field_of q).size xs p x h.xs_symbols sx;
        ys_symbols = below_set (field_of q).size ys p y h.ys_symbols sy;
        x_at = set_more (λ i. get_or columns (i / q) 0) xs p x h.x_at (omega (arith, h.xs_long)) is_x;
        y_at = set_more (λ i. column_y q columns (i / q) (i % q)) ys p y h.y_at (omega (arith, h.ys_long)) is_y;
      }

  pub points_all : (xs ys : List ℕ) (p : ℕ) → PointsBelow q columns xs₀ ys₀ xs ys p → q * length columns ≤ p → PointLists q columns xs ys
  points_all xs ys p h l =
      record {
        xs_symbols = h.xs_symbols;
        ys_symbols = h.ys_symbols;
        x_at = λ i k. h.x_at i (omega arith);
        y_at = λ i k. h.y_at i (omega arith);
      }

-- ---- the products

-- a term's row of powers of x is one of those up to m / q
entry_row : (q : ℕ) → 0 < q → (m t : ℕ) → t < size q m → get_or (entries_of q m) t 0 / q < m / q + 1
entry_row q pos m t l =
    omega
    (arith, rows_fit q (get_or (entries_of q m) t 0) (m / q + 1) pos (omega (arith, lt-mul-div-succ m pos, entry_at_most q pos m t l)))

-- where the powers of a term stand: i and j are its entry divided by q, with its remainder
pub record PowersOf (q m t i j : ℕ) (xpowers ypowers : List ℕ) : Type 0 where
  pub x_is : i ≡ get_or (entries_of q m) t 0 / q
  pub y_is : j ≡ get_or (entries_of q m) t 0 % q
  pub x_fits : 64 * i + 64 ≤ length xpowers
  pub y_fits : 64 * j + 64 ≤ length ypowers
  pub x_small : 64 * i + 64 ≤ 4096
  pub y_small : 64 * j + 64 ≤ 4096
  pub x_long : length (part xpowers (64 * i) (64 * i + 64)) ≡ 64
  pub y_long : length (part ypowers (64 * j) (64 * j + 64)) ≡ 64

pub powers_of : (q : ℕ) → IsShort q → (m k t e i j : ℕ) (xpowers ypowers : List ℕ) → m < q * q * q → k ≡ size q m → t < k
    → ((m : ℕ) → t < size q m → e ≡ get_or (entries_of q m) t 0) → Split q e i j → 64 * (m / q + 1) ≤ length xpowers
    → 64 * q ≤ length ypowers → PowersOf q m t i j xpowers ypowers
powers_of q short m k t e i j xpowers ypowers order is_k l is_e d room_x room_y =
    record {
      x_is = d.0 ∙ ap (λ (n : ℕ). n / q) same;
      y_is = d.1 ∙ ap (λ (n : ℕ). n % q) same;
      x_fits = fits_x;
      y_fits = fits_y;
      x_small = omega (arith, x_block, rows, (short_sizes q short).symbols);
      y_small = omega (arith, y_block, (short_sizes q short).high);
      x_long = length_part xpowers (64 * i) (64 * i + 64) (omega arith) fits_x ∙ omega arith;
      y_long = length_part ypowers (64 * j) (64 * j + 64) (omega arith) fits_y ∙ omega arith;
    }
  where
    pos : 0 < q
    pos = omega (arith, (sizes q (short_curve q short)).low)

    same : e ≡ get_or (entries_of q m) t 0
    same = is_e m (omega arith)

    row : i < m / q + 1
    row = omega (arith, d.0, ap (λ (n : ℕ). n / q) same, entry_row q pos m t (omega arith))

    rows : m / q + 1 ≤ q * q
    rows = rows_fit q m (q * q) pos (omega (arith, (sizes q (short_curve q short)).grid))

    rest : j < q
    rest = rw d.1 (mod-lt e pos)

    x_block : 64 * i + 64 ≤ 64 * (m / q + 1)
    x_block = block_fits 64 i (m / q + 1) row

    y_block : 64 * j + 64 ≤ 64 * q
    y_block = block_fits 64 j q rest

    fits_x : 64 * i + 64 ≤ length xpowers
    fits_x = omega (arith, x_block)

    fits_y : 64 * j + 64 ≤ length ypowers
    fits_y = omega (arith, y_block)

-- a term's number is small
pub term_small : (q : ℕ) → IsShort q → (m k t : ℕ) → m < q * q * q → k ≡ size q m → t < k → t < 64
term_small q short m k t order is_k l = omega (arith, size_le q m, (short_sizes q short).points)

-- the rows of the terms below t are written
pub record ProductsBelow (q m : ℕ) (xpowers ypowers vectors₀ vectors : List ℕ) (at t : ℕ) : Type 0 where
  pub is_at : at ≡ 64 * t
  pub long : length vectors ≡ length vectors₀
  pub rows : ProductRows q m xpowers ypowers vectors t

module _ (q m : ℕ) (xpowers ypowers vectors₀ : List ℕ) where
  pub products_none : Below (field_of q).size vectors₀ → ProductsBelow q m xpowers ypowers vectors₀ vectors₀ 0 0
  products_none small =
      record { is_at = sym (mul-zero 64); long = refl; rows = record { symbols = small; at = λ t p a b. absurd (omega arith) } }

  module _ (vectors : List ℕ) (at t count : ℕ) (h : ProductsBelow q m xpowers ypowers vectors₀ vectors at t) (l : t < count)
      (room : 64 * count ≤ length vectors₀) where
    pub products_fit : at + 64 ≤ length vectors
    products_fit = omega (arith, h.is_at, h.long, block_fits 64 t count l)

    pub products_part : length (part vectors at (at + 64)) ≡ 64
    products_part = length_part vectors at (at + 64) (omega arith) products_fit ∙ omega arith

    pub products_more : (i j : ℕ) → PowersOf q m t i j xpowers ypowers → (new : List ℕ)
        → new ≡ writes (part vectors at (at + 64)) 64
        (λ p. (field_of q).times (entry (part ypowers (64 * j) (64 * j + 64)) p) (entry (part xpowers (64 * i) (64 * i + 64)) p))
        → ProductsBelow q m xpowers ypowers vectors₀ (put_mid at (at + 64 - at) vectors new) (at + 64) (t + 1)
    products_more i j w new is_new =
        record {
          is_at = block_start 64 t at (at + 64) h.is_at refl;
          long = ap length is_put ∙ length_put vectors at (at + 64) new (omega arith) products_fit back ∙ h.long;
          rows = record {
            symbols = below_back (field_of q).size vectors new at (at + 64) (omega arith) products_fit back h.rows.symbols
                (subst (Below (field_of q).size) (sym is_new)
                (below_writes (part vectors at (at + 64)) f (field_of q).size 64 (omega (arith, products_part))
                (below_part (field_of q).size vectors at (at + 64) h.rows.symbols) (λ p b. (field_of q).times_lt _ _)));
            at = λ r p a b. ap (λ (v : List ℕ). entry v (64 * r + p)) is_put ∙ go r p a b (ℕ_discrete r t);
          };
        }
      where
        f : ℕ → ℕ
        f p = (field_of q).times (entry (part ypowers (64 * j) (64 * j + 64)) p) (entry (part xpowers (64 * i) (64 * i + 64)) p)

        back : length new ≡ at + 64 - at
        back = ap length is_new ∙ length_writes (part vectors at (at + 64)) f 64 ∙ products_part ∙ omega arith

        is_put : put_mid at (at + 64 - at) vectors new ≡ put vectors at (at + 64) new
        is_put = put_is vectors at (at + 64) new (omega arith)

        product : ℕ → ℕ → ℕ
        product r p =
            (field_of q).times (entry ypowers (64 * (get_or (entries_of q m) r 0 % q) + p)) (entry xpowers (64 * (get_or (entries_of q m) r 0 / q) + p))

        go : (r p : ℕ) → r < t + 1 → p < 64 → Dec (r ≡ t) → entry (put vectors at (at + 64) new) (64 * r + p) ≡ product r p
        go r p a b (yes d) =
            let place : 64 * r + p ≡ at + p = omega (arith, h.is_at, d) in
            ap (entry (put vectors at (at + 64) new)) place
            ∙ put_in vectors at (at + 64) new (omega arith) products_fit back p (omega arith)
            ∙ ap (λ (v : List ℕ). entry v p) is_new
            ∙ writes_in (part vectors at (at + 64)) f 64 p b (omega (arith, products_part))
            ∙ ap₂ (field_of q).times
            (part_at ypowers (64 * j) (64 * j + 64) p (omega arith) ∙ ap (λ (n : ℕ). entry ypowers (64 * n + p)) w.y_is)
            (part_at xpowers (64 * i) (64 * i + 64) p (omega arith) ∙ ap (λ (n : ℕ). entry xpowers (64 * n + p)) w.x_is)
            ∙ ap (λ (n : ℕ). product n p) (sym d)
        go r p a b (no d) =
            let lt : r < t = omega arith in
            put_low vectors at (at + 64) new (omega arith) products_fit back (64 * r + p) (omega (arith, h.is_at, block_fits 64 r t lt))
            ∙ h.rows.at r p lt b

  pub products_all : (vectors : List ℕ) (at t count : ℕ) → ProductsBelow q m xpowers ypowers vectors₀ vectors at t → count ≤ t
      → ProductRows q m xpowers ypowers vectors count
  products_all vectors at t count h l = record { symbols = h.rows.symbols; at = λ r p a b. h.rows.at r p (omega arith) b }

-- ---- the words

-- the rows of powers that the terms of the order m need
pub rows_room : (q : ℕ) → IsShort q → (m i : ℕ) → m < q * q * q → i ≡ m / q → 64 * (i + 1) ≤ 1024
rows_room q short m i order e =
    let z = sizes q (short_curve q short) in
    omega (arith, (short_sizes q short).symbols, rows_fit q m (q * q) (omega (arith, z.low)) (omega (arith, z.grid)))

pub words_written : (q : ℕ) → IsShort q → (m k i : ℕ) (xs ys xpowers ypowers vectors : List ℕ) → k ≡ size q m → i ≡ m / q
    → (columns : List ℕ) → q * length columns ≤ 64 → PointLists q columns xs ys → PowerRows q xs (i + 1) xpowers → PowerRows q ys q ypowers
    → ProductRows q m xpowers ypowers vectors k → TermWords q columns m vectors
unfolding row_of
words_written q short m k i xs ys xpowers ypowers vectors is_k is_i columns room points x y rows =
    record { symbols = rows.symbols; at = each }
  where
    pos : 0 < q
    pos = omega (arith, (sizes q (short_curve q short)).low)

    each : (t p : ℕ) → t < size q m → p < q * length columns → entry vectors (64 * t + p) ≡ row_of q columns m p t
    each t p a b =
        let w : ℕ = get_or (weights q m) t 0 in
        let e : ℕ = get_or (entries_of q m) t 0 in
        let is_e : e ≡ entry_of q w = get_or_map (entry_of q) (weights q m) 0 0 t a in
        let term = (at_place (is_term q) (suc m) t a).1 in
        let few : p < 64 = omega arith in
        let row : e / q < i + 1 = omega (arith, is_i, entry_row q pos m t a) in
        rows.at t p (omega arith) few
        ∙ (field_of q).times_comm _ _
        ∙ ap₂ (field_of q).times
        (x.at.at (e / q) p row few ∙ ap₂ (power (field_of q)) (points.x_at p b) (ap (λ (n : ℕ). n / q) is_e ∙ entry_x q pos w term))
        (y.at.at (e % q) p (mod-lt e pos) few ∙ ap₂ (power (field_of q)) (points.y_at p b) (ap (λ (n : ℕ). n % q) is_e ∙ entry_y q pos w term))
