-- The search for a pivot, the tables of its multiples, and the turns of the loops that eliminate.
-- Assumes nothing.
use mathlib.Core.List.{List, ◌++◌}
use mathlib.Core.Logic.{◌⊎◌, inl, inr, ⊎_elim}
use mathlib.Core.Path.{◌≡◌, refl, sym, ap, ap₂, ◌∙◌, subst}
use Prim.Native.Nat.{ℕ, suc, ◌+◌, ◌-◌, ◌*◌, ◌^◌, ◌≤◌, ◌<◌}
use native.Mathlib.Nat.{mul-zero, mul-one, mul-suc, mul-add, mul-le-mul_left, mod-eq_of_lt}
use native.Mathlib.Numerals.{add-one}
use native.Mathlib.Decide.{ℕ_discrete}
use lib.Dec.{lit≤}
use native.Mathlib.Omega.{arith}
use borrow.Author.Tests.{eq-eqb}
use borrow.Rule.Slice.PartMut.{put_mid}
use lib.Bits.{bit_and, and_zero_l, and_comm, and_mask}
use lib.Dec.{T, eqb, T_not, not_T, eqb→eq}
use lib.ListN.{length, take, drop, length-append, length-drop, length-replicate, get_or-append}
use lib.Seq.{get_or-take, length-take-le}
use Rattle.field.specs.Plus.{plus}
use Rattle.field.specs.Field.{Field}
use Rattle.field.proofs.Fields.{each, field_of}
use Rattle.poly.specs.Inner.Ranges.{Below, writes, part, put}
use Rattle.poly.specs.Inner.Rows.{cleared}
use Rattle.poly.specs.Inner.Linear.{entry}
use Rattle.linear.specs.Inner.Combinations.{rows_from, clear, Eliminated}
use Rattle.linear.specs.Inner.Eliminating.{marked, Last, Table, Multiples, Clearing, AllCleared, PivotTaken, Stepped}
use Rattle.poly.proofs.Writes.{length_writes, writes_in, below_writes}
use Rattle.poly.proofs.Entries.{zeros}
use Rattle.poly.proofs.Parts.{length_part, part_at, below_part, put_is, put_in, put_low, put_high, below_back}
use Rattle.linear.proofs.Pivots.{eliminated_none, eliminated_free, eliminated_pivot, cleared_rows}

-- ---- the search for a pivot, downwards

-- a mask keeps a byte or takes it away
masked : (a b : ℕ) → (a ≡ 0) ⊎ (a ≡ 255) → b < 256 → ((a ≡ 0) × (bit_and a b ≡ 0)) ⊎ ((a ≡ 255) × (bit_and a b ≡ b))
masked a b (inl e) l = inl (e, ap (λ (x : ℕ). bit_and x b) e ∙ and_zero_l b)
masked a b (inr e) l = inr (e, ap (λ (x : ℕ). bit_and x b) e ∙ and_comm 255 b ∙ and_mask b 8 ∙ mod-eq_of_lt l)

pub mask_some : (a b : ℕ) → (a ≡ 0) ⊎ (a ≡ 255) → b < 256 → (bit_and a b ≡ 0 → ⊥) → (a ≡ 0 → ⊥) × (b ≡ 0 → ⊥)
mask_some a b h l d =
    ⊎_elim (λ w. absurd (d w.1)) (λ w. (λ e. omega (arith, w.0), λ e. d (w.1 ∙ e))) (masked a b h l)

pub mask_none : (a b : ℕ) → (a ≡ 0) ⊎ (a ≡ 255) → b < 256 → bit_and a b ≡ 0 → (a ≡ 0 → ⊥) → b ≡ 0
mask_none a b h l e d = ⊎_elim (λ w. absurd (d w.0)) (λ w. sym w.1 ∙ e) (masked a b h l)

pub marked_not : (high : List ℕ) (i : ℕ) → entry high i ≡ 0 → T (marked high i) → ⊥
marked_not high i e t = T_not (eqb (entry high i) 0) t (rw (eq-eqb (entry high i) 0 e) tt)

is_marked : (high : List ℕ) (i : ℕ) → (entry high i ≡ 0 → ⊥) → T (marked high i)
is_marked high i d = not_T (eqb (entry high i) 0) (λ t. d (eqb→eq (entry high i) 0 t))

-- v is 0 at every place from p on that counts
pub record Searching (high v : List ℕ) (p : ℕ) : Type 0 where
  pub within : p ≤ length high
  pub zeros : (i : ℕ) → p ≤ i → i < length high → T (marked high i) → entry v i ≡ 0

module _ (high v : List ℕ) where
  pub searching_none : Searching high v (length high)
  searching_none = record { within = omega arith; zeros = λ i a b. absurd (omega arith) }

  module _ (p : ℕ) (h : Searching high v p) where
    pub searching_turn : 0 < p → (T (marked high (p - 1)) → entry v (p - 1) ≡ 0) → Searching high v (p - 1)
    searching_turn pos z =
        record {
          within = omega (arith, h.within);
          zeros = λ i a b t. elim (ℕ_discrete i (p - 1)) [ yes e ↦ rw e (z (rw e at t)) | no d ↦ h.zeros i (omega arith) b t ];
        }

    pub searching_end : p ≤ 0 → Last high v 0
    searching_end l =
        record { within = omega arith; none = λ e. record { at = λ i b t. h.zeros i (omega arith) b t }; some = λ m. absurd (omega arith) }

    pub searching_found : 0 < p → (entry high (p - 1) ≡ 0 → ⊥) → (entry v (p - 1) ≡ 0 → ⊥) → Last high v p
    searching_found pos a b = record { within = h.within; none = λ e. absurd (omega arith); some = λ m. (is_marked high (p - 1) a, b) }

-- ---- a vector is cleared

module _ (F : Field) (i c : ℕ) (v : ℕ → ℕ) (w : List ℕ) where
  length_cleared : length (cleared F i c v w) ≡ length w
  unfolding cleared
  length_cleared = length_writes w _ (length w)

  cleared_at : (j : ℕ) → j < length w → entry (cleared F i c v w) j ≡ plus (entry w j) (F.times (F.times (entry w i) c) (v j))
  unfolding cleared
  cleared_at j l = writes_in w (λ j. plus (entry w j) (F.times (F.times (entry w i) c) (v j))) (length w) j l (omega arith)

  below_cleared : Below F.size w → Below F.size (cleared F i c v w)
  unfolding cleared
  below_cleared b =
      below_writes w (λ j. plus (entry w j) (F.times (F.times (entry w i) c) (v j))) F.size (length w) (omega arith) b
      (λ j l. F.plus_lt _ _ (b j) (F.times_lt _ _))

-- a vector of n symbols may be cleared, whatever its length is called
pub clearing_of : (F : Field) (half n m i c : ℕ) (factors low top : List ℕ) → m ≡ n
    → Clearing F half n i c (λ j. entry low (n + j)) factors low top → Clearing F half m i c (λ j. entry low (m + j)) factors low top
clearing_of F half n m i c factors low top e h = subst (λ (k : ℕ). Clearing F half k i c (λ j. entry low (k + j)) factors low top) (sym e) h

-- ---- the vectors are cleared one after the other

module _ (F : Field) (n i c count : ℕ) (low vectors₀ : List ℕ) (at_i : i < n) (long : length vectors₀ ≡ n * count) where
  pub cleared_none : Below F.size vectors₀ → AllCleared F n i c (λ j. entry low (n + j)) vectors₀ vectors₀ 0
  cleared_none b = record { symbols = b; done = λ p j a. absurd (omega arith); kept = λ j a. refl }

  module _ (vectors : List ℕ) (k : ℕ) (same_long : length vectors ≡ length vectors₀)
      (h : AllCleared F n i c (λ j. entry low (n + j)) vectors₀ vectors k) (more : k < count) where
    abbrev at : ℕ
    at = n * k

    abbrev row : List ℕ
    row = part vectors at (at + n)

    pub row_fits : n * k + n ≤ length vectors
    row_fits = omega (arith, same_long, long, mul-suc n k, mul-le-mul_left n more)

    pub row_long : length (part vectors (n * k) (n * k + n)) ≡ n
    row_long = length_part vectors at (at + n) (omega arith) row_fits ∙ omega arith

    module _ (last : List ℕ) (e : last ≡ cleared F i c (λ j. entry low (length (part vectors (n * k) (n * k + n)) + j)) (part vectors (n * k) (n * k + n))) where
      last_long : length last ≡ at + n - at
      last_long = ap length e ∙ length_cleared F i c _ row ∙ row_long ∙ omega arith

      abbrev back : List ℕ
      back = put vectors at (at + n) last

      at_row : (p j : ℕ) → p < k + 1 → j < n → Dec (p ≡ k)
          → entry back (n * p + j) ≡ plus (entry vectors₀ (n * p + j)) (F.times (F.times (entry vectors₀ (n * p + i)) c) (entry low (n + j)))
      at_row p j a b (yes d) =
          let same : at ≡ n * p = omega (arith, ap (λ (x : ℕ). n * x) d) in
          let place : n * p + j ≡ at + j = omega arith in
          let old : (j : ℕ) → j < n → entry row j ≡ entry vectors₀ (n * p + j)
          = λ j b. part_at vectors at (at + n) j (omega arith) ∙ h.kept (at + j) (omega arith)
          ∙ ap (λ (x : ℕ). entry vectors₀ (x + j)) same in
          ap (entry back) place ∙ put_in vectors at (at + n) last (omega arith) row_fits last_long j (omega arith)
          ∙ ap (λ (x : List ℕ). entry x j) e ∙ cleared_at F i c (λ j. entry low (length row + j)) row j (omega (arith, row_long))
          ∙ ap₂ plus (old j b)
          (ap₂ (λ (x y : ℕ). F.times (F.times x c) (entry low (y + j))) (old i at_i) row_long)
      at_row p j a b (no d) =
          let l : p < k = omega arith in
          put_low vectors at (at + n) last (omega arith) row_fits last_long (n * p + j) (omega (arith, mul-suc n p, mul-le-mul_left n l))
          ∙ h.done p j l b

      pub cleared_turn : AllCleared F n i c (λ j. entry low (n + j)) vectors₀ (put_mid (n * k) (n * k + n - n * k) vectors last) (k + 1)
      cleared_turn =
          let is : put_mid at (at + n - at) vectors last ≡ back = put_is vectors at (at + n) last (omega arith) in
          record {
            symbols = below_back F.size vectors last at (at + n) (omega arith) row_fits last_long h.symbols
                (rw e (below_cleared F i c (λ j. entry low (length row + j)) row (below_part F.size vectors at (at + n) h.symbols)));
            done = λ p j a b. ap (λ (x : List ℕ). entry x (n * p + j)) is ∙ at_row p j a b (ℕ_discrete p k);
            kept = λ j a.
                let b : at + n ≤ j = omega (arith, mul-suc n k, ap (λ (x : ℕ). n * x) (add-one k)) in
                ap (λ (x : List ℕ). entry x j) is
                ∙ put_high vectors at (at + n) last (omega arith) row_fits last_long j b ∙ h.kept j (omega arith);
          }

-- ---- the table of factors

pub symbols_fit : (q : ℕ) → (field_of q).size ≤ 64
symbols_fit = each (λ e. 2 ^ e ≤ 64) (lit≤ tt) (lit≤ tt) (lit≤ tt)

-- factors has c times each symbol s at s
pub record Factors (F : Field) (c : ℕ) (factors : List ℕ) : Type 0 where
  pub long : length factors ≡ 64
  pub room : F.size ≤ 64
  pub at : (s : ℕ) → s < F.size → entry factors s ≡ F.times s c

module _ (F : Field) (c size : ℕ) (room : F.size ≤ 64) (is_size : size ≡ F.size) where
  pub factors_lent : length (take size (zeros 64)) ≡ F.size
  factors_lent = length-take-le size (zeros 64) (omega (arith, length-replicate {A = ℕ} 64 0)) ∙ is_size

  pub factors_written : (last : List ℕ) → last ≡ writes (take size (zeros 64)) F.size (λ s. F.times s c)
      → Factors F c (last ++ drop size (zeros 64))
  factors_written last e =
      let l : length last ≡ F.size = ap length e ∙ length_writes (take size (zeros 64)) (λ s. F.times s c) F.size ∙ factors_lent in
      record {
        long = length-append last (drop size (zeros 64)) ∙ omega (arith, length-drop size (zeros 64), length-replicate {A = ℕ} 64 0);
        room = room;
        at = λ s b. get_or-append last (drop size (zeros 64)) 0 s (omega arith) ∙ ap (λ (x : List ℕ). entry x s) e
            ∙ writes_in (take size (zeros 64)) (λ s. F.times s c) F.size s b (omega (arith, factors_lent));
      }

-- ---- one vector is the pivot of the others

-- the tables are those of the first of the vectors as the pivot for entry i
pub record Tabulated (F : Field) (half n i : ℕ) (vectors factors low top : List ℕ) : Type 0 where
  pub clearing : Clearing F half n i (entry factors 1) (λ j. entry low (n + j)) factors low top
  pub factor : entry factors 1 ≡ F.inverse (entry vectors i)
  pub pivot : (j : ℕ) → j < n → entry low (n + j) ≡ entry vectors j

module _ (n count : ℕ) (vectors : List ℕ) (long : length vectors ≡ n * (count + 1)) where
  pub first_fits : n ≤ length vectors
  first_fits = omega (arith, mul-suc n count, ap (λ (x : ℕ). n * x) (add-one count))

  pub first_long : length (take n vectors) ≡ n
  first_long = length-take-le n vectors first_fits

  pub others_long : length (part vectors n (length vectors)) ≡ n * count
  others_long =
      length_part vectors n (length vectors) first_fits (omega arith)
      ∙ omega (arith, mul-suc n count, ap (λ (x : ℕ). n * x) (add-one count))

module _ (F : Field) (half n i count : ℕ) (vectors : List ℕ) (at_i : i < n) (long : length vectors ≡ n * (count + 1))
    (symbols : Below F.size vectors) where
  fits : n ≤ length vectors
  fits = first_fits n count vectors long

  abbrev Written : List ℕ → List ℕ → ℕ → Type 0
  Written low top m =
      (Table F m half low × Table F m half top)
      × (Multiples F m half (entry (take n vectors)) low × Multiples F m half (λ j. F.times half (entry (take n vectors) j)) top)

  module _ (factors low top : List ℕ) where
    pub tabulated : 1 < half → Factors F (F.inverse (entry vectors i)) factors → Written low top (length (take n vectors))
        → Tabulated F half n i vectors factors low top
    tabulated two f given = record {
      clearing = record {
        place = at_i;
        sixteens = w.0.0.sixteens;
        room = omega (arith, f.long, f.room);
        low_room = w.0.0.room;
        top_room = w.0.1.room;
        scaled = λ s l. f.at s l ∙ ap (F.times s) (sym one);
        low_rows = record { at = λ s j a b. w.1.0.at s j a b ∙ ap (F.times s) (get_or-take n vectors j 0 b ∙ sym (first j b)) };
        top_rows = record {
          at = λ s j a b. w.1.1.at s j a b ∙ ap (λ (x : ℕ). F.times s (F.times half x)) (get_or-take n vectors j 0 b ∙ sym (first j b));
        };
      };
      factor = one;
      pivot = first;
    }
      where
        w : Written low top n
        w = subst (Written low top) (first_long n count vectors long) given

        one : entry factors 1 ≡ F.inverse (entry vectors i)
        one = f.at 1 F.two_le ∙ F.times_one (F.inverse (entry vectors i)) (F.inverse_lt _)

        first : (j : ℕ) → j < n → entry low (n + j) ≡ entry vectors j
        first j l =
            ap (λ (x : ℕ). entry low (x + j)) (sym (mul-one n)) ∙ w.1.0.at 1 j two l ∙ ap (F.times 1) (get_or-take n vectors j 0 l)
            ∙ F.times_one (entry vectors j) (symbols j)

    module _ (t : Tabulated F half n i vectors factors low top) where
      same_clear : (x y j : ℕ) → j < n
          → plus x (F.times (F.times y (entry factors 1)) (entry low (n + j)))
          ≡ plus x (F.times y (F.times (F.inverse (entry vectors i)) (entry vectors j)))
      same_clear x y j l =
          ap (plus x)
          (F.times_assoc y (entry factors 1) (entry low (n + j)) ∙ ap₂ (λ (a b : ℕ). F.times y (F.times a b)) t.factor (t.pivot j l))

      other_at : (o j : ℕ) → o < count → j < n → entry (part vectors n (length vectors)) (n * o + j) ≡ entry vectors (n * (o + 1) + j)
      other_at o j a b =
          let place : n + (n * o + j) ≡ n * (o + 1) + j = omega (arith, mul-suc n o, ap (λ (x : ℕ). n * x) (add-one o)) in
          part_at vectors n (length vectors) (n * o + j)
          (omega (arith, long, mul-suc n o, mul-le-mul_left n a, mul-suc n count, ap (λ (x : ℕ). n * x) (add-one count)))
          ∙ ap (entry vectors) place

      pub pivot_taken : (after grid grid' : List ℕ) → length after ≡ length (part vectors n (length vectors))
          → AllCleared F n i (entry factors 1) (λ j. entry low (n + j)) (part vectors n (length vectors)) after count
          → length grid ≡ n → Below F.size grid → grid' ≡ cleared F i (entry factors 1) (λ j. entry low (length grid + j)) grid
          → PivotTaken F n i count vectors (put_mid n (length vectors - n) vectors after) grid grid'
      pivot_taken after grid grid' long' h grid_long grid_symbols e =
          record {
            symbols = below_back F.size vectors after n (length vectors) fits (omega arith) after_long symbols h.symbols;
            grid_symbols = rw e (below_cleared F i (entry factors 1) (λ j. entry low (length grid + j)) grid grid_symbols);
            others = λ o j a b l. ap (λ (x : List ℕ). entry x (n * o + j)) (put_is vectors n (length vectors) after fits) ∙ at o j a b l;
            apart = λ j l.
                ap (λ (x : List ℕ). entry x j) e ∙ cleared_at F i (entry factors 1) (λ j. entry low (length grid + j)) grid j (omega arith)
                ∙ ap (λ (x : ℕ). plus (entry grid j) (F.times (F.times (entry grid i) (entry factors 1)) (entry low (x + j)))) grid_long
                ∙ same_clear (entry grid j) (entry grid i) j l;
          }
        where
          after_long : length after ≡ length vectors - n
          after_long = long' ∙ length_part vectors n (length vectors) fits (omega arith)

          at : (o j : ℕ) → 0 < o → o ≤ count → j < n
              → entry (put vectors n (length vectors) after) (n * o + j) ≡ clear F i (entry vectors) (λ j. entry vectors (n * o + j)) j
          at o j a b l =
              let k : o - 1 < count = omega arith in
              let one : o - 1 + 1 ≡ o = omega arith in
              let place : n * o + j ≡ n + (n * (o - 1) + j)
              = omega (arith, mul-suc n (o - 1), ap (λ (x : ℕ). n * x) (add-one (o - 1)), ap (λ (x : ℕ). n * x) one) in
              let old : (j : ℕ) → j < n → entry (part vectors n (length vectors)) (n * (o - 1) + j) ≡ entry vectors (n * o + j)
              = λ j l. other_at (o - 1) j k l ∙ ap (λ (x : ℕ). entry vectors (n * x + j)) one in
              ap (entry (put vectors n (length vectors) after)) place
              ∙ put_in vectors n (length vectors) after fits (omega arith) after_long (n * (o - 1) + j)
              (omega (arith, long, mul-suc n (o - 1), mul-le-mul_left n k, mul-suc n count, ap (λ (x : ℕ). n * x) (add-one count)))
              ∙ h.done (o - 1) j k l
              ∙ ap₂ (λ (x y : ℕ). plus x (F.times (F.times y (entry factors 1)) (entry low (n + j)))) (old j l) (old i at_i)
              ∙ same_clear (entry vectors (n * o + j)) (entry vectors (n * o + i)) j l

-- ---- a step

module _ (high vectors : List ℕ) (p : ℕ) (last : Last high (take (length high) vectors) p) where
  pub pivot_within : 0 < p → p - 1 < length high
  pivot_within pos = omega (arith, last.within)

  pub pivot_not : 0 < p → entry vectors (p - 1) ≡ 0 → ⊥
  pivot_not pos e = (last.some pos).1 (get_or-take (length high) vectors (p - 1) 0 (pivot_within pos) ∙ e)

  module _ (F : Field) (count : ℕ) (grid : List ℕ) where
    pub stepped_none : p ≡ 0 → Stepped F count high vectors vectors grid grid 0
    stepped_none e =
        record {
          few = omega arith;
          none = λ z. (record { at = λ i l t. sym (get_or-take (length high) vectors i 0 l) ∙ (last.none e).at i l t }, refl, refl);
          some = λ z. absurd (omega arith);
        }

    pub stepped_some : 0 < p → (vectors' grid' : List ℕ) → PivotTaken F (length high) (p - 1) count vectors vectors' grid grid'
        → Stepped F count high vectors vectors' grid grid' 1
    stepped_some pos vectors' grid' h =
        record {
          few = omega arith;
          none = λ z. absurd (omega arith);
          some = λ z. (p - 1, pivot_within pos, (last.some pos).0, pivot_not pos, h);
        }

-- ---- the loop over the vectors

-- the first t vectors were taken, and rank of them were pivots
pub record Eliminating (F : Field) (count : ℕ) (high vectors₀ vectors grid₀ grid : List ℕ) (rank t : ℕ) : Type 0 where
  pub symbols : Below F.size vectors
  pub grid_symbols : Below F.size grid
  pub eliminated : Eliminated F (marked high) (length high) count (rows_from (length high) 0 vectors₀ grid₀) t rank
      (rows_from (length high) t vectors grid)

module _ (F : Field) (count : ℕ) (high vectors₀ grid₀ : List ℕ) (long : length vectors₀ ≡ length high * count) where
  abbrev n : ℕ
  n = length high

  pub eliminating_none : Below F.size vectors₀ → Below F.size grid₀ → Eliminating F count high vectors₀ vectors₀ grid₀ grid₀ 0 0
  eliminating_none a b =
      record {
        symbols = a;
        grid_symbols = b;
        eliminated = eliminated_none F (marked high) n count _ (record { vectors = λ p i x y. a _; added = λ i y. b _ });
      }

  pub eliminating_end : (vectors grid : List ℕ) (rank t : ℕ) → Eliminating F count high vectors₀ vectors grid₀ grid rank t → count ≤ t
      → Eliminated F (marked high) n count (rows_from n 0 vectors₀ grid₀) count rank (rows_from n count vectors grid)
  eliminating_end vectors grid rank t h l =
      let e : t ≡ count = omega (arith, h.eliminated.within) in
      subst (λ (x : ℕ). Eliminated F (marked high) n count (rows_from n 0 vectors₀ grid₀) x rank (rows_from n x vectors grid)) e h.eliminated

  module _ (vectors grid : List ℕ) (rank t : ℕ) (same_long : length vectors ≡ length vectors₀)
      (h : Eliminating F count high vectors₀ vectors grid₀ grid rank t) (more : t < count) where
    abbrev start : ℕ
    start = n * t

    all_long : length vectors ≡ n * count
    all_long = same_long ∙ long

    pub next_fits : length high * t + length high ≤ length vectors
    next_fits = omega (arith, all_long, mul-suc n t, mul-le-mul_left n more)

    pub rest_fits : length high * t ≤ length vectors
    rest_fits = omega (arith, next_fits)

    abbrev rest : List ℕ
    rest = part vectors start (length vectors)

    pub rest_long : length (part vectors (length high * t) (length vectors)) ≡ length high * (count - t - 1 + 1)
    rest_long =
        let e : t + (count - t - 1 + 1) ≡ count = omega arith in
        length_part vectors start (length vectors) rest_fits (omega arith)
        ∙ omega (arith, all_long, mul-add n t (count - t - 1 + 1), ap (λ (x : ℕ). n * x) e)

    module _ (last grid' : List ℕ) (r : ℕ) (last_long : length last ≡ length (part vectors (length high * t) (length vectors)))
        (step : Stepped F (count - t - 1) high (part vectors (length high * t) (length vectors)) last grid grid' r) where
      abbrev next : List ℕ
      next = put_mid start (length vectors - start) vectors last

      back_long : length last ≡ length vectors - start
      back_long = last_long ∙ length_part vectors start (length vectors) rest_fits (omega arith)

      row_in : (p i : ℕ) → p < count → t ≤ p → i < n → start + (n * (p - t) + i) < length vectors
      row_in p i a b l =
          let e : t + (p - t) ≡ p = omega arith in
          omega (arith, all_long, mul-add n t (p - t), ap (λ (x : ℕ). n * x) e, mul-suc n p, mul-le-mul_left n a)

      row_at : (p i : ℕ) → t ≤ p → start + (n * (p - t) + i) ≡ n * p + i
      row_at p i b =
          let e : t + (p - t) ≡ p = omega arith in omega (arith, mul-add n t (p - t), e, ap (λ (x : ℕ). n * x) e)

      -- row p of them all
      old_row : (p i : ℕ) → t ≤ p → p < count → i < n → entry rest (n * (p - t) + i) ≡ entry vectors (n * p + i)
      old_row p i a b l = part_at vectors start (length vectors) (n * (p - t) + i) (row_in p i b a l) ∙ ap (entry vectors) (row_at p i a)

      new_row : (p i : ℕ) → t ≤ p → p < count → i < n → entry next (n * p + i) ≡ entry last (n * (p - t) + i)
      new_row p i a b l =
          let k = row_in p i b a l in
          ap (entry next) (sym (row_at p i a))
          ∙ ap (λ (y : List ℕ). entry y (start + (n * (p - t) + i))) (put_is vectors start (length vectors) last rest_fits)
          ∙ put_in vectors start (length vectors) last rest_fits (omega arith) back_long (n * (p - t) + i) (omega (arith, k))

      first : (i : ℕ) → i < n → entry rest i ≡ entry vectors (n * t + i)
      first i l =
          let e : i ≡ n * (t - t) + i = (let z : t - t ≡ 0 = omega arith in omega (arith, mul-zero n, ap (λ (x : ℕ). n * x) z)) in
          ap (entry rest) e ∙ old_row t i (omega arith) more l

      first_row : (i : ℕ) → i < n → entry rest i ≡ entry vectors (n * (t + 0) + i)
      first_row i l = let o : t ≡ t + 0 = omega arith in first i l ∙ ap (λ (x : ℕ). entry vectors (n * x + i)) o

      next_none : r ≡ 0 → Eliminated F (marked high) n count (rows_from n 0 vectors₀ grid₀) (t + 1) rank (rows_from n (t + 1) next grid')
      next_none e =
          let z = step.none e in
          eliminated_free F (marked high) n count (rows_from n 0 vectors₀ grid₀) t rank (rows_from n t vectors grid) (rows_from n (t + 1) next grid')
          h.eliminated more (record { at = λ i l b. sym (first_row i l) ∙ z.0.at i l b })
          (record {
            vectors = λ p i a b.
                let o : t + 1 + p ≡ t + suc p = omega arith in
                new_row (t + 1 + p) i (omega arith) (omega arith) b ∙ ap (λ (x : List ℕ). entry x (n * (t + 1 + p - t) + i)) z.1
                ∙ old_row (t + 1 + p) i (omega arith) (omega arith) b ∙ ap (λ (x : ℕ). entry vectors (n * x + i)) o;
            added = λ i b. ap (λ (x : List ℕ). entry x i) z.2;
          })

      next_some : r ≡ 1 → Eliminated F (marked high) n count (rows_from n 0 vectors₀ grid₀) (t + 1) (rank + 1) (rows_from n (t + 1) next grid')
      next_some e =
          let w = step.some e in
          let inverse : (x i : ℕ) → i < n → F.times x (F.times (F.inverse (entry rest w.0)) (entry rest i))
          ≡ F.times x (F.times (F.inverse (entry vectors (n * t + w.0))) (entry vectors (n * t + i)))
          = λ x i l. ap₂ (λ (a b : ℕ). F.times x (F.times (F.inverse a) b)) (first w.0 w.1) (first i l) in
          eliminated_pivot F (marked high) n count (rows_from n 0 vectors₀ grid₀) t rank (rows_from n t vectors grid) (rows_from n (t + 1) next grid')
          h.eliminated more w.0 w.1 w.2 (λ z. w.3 (first_row w.0 w.1 ∙ z))
          (cleared_rows n n t count vectors grid F w.0 next grid' more
          (λ p i a b l.
          new_row p i (omega arith) b l ∙ w.4.others (p - t) i (omega arith) (omega arith) l
          ∙ ap₂ plus (old_row p i (omega arith) b l)
          (ap (λ (x : ℕ). F.times x (F.times (F.inverse (entry rest w.0)) (entry rest i))) (old_row p w.0 (omega arith) b w.1)
          ∙ inverse (entry vectors (n * p + w.0)) i l))
          (λ i l. w.4.apart i l ∙ ap (plus (entry grid i)) (inverse (entry grid w.0) i l)))

      pub eliminating_turn : Eliminating F count high vectors₀ (put_mid (length high * t) (length vectors - length high * t) vectors last) grid₀ grid'
          (rank + r) (t + 1)
      eliminating_turn = go (ℕ_discrete r 0)
        where
          made : Below F.size last → Below F.size grid'
              → Eliminated F (marked high) n count (rows_from n 0 vectors₀ grid₀) (t + 1) (rank + r) (rows_from n (t + 1) next grid')
              → Eliminating F count high vectors₀ next grid₀ grid' (rank + r) (t + 1)
          made a b e =
              record {
                symbols = below_back F.size vectors last start (length vectors) rest_fits (omega arith) back_long h.symbols a;
                grid_symbols = b;
                eliminated = e;
              }

          go : Dec (r ≡ 0) → Eliminating F count high vectors₀ next grid₀ grid' (rank + r) (t + 1)
          go (yes e) =
              let z = step.none e in
              let w : rank + r ≡ rank = omega arith in
              made (rw z.1 (below_part F.size vectors start (length vectors) h.symbols)) (rw z.2 h.grid_symbols) (rw w (next_none e))
          go (no d) =
              let one : r ≡ 1 = omega (arith, step.few) in
              let w = (step.some one).4 in
              let s : rank + r ≡ rank + 1 = omega arith in
              made w.symbols w.grid_symbols (rw s (next_some one))
