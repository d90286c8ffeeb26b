-- What recovery says of a broken word, from what elimination leaves of the grids of its gaps.
-- Assumes nothing.
use mathlib.Core.Bool.{Bool, true, false}
use mathlib.Core.List.{List}
use mathlib.Core.Logic.{inl, inr}
use mathlib.Core.Path.{◌≡◌, refl, sym, ap, ◌∙◌, subst}
use Prim.Native.Nat.{ℕ, ◌+◌, ◌-◌, ◌*◌, ◌≤◌, ◌<◌}
use native.Mathlib.Nat.{mul-le-mul_left}
use native.Mathlib.Omega.{arith}
use native.Mathlib.Decide.{dec_lt}
use borrow.Author.Tests.{lt-ltb, le-ltb}
use lib.Dec.{eqb}
use lib.ListN.{length, take}
use lib.Seq.{get_or-take, length-take-le}
use Rattle.field.specs.Curve.{IsShort}
use Rattle.field.proofs.Curves.{each_short, short_sizes}
use Rattle.field.proofs.Fields.{field_of}
use Rattle.poly.specs.Sets.{ListOf}
use Rattle.poly.specs.Inner.Ranges.{Below}
use Rattle.poly.specs.Inner.Linear.{entry}
use Rattle.poly.proofs.Bools.{true_or_false}
use Rattle.poly.proofs.Parts.{below_take}
use Rattle.poly.proofs.Blocks.{block_fits}
use Rattle.poly.proofs.Interleaving.{place_lt}
use Rattle.linear.specs.Inner.Combinations.{rows_from, ZeroOn, Padded, Eliminated}
use Rattle.points.proofs.Passing.{place_bound}
use Rattle.code.specs.Recovered.{Reading, reading, answer_of, nothing, message, several}
use Rattle.code.specs.Terms.{size}
use Rattle.code.specs.Word.{word_of}
use Rattle.code.specs.Inner.Grid.{gather, order_at_most}
use Rattle.code.specs.Inner.Recovering.{BrokenOver}
use Rattle.code.proofs.Stages.{columns_short}
use Rattle.recovery.specs.Inner.Indicators.{blocks_of}
use Rattle.recovery.specs.Inner.Gaps.{Gap, gaps_of, heavy, GapGrids, IndicatorRows, KnownGrid, rest_answer}
use Rattle.recovery.proofs.GapRows.{gaps_listed, rows_grids, rows_padded}
use Rattle.recovery.proofs.GapReadings.{light, not_light, gaps_nothing, gaps_several, gaps_message}

-- a broken word of an order is one of the order 0
pub broken_0 : (q : ℕ) (columns : List ℕ) (m : ℕ) (word : List ℕ) → BrokenOver q columns m word → BrokenOver q columns 0 word
broken_0 q columns m word h =
    record { over = h.over; few = h.few; order = omega (arith, h.order); long = h.long; value = h.value }

-- the places of a short block
pub short_places : (q : ℕ) (columns : List ℕ) (m : ℕ) (word : List ℕ) → BrokenOver q columns m word → IsShort q
    → (q * length columns ≤ 64) × (length word ≤ 64) × (length columns ≤ 16)
short_places q columns m word h short =
    let l = columns_short q columns h.over short h.few in
    (l, omega (arith, h.long, l), omega (arith, h.few, (short_sizes q short).symbols))

-- a row of a short block has room for the blocks of a grid
pub blocks_fit : (q : ℕ) → IsShort q → 16 * blocks_of q ≤ 64
blocks_fit = each_short (λ q. 16 * blocks_of q ≤ 64) (omega arith) (omega arith)

module _ (q : ℕ) (columns : List ℕ) (m : ℕ) (word : List ℕ) (h : BrokenOver q columns m word) (full : length columns ≡ q * q)
    (n : ℕ) (short : q * length columns ≤ n) (count : ℕ) (counted : count ≡ length (gaps_of word)) (vectors : List ℕ)
    (room : n * n ≤ length vectors) (rows : IndicatorRows q columns (gaps_of word) n vectors) where
  pub count_le : count ≤ n
  count_le = omega (arith, counted, place_bound (λ p. eqb (entry word p) 255) (length word), h.long, short)

  pub count_fits : n * count ≤ length vectors
  count_fits = omega (arith, mul-le-mul_left n count_le)

  pub lent_long : length (take (n * count) vectors) ≡ n * count
  lent_long = length-take-le (n * count) vectors count_fits

  lent_at : (p i : ℕ) → p < count → i < n → entry (take (n * count) vectors) (n * p + i) ≡ entry vectors (n * p + i)
  lent_at p i l b = get_or-take (n * count) vectors (n * p + i) 0 (omega (arith, block_fits n p count l))

  pub lent_symbols : Below (field_of q).size (take (n * count) vectors)
  lent_symbols = below_take (field_of q).size vectors (n * count) rows.symbols

  lent_rows : IndicatorRows q columns (gaps_of word) n (take (n * count) vectors)
  lent_rows =
      record {
        symbols = lent_symbols;
        at = λ p i j a b c.
            lent_at p (q * i + j) (omega (arith, counted)) (omega (arith, short, place_lt q i j (length columns) c b)) ∙ rows.at p i j a b c;
        zeros = λ p i a b c. lent_at p i (omega (arith, counted)) c ∙ rows.zeros p i a b c;
      }

  module _ (grid : List ℕ) (known : KnownGrid q columns word grid) (r : ℕ) (after left : List ℕ) (long : length left ≡ n)
      (eliminated : Eliminated (field_of q) (heavy q m) n count (rows_from n 0 (take (n * count) vectors) grid) count r
      (rows_from n count after left)) where
    abbrev gaps : List ℕ
    gaps = gaps_of word

    abbrev lent : List ℕ
    lent = take (n * count) vectors

    ended : Eliminated (field_of q) (heavy q m) n (length gaps) (rows_from n 0 lent grid) count r (rows_from n count after left)
    ended =
        subst (λ (e : ℕ). Eliminated (field_of q) (heavy q m) n e (rows_from n 0 lent grid) count r (rows_from n count after left)) counted eliminated

    done : length gaps ≤ count
    done = omega (arith, counted)

    listed : ListOf (Gap word) gaps
    listed = gaps_listed word

    grids : GapGrids q columns word gaps (rows_from n 0 lent grid)
    grids = rows_grids q columns h.over full word gaps h.long listed n short lent grid lent_rows known

    pad : Padded (q * length columns) n (length gaps) (rows_from n 0 lent grid)
    pad = rows_padded q columns h.over full word gaps h.long listed n short lent grid lent_rows known

    abbrev Test : Bool → Type 0
    Test b = order_at_most q m (length left) left ≡ b

    is_light : Test true → ZeroOn (heavy q m) n (entry left)
    is_light e = light q m n (entry left) left (λ i l. refl) (rw long at e)

    pub nothing_left : Test false → reading (field_of q).size (size q m) (word_of q columns m) word ≡ nothing
    nothing_left e =
        gaps_nothing q columns m word h gaps listed _ grids n pad count r _ ended done
        (not_light q m n (entry left) left (λ i l. refl) (rw long at e))

    pub several_left : Test true → r < count → reading (field_of q).size (size q m) (word_of q columns m) word ≡ several (count - r)
    several_left e l =
        gaps_several q columns m word h gaps listed _ grids n pad count r _ ended done (is_light e) (omega (arith, counted))
        ∙ ap (λ (x : ℕ). several (x - r)) (sym counted)

    pub message_left : Test true → count ≤ r → reading (field_of q).size (size q m) (word_of q columns m) word ≡ message (gather q m left)
    message_left e l =
        gaps_message q columns m word h gaps listed _ grids n pad count r _ ended done (omega (arith, counted, eliminated.pivots)) left
        (λ i b. refl) (is_light e)

    -- so the answer from what is left is that of recovery
    pub rest_answer_lem : (slice : List ℕ)
        → rest_answer q m count r left slice ≡ answer_of (reading (field_of q).size (size q m) (word_of q columns m) word) slice
    unfolding answer_of
    rest_answer_lem slice =
        elim (true_or_false (order_at_most q m (length left) left)) [
          | inr e ↦ rw e (sym (ap (λ (x : Reading). answer_of x slice) (nothing_left e)))
          | inl e ↦ elim (dec_lt r count) [
            | yes l ↦ rw (e, lt-ltb r count l) (sym (ap (λ (x : Reading). answer_of x slice) (several_left e l)))
            | no d ↦ rw (e, le-ltb r count (omega arith)) (sym (ap (λ (x : Reading). answer_of x slice) (message_left e (omega arith))))
          ]
        ]
