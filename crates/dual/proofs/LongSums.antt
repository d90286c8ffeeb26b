-- The sums of a long block: what the first stage leaves of each sixteen columns, and the four parts of a row.
-- Assumes nothing.
use mathlib.Core.Bool.{Bool}
use mathlib.Core.List.{List}
use mathlib.Core.Path.{◌≡◌, sym, ap, ap₂, ◌∙◌}
use Prim.Native.Nat.{ℕ, suc, ◌+◌, ◌-◌, ◌*◌, ◌/◌, ◌%◌, ◌≤◌, ◌<◌}
use native.Mathlib.Decide.{dec_lt}
use native.Mathlib.Omega.{arith}
use borrow.Rule.Slice.PartMut.{put_mid}
use lib.ListN.{length, get_or, drop}
use lib.Seq.{get_or-drop}
use Rattle.field.specs.Plus.{plus}
use Rattle.field.specs.Power.{power}
use Rattle.field.specs.Sum.{sum}
use Rattle.field.proofs.Fields.{field_of}
use Rattle.field.proofs.FieldLaws.{zero_lt}
use Rattle.field.proofs.Sums.{sum_cong, sum_plus, sum_add}
use Rattle.poly.specs.Inner.Lanes.{lanes}
use Rattle.poly.specs.Inner.Linear.{entry}
use Rattle.poly.specs.Inner.Ranges.{Below, part, put}
use Rattle.poly.proofs.LaneLaws.{lanes_at, lanes_below, lanes_cong}
use Rattle.poly.proofs.LanePowers.{raised, raised_lanes, raised_none, raised_more, raised_below, raised_sum}
use Rattle.poly.proofs.Parts.{length_part, part_at, below_part, below_take, put_is, put_low, put_in, put_high, below_back}
use Rattle.points.specs.Points.{ys_of}
use Rattle.code.specs.Inner.Encodable.{Staged}
use Rattle.code.specs.Inner.Readable.{WordOver}
use Rattle.code.proofs.Stages.{columns_below}
use Rattle.dual.specs.Inner.StagedSums.{column_sum, SummedInY, sum_by_power_of_x, staged_sum, TermsVanish, Tells, long_entry}
use Rattle.dual.proofs.StagedSums.{sums_same}

-- ---- the sum of lanes

pub sum_lanes_plus : (a b r : List ℕ) → r ≡ lanes (λ t. plus (entry a t) (entry b t))
    → sum 16 (entry r) ≡ plus (sum 16 (entry a)) (sum 16 (entry b))
sum_lanes_plus a b r e =
    sum_cong 16 (entry r) (λ t. plus (entry a t) (entry b t))
    (λ t l. ap (λ (x : List ℕ). entry x t) e ∙ lanes_at (λ t. plus (entry a t) (entry b t)) t l)
    ∙ sum_plus 16 (entry a) (entry b)

-- ---- the first stage, after the columns below n

pub record LongSummed (columns word rows : List ℕ) (n : ℕ) : Type 0 where
  pub sums : (j t : ℕ) → j < 8 → t < n → long_entry rows j t ≡ column_sum 8 columns word j t
  pub rest : (i : ℕ) → 8 * n ≤ i → get_or rows i 0 ≡ 0
  pub symbols : Below (field_of 8).size rows

pub long_none : (columns word rows : List ℕ) → ((i : ℕ) → get_or rows i 0 ≡ 0) → LongSummed columns word rows 0
long_none columns word rows zeros =
    record {
      sums = λ j t a b. absurd (omega arith);
      rest = λ i l. zeros i;
      symbols = λ i. rw (zeros i) (zero_lt (field_of 8));
    }

-- sixteen columns more
module _ (columns word : List ℕ) (over : WordOver 8 columns word) (all : length columns ≡ 64) (n : ℕ) (fits : n + 16 ≤ 64) where
  group_columns : length (part columns n (n + 16)) ≡ 16
  group_columns = length_part columns n (n + 16) (omega arith) (omega arith) ∙ omega arith

  -- the parts that are lent
  pub group_staged : Staged 8 (part columns n (n + 16)) (part word (8 * n) (8 * (n + 16)))
  group_staged =
      record {
        curve = over.over.curve;
        columns_below = below_part (field_of 8).size columns n (n + 16) (columns_below 8 columns over.over);
        few = omega (arith, group_columns);
        symbols = below_part (field_of 8).size word (8 * n) (8 * (n + 16)) over.symbols;
      }

  pub group_word : length (part word (8 * n) (8 * (n + 16))) ≡ 8 * length (part columns n (n + 16))
  group_word = length_part word (8 * n) (8 * (n + 16)) (omega arith) (omega (arith, over.long)) ∙ omega (arith, group_columns)

  group_sum : (j u : ℕ) → u < 16
      → column_sum 8 (part columns n (n + 16)) (part word (8 * n) (8 * (n + 16))) j u ≡ column_sum 8 columns word j (n + u)
  group_sum j u l =
      sum_cong 8 _ _
      (λ s b.
      let p : 8 * n + (8 * u + s) ≡ 8 * (n + u) + s = omega arith in
      ap₂ (λ (x y : ℕ). (field_of 8).times x (power (field_of 8) (get_or (ys_of 8 y) s 0) j))
      (part_at word (8 * n) (8 * (n + 16)) (8 * u + s) (omega arith) ∙ ap (λ (i : ℕ). get_or word i 0) p)
      (part_at columns n (n + 16) u (omega arith)))

  module _ (rows : List ℕ) (long : length rows ≡ 512) (h : LongSummed columns word rows n) where
    pub group_room : length (part rows (8 * n) (8 * (n + 16))) ≡ 128
    group_room = length_part rows (8 * n) (8 * (n + 16)) (omega arith) (omega arith) ∙ omega arith

    pub group_zeros : (i : ℕ) → get_or (part rows (8 * n) (8 * (n + 16))) i 0 ≡ 0
    group_zeros i =
        let few = below_take 1 (drop (8 * n) rows) (8 * (n + 16) - 8 * n) (λ k. rw (get_or-drop (8 * n) rows k 0, h.rest (8 * n + k) (omega arith)) (omega arith)) i in
        omega (arith, few)

    pub long_more : (last : List ℕ) → n % 16 ≡ 0 → length last ≡ 128
        → SummedInY 8 8 (part columns n (n + 16)) (part word (8 * n) (8 * (n + 16))) last
        → LongSummed columns word (put_mid (8 * n) (8 * (n + 16) - 8 * n) rows last) (n + 16)
    long_more last whole is_long new =
        record {
          sums = λ j t a b. here _ ∙ sum_at j t a b (dec_lt t n);
          rest = λ i l. here i ∙ put_high rows (8 * n) (8 * (n + 16)) last (omega arith) (omega arith) (omega arith) i l ∙ h.rest i (omega arith);
          symbols = below_back (field_of 8).size rows last (8 * n) (8 * (n + 16)) (omega arith) (omega arith) (omega arith) h.symbols new.symbols;
        }
      where
        here : (i : ℕ) → get_or (put_mid (8 * n) (8 * (n + 16) - 8 * n) rows last) i 0 ≡ get_or (put rows (8 * n) (8 * (n + 16)) last) i 0
        here i = ap (λ (x : List ℕ). get_or x i 0) (put_is rows (8 * n) (8 * (n + 16)) last (omega arith))

        sum_at : (j t : ℕ) → j < 8 → t < n + 16 → Dec (t < n)
            → long_entry (put rows (8 * n) (8 * (n + 16)) last) j t ≡ column_sum 8 columns word j t
        sum_at j t a b (yes l) =
            put_low rows (8 * n) (8 * (n + 16)) last (omega arith) (omega arith) (omega arith) (128 * (t / 16) + (16 * j + t % 16)) (omega arith)
            ∙ h.sums j t a l
        sum_at j t a b (no d) =
            let u : ℕ = t - n in
            let same : n + u ≡ t = omega arith in
            let p : 128 * (t / 16) + (16 * j + t % 16) ≡ 8 * n + (16 * j + u) = omega arith in
            ap (λ (i : ℕ). get_or (put rows (8 * n) (8 * (n + 16)) last) i 0) p
            ∙ put_in rows (8 * n) (8 * (n + 16)) last (omega arith) (omega arith) (omega arith) (16 * j + u) (omega arith)
            ∙ new.sums.at j u a (omega arith) ∙ group_sum j u (omega arith) ∙ ap (column_sum 8 columns word j) same

-- ---- the second stage

-- sixteen of the columns, from o on: x are their places, and v what row j has of them, times the places to the power i
pub record Quarter (columns rows : List ℕ) (j o : ℕ) (x v : List ℕ) (i : ℕ) : Type 0 where
  pub places : x ≡ lanes (λ t. get_or columns (o + t) 0)
  pub terms : v ≡ raised_lanes (field_of 8) x (lanes (λ t. long_entry rows j (o + t))) i

module _ (columns rows : List ℕ) (j o : ℕ) (x : List ℕ) where
  abbrev numbers : ℕ → ℕ
  numbers t = long_entry rows j (o + t)

  -- what row j has of them stands from p on
  pub quarter_none : (p : ℕ) (v : List ℕ) → o % 16 ≡ 0 → p ≡ 128 * (o / 16) + 16 * j → Below (field_of 8).size rows
      → x ≡ lanes (λ t. get_or columns (o + t) 0) → v ≡ lanes (λ t. get_or rows (p + t) 0) → Quarter columns rows j o x v 0
  quarter_none p v whole is_p small is_x is_v =
      record {
        places = is_x;
        terms = raised_none (field_of 8) x (lanes numbers) v (lanes_below numbers (field_of 8).size (λ t l. small _))
            (is_v ∙ lanes_cong (λ t. get_or rows (p + t) 0) (entry (lanes numbers)) there);
      }
    where
      there : (t : ℕ) → t < 16 → get_or rows (p + t) 0 ≡ entry (lanes numbers) t
      there t l =
          let e : p + t ≡ 128 * ((o + t) / 16) + (16 * j + (o + t) % 16) = omega arith in
          ap (λ (y : ℕ). get_or rows y 0) e ∙ sym (lanes_at numbers t l)

  module _ (v : List ℕ) (i : ℕ) (h : Quarter columns rows j o x v i) where
    pub quarter_more : (new : List ℕ) → new ≡ lanes (λ t. (field_of 8).times (entry x t) (entry v t)) → Quarter columns rows j o x new (suc i)
    quarter_more new is_new = record { places = h.places; terms = raised_more (field_of 8) x (lanes numbers) v i h.terms new is_new }

    pub quarter_below : Below (field_of 8).size columns → Below (field_of 8).size x × Below (field_of 8).size v
    quarter_below small = (
      λ t. rw h.places (lanes_below (λ t. get_or columns (o + t) 0) (field_of 8).size (λ t l. small (o + t)) t),
      raised_below (field_of 8) x (lanes numbers) v i h.terms,
    )

    quarter_sum : sum 16 (entry v) ≡ sum 16 (λ t. (field_of 8).times (long_entry rows j (o + t)) (power (field_of 8) (get_or columns (o + t) 0) i))
    quarter_sum =
        raised_sum (field_of 8) x (lanes numbers) v i h.terms
        ∙ sum_cong 16 (raised (field_of 8) x (lanes numbers) i) _
        (λ t l. ap₂ (λ (y z : ℕ). (field_of 8).times y (power (field_of 8) z i)) (lanes_at numbers t l)
        (ap (λ (y : List ℕ). entry y t) h.places ∙ lanes_at (λ t. get_or columns (o + t) 0) t l))

-- all of them
abbrev pub Quarters : List ℕ → List ℕ → ℕ → List ℕ → List ℕ → List ℕ → List ℕ → List ℕ → List ℕ → List ℕ → List ℕ → ℕ → Type 0
Quarters columns rows j xa xb xc xd a b c d i =
    Quarter columns rows j 0 xa a i × Quarter columns rows j 16 xb b i × Quarter columns rows j 32 xc c i × Quarter columns rows j 48 xd d i

in_quarters : (f : ℕ → ℕ) → sum 64 f
    ≡ plus (plus (sum 16 (λ t. f (0 + t))) (sum 16 (λ t. f (16 + t)))) (plus (sum 16 (λ t. f (32 + t))) (sum 16 (λ t. f (48 + t))))
in_quarters f =
    sum_add 32 32 f
    ∙ ap₂ plus
    (sum_add 16 16 f ∙ ap (λ (x : ℕ). plus x (sum 16 (λ t. f (16 + t)))) (shifted (λ t. t) (λ t. 0 + t) (λ t. omega arith)))
    (sum_add 16 16 (λ t. f (32 + t))
    ∙ ap (plus (sum 16 (λ t. f (32 + t)))) (shifted (λ t. 32 + (16 + t)) (λ t. 48 + t) (λ t. omega arith)))
  where
    shifted : (a b : ℕ → ℕ) → ((t : ℕ) → a t ≡ b t) → sum 16 (λ t. f (a t)) ≡ sum 16 (λ t. f (b t))
    shifted a b e = sum_cong 16 (λ t. f (a t)) (λ t. f (b t)) (λ t l. ap f (e t))

pub quarters_sum : (columns rows : List ℕ) (j : ℕ) (xa xb xc xd a b c d : List ℕ) (i u : ℕ) → Quarters columns rows j xa xb xc xd a b c d i
    → u ≡ plus (plus (sum 16 (entry a)) (sum 16 (entry b))) (plus (sum 16 (entry c)) (sum 16 (entry d)))
    → u ≡ sum_by_power_of_x 64 8 columns i (long_entry rows j)
quarters_sum columns rows j xa xb xc xd a b c d i u (ha, hb, hc, hd) e =
    e
    ∙ ap₂ plus (ap₂ plus (quarter_sum columns rows j 0 xa a i ha) (quarter_sum columns rows j 16 xb b i hb))
    (ap₂ plus (quarter_sum columns rows j 32 xc c i hc) (quarter_sum columns rows j 48 xd d i hd))
    ∙ sym (in_quarters (λ t. (field_of 8).times (long_entry rows j t) (power (field_of 8) (get_or columns t 0) i)))

-- ---- both stages, over 64 columns

module _ (list columns word rows : List ℕ) (is_list : columns ≡ list) (all : length list ≡ 64) where
  long_staged : ((j t : ℕ) → j < 8 → t < 64 → long_entry rows j t ≡ column_sum 8 columns word j t) → (i j : ℕ) → j < 8
      → sum_by_power_of_x 64 8 columns i (long_entry rows j) ≡ staged_sum 8 list word i j
  long_staged sums i j l =
      sum_cong 64 _ (λ t. (field_of 8).times (column_sum 8 columns word j t) (power (field_of 8) (get_or columns t 0) i))
      (λ t k. ap (λ (x : ℕ). (field_of 8).times x (power (field_of 8) (get_or columns t 0) i)) (sums j t l k))
      ∙ ap (λ (x : List ℕ). sum_by_power_of_x 64 8 x i (column_sum 8 x word j)) is_list
      ∙ ap (λ (n : ℕ). sum_by_power_of_x n 8 list i (column_sum 8 list word j)) (sym all)

  pub long_tells : (m : ℕ) (b : Bool) → ((j t : ℕ) → j < 8 → t < 64 → long_entry rows j t ≡ column_sum 8 columns word j t)
      → Tells b (TermsVanish 8 m (λ i j. sum_by_power_of_x 64 8 columns i (long_entry rows j))) → Tells b (TermsVanish 8 m (staged_sum 8 list word))
  long_tells m b sums = sums_same 8 m b _ _ (long_staged sums)
