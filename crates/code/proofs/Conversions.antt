-- The laws of the converter (T-11). Of a word over one list of columns that is put in the order of another list of the same columns: each point
-- keeps what stands at it, there and back is the identity, a codeword becomes that of the same message, and the same messages fit. Then of the
-- calls, over the columns of the two series.
-- Assumes nothing.
use mathlib.Core.Bool.{Bool, true, false, not, and-false}
use mathlib.Core.List.Memᴰ
use mathlib.Core.List.{List, [], ◌∷◌, Memᴰ as Mem}
use mathlib.Core.Path.{◌≡◌, refl, sym, ap, ap₂, ◌∙◌, subst}
use Prim.Native.Nat.{ℕ, zero, suc, ◌+◌, ◌*◌, ◌<◌}
use native.Mathlib.Decide.{ℕ_discrete}
use native.Mathlib.Omega.{arith}
use borrow.Author.Tests.{eq-eqb, ne_eqb}
use lib.Dec.{eqb}
use lib.ListN.{length, get_or, length-map}
use lib.Seq.{ext_get_or}
use Rattle.field.specs.Curve.{is_curve, IsCurve, is_short}
use Rattle.field.specs.Outcomes.{Outcome, Done, refuse}
use Rattle.field.specs.declared.outcome.Refusal.TheVariants.{BadWork}
use Rattle.field.proofs.Curves.{sizes, curve_true, curve_of_true}
use Rattle.poly.specs.Lists.{Nodup, filter}
use Rattle.poly.specs.Messages.{all}
use Rattle.poly.proofs.Bools.{same_test}
use Rattle.poly.proofs.Lists.{mem_get_or, get_or_mem, get_or_map}
use Rattle.poly.proofs.Blocks.{block_fits}
use Rattle.points.specs.Points.{ys_of, points_on}
use Rattle.points.specs.Series.{is_series, other_series, columns_of}
use Rattle.points.specs.Inner.Columns.{Columns}
use Rattle.points.proofs.Points.{mem_points, of_mem_points, nodup_points, length_points, points_at}
use Rattle.points.proofs.Series.{other_named, other_twice, full_columns, also_column}
use Rattle.code.specs.Terms.{size}
use Rattle.code.specs.Word.{value_at, word_of}
use Rattle.code.specs.Fitting.{fits, fitting}
use Rattle.code.specs.Answers.{Answer, answered, unless_refused}
use Rattle.code.specs.Checks.{bad_value, curve_checks, order_checks, slice_checks, call_checks}
use Rattle.code.specs.Converted.{same_point, place_of, relisted, convert_checks, converted}
use Rattle.code.specs.Recovered.{Reading, read, reading, answer_of, recovered}
use Rattle.code.specs.RecoveredLong.{work_length, recovered_long}
use Rattle.code.proofs.Word.{point_at, length_word, word_at_point, word_symbol}
use Rattle.code.proofs.FullColumns.{full_points}
use Rattle.code.proofs.Checks.{Accepted, curve_rest, curve_passed, slices_done, slices_good, slices_accepted, good_symbol}
use Rattle.code.proofs.Answers.{not_refused, past}
use Rattle.code.proofs.Fitting.{Fits, of_fits, to_fits}
use Rattle.code.proofs.Recoveries.{reading_of}

-- ---- the place of a point

same : (a b : ℕ × ℕ) → a ≡ b → same_point a b ≡ true
same a b e = rw (eq-eqb a.0 b.0 (ap (λ (p : ℕ × ℕ). p.0) e), eq-eqb a.1 b.1 (ap (λ (p : ℕ × ℕ). p.1) e))

apart : (a b : ℕ × ℕ) → (a ≡ b → ⊥) → same_point a b ≡ false
apart a b d = elim (ℕ_discrete a.0 b.0) [
  | yes e ↦ elim (ℕ_discrete a.1 b.1) [
    | yes f ↦ absurd (d (ap₂ (λ (x y : ℕ). (x, y)) e f))
    | no n ↦ rw (ne_eqb a.1 b.1 n) (and-false (eqb a.0 b.0))
  ]
  | no n ↦ rw (ne_eqb a.0 b.0 n)
]

found : (points : List (ℕ × ℕ)) → Nodup points → (p : ℕ) → p < length points → place_of (get_or points p (0, 0)) points ≡ p
unfolding place_of
found [] d p l = absurd (omega arith)
found (b ∷ rest) d zero l = rw (same b b refl)
found (b ∷ rest) d (suc p) l =
    rw (apart b (get_or rest p (0, 0)) (λ e. d.0 (Memᴰ.cast e (mem_get_or rest (0, 0) p (omega arith)))))
    (ap suc (found rest d.1 p (omega arith)))

-- the point at place p has the place p
pub place_of_lem : (q : ℕ) (columns : List ℕ) → Nodup columns → (p : ℕ) → p < length (points_on q columns)
    → place_of (point_at q columns p) (points_on q columns) ≡ p
place_of_lem q columns d = found (points_on q columns) (nodup_points q columns d)

-- a point of columns that are all in another list has a place there
pub other_place : (q : ℕ) (from to : List ℕ) → ((x : ℕ) → Mem x from → Mem x to) → (p : ℕ) → p < length (points_on q from)
    → (r : ℕ) × (r < length (points_on q to)) × (point_at q to r ≡ point_at q from p)
other_place q from to h p l =
    let a : ℕ × ℕ = point_at q from p in
    let w = of_mem_points q from a (mem_get_or (points_on q from) (0, 0) p l) in
    get_or_mem (points_on q to) (0, 0) (mem_points q to a.0 a.1 (h a.0 w.0) w.1)

-- ---- a word in the order of another list

pub length_relisted : (q : ℕ) (from to word : List ℕ) → length (relisted q from to word) ≡ length (points_on q to)
unfolding relisted
length_relisted q from to word = length-map (points_on q to) (λ a. get_or word (place_of a (points_on q from)) 0)

-- at each point stands what stood at it, a missing mark too
pub same_symbol : (q : ℕ) (from to word : List ℕ) → Nodup from → (p r : ℕ) → p < length (points_on q from) → r < length (points_on q to)
    → point_at q from p ≡ point_at q to r → get_or (relisted q from to word) r 0 ≡ get_or word p 0
unfolding relisted
same_symbol q from to word d p r k l e =
    let i : place_of (point_at q to r) (points_on q from) ≡ p = ap (λ (a : ℕ × ℕ). place_of a (points_on q from)) (sym e) ∙ place_of_lem q from d p k in
    get_or_map (λ a. get_or word (place_of a (points_on q from)) 0) (points_on q to) (0, 0) 0 r l ∙ ap (λ (i : ℕ). get_or word i 0) i

-- column by column: where column number a of the one list is number b of the other
pub relisted_at : (q : ℕ) (from to word : List ℕ) → Columns q from → Columns q to → (a b s : ℕ) → a < length to → b < length from → s < q
    → get_or to a 0 ≡ get_or from b 0 → get_or (relisted q from to word) (q * a + s) 0 ≡ get_or word (q * b + s) 0
relisted_at q from to word f t a b s k l i e =
    same_symbol q from to word f.distinct (q * b + s) (q * a + s)
    (omega (arith, length_points q f.curve from f.small, block_fits q b (length from) l))
    (omega (arith, length_points q t.curve to t.small, block_fits q a (length to) k))
    (points_at q f.curve from f.small b s l i
    ∙ ap (λ (x : ℕ). (x, get_or (ys_of q x) s 0)) (sym e)
    ∙ sym (points_at q t.curve to t.small a s k i))

-- the same columns, each once
pub record SameColumns (from to : List ℕ) : Type 0 where
  pub distinct_from : Nodup from
  pub distinct_to : Nodup to
  pub there : (x : ℕ) → Mem x from → Mem x to
  pub back : (x : ℕ) → Mem x to → Mem x from

module _ (q : ℕ) (from to : List ℕ) (h : SameColumns from to) where
  -- there and back
  pub relisted_back : (word : List ℕ) → length word ≡ length (points_on q from) → relisted q to from (relisted q from to word) ≡ word
  relisted_back word long =
      let v = relisted q from to word in
      ext_get_or 0 (relisted q to from v) word (length_relisted q to from v ∙ sym long)
      (λ p l.
      let k : p < length (points_on q from) = omega (arith, length_relisted q to from v) in
      let w = other_place q from to h.there p k in
      same_symbol q to from v h.distinct_to w.0 p w.1 k w.2 ∙ same_symbol q from to word h.distinct_from p w.0 k w.1 (sym w.2))

  -- the word of a message
  pub relisted_word : (m : ℕ) (message : List ℕ) → relisted q from to (word_of q from m message) ≡ word_of q to m message
  relisted_word m message =
      let word = word_of q from m message in
      ext_get_or 0 (relisted q from to word) (word_of q to m message) (length_relisted q from to word ∙ sym (length_word q to m message))
      (λ r l.
      let k : r < length (points_on q to) = omega (arith, length_relisted q from to word) in
      let w = other_place q to from h.back r k in
      same_symbol q from to word h.distinct_from w.0 r w.1 k w.2
      ∙ word_at_point q from m message w.0 w.1
      ∙ ap (λ (a : ℕ × ℕ). value_at q m message a.0 a.1) w.2
      ∙ sym (word_at_point q to m message r k))

  -- a message that fits a broken word still does
  still_fits : (m : ℕ) (word message : List ℕ) → length word ≡ length (points_on q from) → Fits (word_of q from m) word message
      → Fits (word_of q to m) (relisted q from to word) message
  still_fits m word message long fit =
      record {
        at = λ r l n.
            let k : r < length (points_on q to) = omega (arith, length_relisted q from to word) in
            let w = other_place q to from h.back r k in
            let s = same_symbol q from to word h.distinct_from w.0 r w.1 k w.2 in
            ap (λ (x : List ℕ). get_or x r 0) (sym (relisted_word m message))
            ∙ same_symbol q from to (word_of q from m message) h.distinct_from w.0 r w.1 k w.2
            ∙ fit.at w.0 (omega (arith, w.1)) (λ e. n (s ∙ e)) ∙ sym s;
      }

module _ (q : ℕ) (from to : List ℕ) (h : SameColumns from to) where
  turned : SameColumns to from
  turned = record { distinct_from = h.distinct_to; distinct_to = h.distinct_from; there = h.back; back = h.there }

  -- just the messages that fit a broken word fit it in the other order
  pub same_fits : (m : ℕ) (word message : List ℕ) → length word ≡ length (points_on q from)
      → fits (word_of q to m) (relisted q from to word) message ≡ fits (word_of q from m) word message
  same_fits m word message long =
      let v = relisted q from to word in
      same_test (fits (word_of q to m) v message) (fits (word_of q from m) word message)
      (λ t. to_fits (word_of q from m) word message
      (subst (λ (w : List ℕ). Fits (word_of q from m) w message) (relisted_back q from to h word long)
      (still_fits q to from turned m v message (length_relisted q from to word) (of_fits (word_of q to m) v message t))))
      (λ t. to_fits (word_of q to m) v message (still_fits q from to h m word message long (of_fits (word_of q from m) word message t)))

  pub same_reading : (Q k m : ℕ) (word : List ℕ) → length word ≡ length (points_on q from)
      → reading Q k (word_of q to m) (relisted q from to word) ≡ reading Q k (word_of q from m) word
  unfolding reading fitting
  same_reading Q k m word long = ap (λ (p : List ℕ → Bool). read Q (filter p (all Q k))) (λ i v. same_fits m word v long i)

-- ---- the calls

-- both series have the same columns
pub both_series : (q a b : ℕ) → IsCurve q → SameColumns (columns_of q a) (columns_of q b)
both_series q a b curve =
    record {
      distinct_from = (full_columns q a curve).distinct;
      distinct_to = (full_columns q b curve).distinct;
      there = also_column q a b curve;
      back = also_column q b a curve;
    }

-- what 1, 17, 3, 4 and 5 say
pub record Convertible (q series : ℕ) (word : List ℕ) (room : ℕ) : Type 0 where
  pub curve : IsCurve q
  pub named : is_series series ≡ true
  pub taken : Accepted true (q * q) (q * q * q) word (q * q * q) room

pub convertible : (q series : ℕ) (word : List ℕ) (room : ℕ) → convert_checks q series word room ≡ Done → Convertible q series word room
unfolding convert_checks
convertible q series word room e =
    let c = curve_rest (is_curve q) series (slice_checks true (q * q) (q * q * q) word (q * q * q) room Done) e in
    record {
      curve = curve_of_true q c.0;
      named = c.1;
      taken = slices_done true (q * q) (q * q * q) word (q * q * q) room c.2;
    }

module _ (q series : ℕ) (word out : List ℕ) where
  -- a call that succeeds is past them, and gives the word in the other series' order
  of_converted : (v : List ℕ) → converted q series word out ≡ answered Done v
      → Convertible q series word (length out) × (relisted q (columns_of q series) (columns_of q (other_series series)) word ≡ v)
  unfolding converted
  of_converted v e =
      let w = past (convert_checks q series word (length out)) out v
      (answered Done (relisted q (columns_of q series) (columns_of q (other_series series)) word)) e in
      (convertible q series word (length out) w.0, ap (λ (a : Answer). a.slice) w.1)

  -- a call with a curve, a series, n values and room for them succeeds
  pub to_converted : Convertible q series word (length out)
      → converted q series word out ≡ answered Done (relisted q (columns_of q series) (columns_of q (other_series series)) word)
  unfolding converted convert_checks
  to_converted h =
      not_refused (convert_checks q series word (length out)) out _
      (curve_passed (is_curve q) series (slice_checks true (q * q) (q * q * q) word (q * q * q) (length out) Done) (curve_true q h.curve) h.named
      ∙ slices_accepted true (q * q) (q * q * q) word (q * q * q) (length out) Done h.taken)

-- the word of a message becomes its word in the other series
pub converts_codewords : (q series m : ℕ) (message out : List ℕ) → IsCurve q → is_series series ≡ true → length out ≡ q * q * q
    → converted q series (word_of q (columns_of q series) m message) out ≡ answered Done (word_of q (columns_of q (other_series series)) m message)
converts_codewords q series m message out curve named long =
    let from = columns_of q series in
    let word = word_of q from m message in
    to_converted q series word out
    (record {
      curve = curve;
      named = named;
      taken = record {
        long = length_word q from m message ∙ full_points q series curve;
        good = λ p l. good_symbol true (q * q) (get_or word p 0)
            (omega (arith, word_symbol q from m message p (omega (arith, length_word q from m message)), (sizes q curve).size));
        fits = long;
      };
    })
    ∙ ap (answered Done) (relisted_word q from (columns_of q (other_series series)) (both_series q series (other_series series) curve) m message)

module _ (q series : ℕ) (word out v : List ℕ) (done : converted q series word out ≡ answered Done v) where
  given : Convertible q series word (length out)
  given = (of_converted q series word out v done).0

  is : relisted q (columns_of q series) (columns_of q (other_series series)) word ≡ v
  is = (of_converted q series word out v done).1

  abbrev other : ℕ
  other = other_series series

  columns : SameColumns (columns_of q series) (columns_of q other)
  columns = both_series q series other given.curve

  as_long : length word ≡ length (points_on q (columns_of q series))
  as_long = given.taken.long ∙ sym (full_points q series given.curve)

  -- each value stands at its point again: so 255 does, and nowhere else
  pub missing_marks : (p r : ℕ) → p < q * q * q → r < q * q * q → point_at q (columns_of q series) p ≡ point_at q (columns_of q other) r
      → get_or v r 0 ≡ get_or word p 0
  missing_marks p r k l e =
      ap (λ (x : List ℕ). get_or x r 0) (sym is)
      ∙ same_symbol q (columns_of q series) (columns_of q other) word columns.distinct_from p r
      (omega (arith, full_points q series given.curve)) (omega (arith, full_points q other given.curve)) e

  long_again : length v ≡ q * q * q
  long_again = ap length (sym is) ∙ length_relisted q (columns_of q series) (columns_of q other) word ∙ full_points q other given.curve

  good_again : (r : ℕ) → r < length v → bad_value true (q * q) (get_or v r 0) ≡ false
  good_again r l =
      let n = full_points q series given.curve in
      let w = other_place q (columns_of q other) (columns_of q series) columns.back r (omega (arith, long_again, full_points q other given.curve)) in
      ap (bad_value true (q * q)) (missing_marks w.0 r (omega (arith, w.1)) (omega (arith, long_again)) w.2)
      ∙ given.taken.good w.0 (omega (arith, w.1, given.taken.long))

  -- THERE AND BACK is the identity, from either series, of broken words too
  pub there_and_back : (back : List ℕ) → length back ≡ q * q * q → converted q other v back ≡ answered Done word
  there_and_back back long =
      to_converted q other v back
      (record { curve = given.curve; named = other_named series; taken = record { long = long_again; good = good_again; fits = long } })
      ∙ ap (answered Done)
      (ap (λ (s : ℕ). relisted q (columns_of q other) (columns_of q s) v) (other_twice series given.named)
      ∙ ap (relisted q (columns_of q other) (columns_of q series)) (sym is)
      ∙ relisted_back q (columns_of q series) (columns_of q other) columns word as_long)

  same_checks : (taken : Bool) (m room : ℕ) (rest : Outcome)
      → call_checks taken true true q other m v room rest ≡ call_checks taken true true q series m word room rest
  unfolding order_checks curve_checks
  same_checks taken m room rest =
      rw (
        other_named series,
        given.named,
        slices_good true (q * q) (q * q * q) v (size q m) room rest long_again good_again,
        slices_good true (q * q) (q * q * q) word (size q m) room rest given.taken.long given.taken.good,
      )

  readings : (m : ℕ) → reading_of q other m v ≡ reading_of q series m word
  readings m =
      ap (reading (q * q) (size q m) (word_of q (columns_of q other) m)) (sym is)
      ∙ same_reading q (columns_of q series) (columns_of q other) columns (q * q) (size q m) m word as_long

  -- RECOVERY answers the same of a broken word in either series
  pub same_readings : (m : ℕ) (slice : List ℕ) → recovered q other m v slice ≡ recovered q series m word slice
  unfolding recovered
  same_readings m slice =
      ap₂ (λ (o : Outcome) (r : Reading). unless_refused o slice (answer_of r slice)) (same_checks (is_short q) m (length slice) Done) (readings m)

-- and so does that of long blocks
pub same_long_readings : (series : ℕ) (word out v : List ℕ) → converted 8 series word out ≡ answered Done v → (m : ℕ) (slice : List ℕ) (work : ℕ)
    → recovered_long (other_series series) m v slice work ≡ recovered_long series m word slice work
unfolding recovered_long
same_long_readings series word out v done m slice work =
    ap₂ (λ (o : Outcome) (r : Reading). unless_refused o slice (answer_of r slice))
    (same_checks 8 series word out v done true m (length slice) (refuse (not (eqb work work_length)) BadWork Done)) (readings 8 series word out v done m)
