-- Columns that are moved: what a turn of the loop leaves, and that all turns of the converter leave the word in the order of the other series.
-- Assumes nothing.
use mathlib.Core.List.{List}
use mathlib.Core.Path.{◌≡◌, refl, sym, ap, ◌∙◌}
use Prim.Native.Nat.{ℕ, ◌+◌, ◌-◌, ◌*◌, ◌/◌, ◌%◌, ◌≤◌, ◌<◌}
use native.Mathlib.Decide.{ℕ_discrete, dec_lt}
use native.Mathlib.Nat.{div-add-mod}
use native.Mathlib.Omega.{arith}
use borrow.Rule.Slice.PartMut.{put_mid}
use lib.ListN.{length, get_or}
use lib.Seq.{ext_get_or}
use Rattle.field.specs.Curve.{IsCurve}
use Rattle.field.proofs.Curves.{sizes}
use Rattle.poly.specs.Inner.Ranges.{part, put}
use Rattle.poly.specs.Inner.Rows.{stored}
use Rattle.poly.proofs.Lists.{get_or_mem, nodup_get_or}
use Rattle.poly.proofs.Multiples.{length_stored, stored_in}
use Rattle.poly.proofs.Parts.{length_part, part_at, put_is, length_put, put_low, put_in, put_high}
use Rattle.poly.proofs.Blocks.{block_fits, block_of}
use Rattle.points.specs.Series.{other_series, columns_of}
use Rattle.points.specs.Inner.Columns.{Columns}
use Rattle.points.proofs.Series.{full_columns, length_columns, every_column, crossed}
use Rattle.code.specs.Converted.{relisted}
use Rattle.code.specs.Inner.Moving.{Within, Moved}
use Rattle.code.proofs.FullColumns.{full_points}
use Rattle.code.proofs.Conversions.{length_relisted, relisted_at}

-- the part of column number t of a list is within a word
pub part_fits : (q : ℕ) (columns : List ℕ) → Columns q columns → (t : ℕ) → t < length columns → q * get_or columns t 0 + q ≤ q * q * q
part_fits q columns h t l = omega (arith, block_fits q (get_or columns t 0) (q * q) (h.small t l), (sizes q h.curve).grid)

pub moved_none : (q : ℕ) (from to word out : List ℕ) → length out ≡ q * q * q → Moved q from to word out out 0
moved_none q from to word out long = record { long = long; at = λ t s k l. absurd (omega arith); kept = λ x s l d. refl }

-- one column more
pub moved_more : (q : ℕ) (from to word out₀ out last : List ℕ) (n : ℕ) → Columns q to → n < length to
    → Moved q from to word out₀ out n
    → last ≡ stored q (part word (q * get_or from n 0) (q * get_or from n 0 + q)) (part out (q * get_or to n 0) (q * get_or to n 0 + q))
    → Moved q from to word out₀ (put_mid (q * get_or to n 0) (q * get_or to n 0 + q - q * get_or to n 0) out last) (n + 1)
moved_more q from to word out₀ out last n h fits moved e =
    record {
      long = ap length as_put ∙ length_put out a (a + q) last ordered room long ∙ moved.long;
      at = λ t s k l. ap (λ (x : List ℕ). get_or x (q * get_or to t 0 + s) 0) as_put ∙ go t s k l (ℕ_discrete t n);
      kept = λ x s l d. ap (λ (y : List ℕ). get_or y (q * x + s) 0) as_put ∙ aside x s l (λ f. d n (omega arith) (sym f))
          ∙ moved.kept x s l (λ t k. d t (omega arith));
    }
  where
    a : ℕ
    a = q * get_or to n 0

    ordered : a ≤ a + q
    ordered = omega arith

    room : a + q ≤ length out
    room = omega (arith, part_fits q to h n fits, moved.long)

    part_long : length (part out a (a + q)) ≡ a + q - a
    part_long = length_part out a (a + q) ordered room

    long : length last ≡ a + q - a
    long = ap length e ∙ length_stored q _ (part out a (a + q)) ∙ part_long

    as_put : put_mid a (a + q - a) out last ≡ put out a (a + q) last
    as_put = put_is out a (a + q) last ordered

    -- another column is as it was
    aside : (x s : ℕ) → s < q → (x ≡ get_or to n 0 → ⊥) → get_or (put out a (a + q) last) (q * x + s) 0 ≡ get_or out (q * x + s) 0
    aside x s l d = elim (dec_lt x (get_or to n 0)) [
      | yes b ↦ put_low out a (a + q) last ordered room long (q * x + s) (omega (arith, block_fits q x (get_or to n 0) b))
      | no b ↦
          let more : get_or to n 0 < x = omega arith in
          put_high out a (a + q) last ordered room long (q * x + s) (omega (arith, block_fits q (get_or to n 0) x more))
    ]

    go : (t s : ℕ) → t < n + 1 → s < q → Dec (t ≡ n) → get_or (put out a (a + q) last) (q * get_or to t 0 + s) 0 ≡ get_or word (q * get_or from t 0 + s) 0
    go t s k l (yes f) =
        rw f
        (put_in out a (a + q) last ordered room long s (omega arith) ∙ ap (λ (x : List ℕ). get_or x s 0) e
        ∙ stored_in q _ (part out a (a + q)) s l (omega (arith, part_long))
        ∙ part_at word (q * get_or from n 0) (q * get_or from n 0 + q) s (omega arith))
    go t s k l (no d) =
        let b : t < n = omega arith in
        aside (get_or to t 0) s l (λ f. d (nodup_get_or to 0 h.distinct t n (omega arith) fits f)) ∙ moved.at t s b l

-- all columns, of the other series and of this one
module _ (q series : ℕ) (curve : IsCurve q) where
  abbrev other : ℕ
  other = other_series series

  abbrev F : List ℕ
  F = columns_of q series

  abbrev G : List ℕ
  G = columns_of q other

  all_moved : (word out₀ out : List ℕ) → Moved q G F word out₀ out (length G) → out ≡ relisted q F G word
  all_moved word out₀ out moved = ext_get_or 0 out v (moved.long ∙ sym (length_relisted q F G word ∙ full_points q other curve)) same
    where
      v : List ℕ
      v = relisted q F G word

      same : (p : ℕ) → p < length out → get_or out p 0 ≡ get_or v p 0
      same p l =
          let z = sizes q curve in
          let b = block_of q (omega (arith, z.low)) (q * q) p (omega (arith, z.grid, moved.long)) in
          let s = p % q in
          let w = get_or_mem F 0 (every_column q series curve (p / q) b.0) in
          let t = w.0 in
          let lf = length_columns q series curve in
          let lg = length_columns q other curve in
          let k : t < q * q = omega (arith, w.1) in
          let place : p ≡ q * get_or F t 0 + s = omega (arith, ap (λ (x : ℕ). q * x) w.2, div-add-mod p q) in
          ap (λ (i : ℕ). get_or out i 0) place ∙ moved.at t s (omega arith) b.1
          ∙ sym (relisted_at q F G word (full_columns q series curve) (full_columns q other curve) (get_or F t 0) (get_or G t 0) s
          (omega (arith, (full_columns q series curve).small t w.1)) (omega (arith, (full_columns q other curve).small t (omega arith))) b.1
          (crossed q series curve t k))
          ∙ ap (λ (i : ℕ). get_or v i 0) (sym place)

  -- as the code has them
  module _ (from to : List ℕ) (is_from : from ≡ G) (is_to : to ≡ F) where
    pub movable : (word : List ℕ) → length word ≡ q * q * q → Within q from word × Columns q to × (length to ≡ length from)
    movable word long =
        rw (is_from, is_to)
        (λ t l. omega (arith, part_fits q G (full_columns q other curve) t l), full_columns q series curve, length_columns q series curve ∙ sym (length_columns q other curve))

    pub moved_all : (word out₀ out : List ℕ) → Moved q from to word out₀ out (length from) → out ≡ relisted q F G word
    moved_all word out₀ out moved = all_moved word out₀ out (rw (is_from, is_to) at moved)
