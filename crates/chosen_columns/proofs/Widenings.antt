-- A broken word over some columns, and the same over all columns with gaps at the others: the same messages fit.
-- Assumes nothing.
use mathlib.Core.Bool.{Bool}
use mathlib.Core.List.{List}
use mathlib.Core.Logic.{◌⊎◌, inl, inr, ◌↔◌, ⊎_elim}
use mathlib.Core.Path.{◌≡◌, sym, ap, ◌∙◌, subst}
use Prim.Native.Nat.{ℕ, ◌+◌, ◌*◌, ◌/◌, ◌%◌, ◌≤◌, ◌<◌}
use native.Mathlib.Nat.{div-add-mod, mul-le-mul_left}
use native.Mathlib.Decide.{ℕ_discrete}
use native.Mathlib.Omega.{arith}
use lib.ListN.{length, get_or, take, replicate, get_or-replicate}
use lib.Seq.{get_or-take}
use Rattle.field.proofs.Curves.{sizes}
use Rattle.field.proofs.Fields.{field_of}
use Rattle.poly.specs.Lists.{filter}
use Rattle.poly.specs.Messages.{all}
use Rattle.poly.proofs.Bools.{same_test}
use Rattle.poly.proofs.Lists.{find, mem_get_or, get_or_mem}
use Rattle.poly.proofs.Blocks.{block_of, block_fits}
use Rattle.points.specs.Points.{ys_of}
use Rattle.points.specs.Series.{columns_of}
use Rattle.points.specs.Inner.Columns.{Columns}
use Rattle.points.proofs.ColumnPoints.{up_to_at}
use Rattle.points.proofs.Series.{first_columns, full_columns, length_columns, full_places}
use Rattle.code.specs.Terms.{size}
use Rattle.code.specs.Word.{word_of, value_at}
use Rattle.code.specs.Fitting.{fits, fitting}
use Rattle.code.specs.Recovered.{read, reading}
use Rattle.code.specs.Inner.Moving.{Within, Moved}
use Rattle.code.specs.Inner.Recovering.{BrokenOver}
use Rattle.code.proofs.WordColumns.{word_at}
use Rattle.code.proofs.Fitting.{Fits, of_fits, to_fits}
use Rattle.chosen_columns.specs.Inner.Widening.{Widened}

-- two broken words that the same messages fit have the same reading
same_reading : (Q k : ℕ) (word word' : List ℕ → List ℕ) (broken broken' : List ℕ) → ((v : List ℕ) → Fits word broken v ↔ Fits word' broken' v)
    → reading Q k word broken ≡ reading Q k word' broken'
unfolding reading fitting
same_reading Q k word word' broken broken' same =
    ap (λ (p : List ℕ → Bool). read Q (filter p (all Q k)))
    (λ i v. same_test (fits word broken v) (fits word' broken' v) (λ t. to_fits word' broken' v ((same v).0 (of_fits word broken v t)))
    (λ t. to_fits word broken v ((same v).1 (of_fits word' broken' v t))) i)

-- column x of all of them, ascending, is x
pub column_at : (q x : ℕ) → x < q * q → get_or (columns_of q 1) x 0 ≡ x
column_at q x l = ap (λ (k : List ℕ). get_or k x 0) (first_columns q 1 (λ e. omega arith)) ∙ up_to_at (q * q) x l

-- the word over some columns is the part of the word over all columns that stands in them
pub part_of_whole : (q : ℕ) (columns : List ℕ) → Columns q columns → (m : ℕ) (v : List ℕ) (t s : ℕ) → t < length columns → s < q
    → get_or (word_of q (columns_of q 1) m v) (q * get_or columns t 0 + s) 0 ≡ get_or (word_of q columns m v) (q * t + s) 0
part_of_whole q columns h m v t s l b =
    let x = get_or columns t 0 in
    let k : x < length (columns_of q 1) = omega (arith, h.small t l, length_columns q 1 h.curve) in
    word_at q m h.curve v (columns_of q 1) (full_columns q 1 h.curve).small x s k b
    ∙ ap (λ (y : ℕ). value_at q m v y (get_or (ys_of q y) s 0)) (column_at q x (h.small t l)) ∙ sym (word_at q m h.curve v columns h.small t s l b)

module _ (q : ℕ) (columns : List ℕ) (m : ℕ) (broken : List ℕ) (h : BrokenOver q columns m broken) (wide : List ℕ) (w : Widened q columns broken wide) where
  pos : 0 < q
  pos = omega (arith, (sizes q h.over.curve).low)

  -- a place of a word over c columns is the place s of a column t
  at_place : (c : ℕ) (P : ℕ → Type 0) → ((t s : ℕ) → t < c → s < q → P (q * t + s)) → (p : ℕ) → p < q * c → P p
  at_place c P f p l = let b = block_of q pos c p l in subst P (div-add-mod p q) (f (p / q) (p % q) b.0 b.1)

  place_lt : (t s c : ℕ) → s < q → t < c → q * t + s < q * c
  place_lt t s c b l = omega (arith, block_fits q t c l)

  -- x is the column t, or none
  chosen : (x : ℕ) → ((t : ℕ) × (t < length columns) × (get_or columns t 0 ≡ x)) ⊎ ((t : ℕ) → t < length columns → get_or columns t 0 ≡ x → ⊥)
  chosen x =
      ⊎_elim (λ f. let i = get_or_mem columns 0 f.1 in inl (i.0, i.1, i.2 ∙ f.2)) (λ f. inr (λ t l. f (get_or columns t 0) (mem_get_or columns 0 t l)))
      (find (λ y. y ≡ x) (λ y. y ≡ x → ⊥) (λ y. elim (ℕ_discrete y x) [ yes e ↦ inl e | no d ↦ inr d ]) columns)

  places : q * (q * q) ≡ q * q * q
  places = (sizes q h.over.curve).grid

  same_fits : (v : List ℕ) → Fits (word_of q (columns_of q 1) m) wide v ↔ Fits (word_of q columns m) broken v
  same_fits v = (
    λ f. record {
      at = λ p l. at_place (length columns) (λ (p : ℕ). (get_or broken p 0 ≡ 255 → ⊥) → get_or (word_of q columns m v) p 0 ≡ get_or broken p 0)
          (λ t s a b d.
          let e = w.inside t s a b in
          sym (part_of_whole q columns h.over m v t s a b)
          ∙ f.at (q * get_or columns t 0 + s) (omega (arith, w.long, places, place_lt (get_or columns t 0) s (q * q) b (h.over.small t a))) (λ z. d (sym e ∙ z)) ∙ e)
          p (omega (arith, h.long));
    },
    λ f. record {
      at = λ p l. at_place (q * q) (λ (p : ℕ). (get_or wide p 0 ≡ 255 → ⊥) → get_or (word_of q (columns_of q 1) m v) p 0 ≡ get_or wide p 0)
          (λ x s a b d. elim (chosen x) [
            | inr none ↦ absurd (d (w.outside x s a b none))
            | inl i ↦
                let e = w.inside i.0 s i.1 b in
                rw (← i.2)
                (part_of_whole q columns h.over m v i.0 s i.1 b
                ∙ f.at (q * i.0 + s) (omega (arith, h.long, place_lt i.0 s (length columns) b i.1)) (λ z. d (rw (← i.2) (e ∙ z))) ∙ sym e)
          ])
          p (omega (arith, w.long, places));
    },
  )

  -- THE SAME MESSAGES FIT
  pub wide_reading : (Q : ℕ) → reading Q (size q m) (word_of q (columns_of q 1) m) wide ≡ reading Q (size q m) (word_of q columns m) broken
  wide_reading Q = same_reading Q (size q m) (word_of q (columns_of q 1) m) (word_of q columns m) wide broken same_fits

  pub wide_over : BrokenOver q (columns_of q 1) m wide
  wide_over =
      record {
        over = full_columns q 1 h.over.curve;
        few = omega (arith, length_columns q 1 h.over.curve);
        order = omega (arith, h.order, mul-le-mul_left q h.few, places, full_places q 1 h.over.curve);
        long = w.long ∙ sym (full_places q 1 h.over.curve);
        value = λ p l. at_place (q * q) (λ (p : ℕ). (get_or wide p 0 ≡ 255) ⊎ (get_or wide p 0 < (field_of q).size))
            (λ x s a b. elim (chosen x) [
              | inr none ↦ inl (w.outside x s a b none)
              | inl i ↦
                  let e = w.inside i.0 s i.1 b in
                  rw (← i.2, e) (h.value (q * i.0 + s) (omega (arith, h.long, place_lt i.0 s (length columns) b i.1)))
            ])
            p (omega (arith, w.long, places));
      }

-- ---- how a word is widened: its columns are moved into a list of 255

-- the first c of all columns, ascending, are the numbers below c
pub numbers_are : (q : ℕ) (l : List ℕ) → take (q * q) l ≡ columns_of q 1 → (c : ℕ) → c ≤ q * q → (t : ℕ) → t < c → get_or (take c l) t 0 ≡ t
numbers_are q l is c few t k =
    get_or-take c l t 0 k ∙ sym (get_or-take (q * q) l t 0 (omega arith)) ∙ ap (λ (x : List ℕ). get_or x t 0) is ∙ column_at q t (omega arith)

module _ (q : ℕ) (columns word : List ℕ) (h : BrokenOver q columns 0 word) (numbers : List ℕ)
    (long : length numbers ≡ length columns) (is : (t : ℕ) → t < length columns → get_or numbers t 0 ≡ t) where
  pub numbers_within : Within q numbers word
  numbers_within t l =
      omega (arith, ap (λ (x : ℕ). q * x) (is t (omega arith)), h.long, block_fits q t (length columns) (omega arith))

  pub widened : (wide : List ℕ) → Moved q numbers columns word (replicate (q * q * q) 255) wide (length numbers) → Widened q columns word wide
  widened wide moved =
      record {
        long = moved.long;
        inside = λ t s l b. moved.at t s (omega arith) b ∙ ap (λ (x : ℕ). get_or word (q * x + s) 0) (is t l);
        outside = λ x s l b none.
            moved.kept x s b (λ t k. none t (omega arith))
            ∙ get_or-replicate (q * q * q) (q * x + s) 255 0 (omega (arith, block_fits q x (q * q) l, (sizes q h.over.curve).grid));
      }
