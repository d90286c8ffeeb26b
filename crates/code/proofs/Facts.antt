-- What demand 3 rests on, of a curve's number q, a list of different columns and an order m: how many messages fit a broken word over the
-- columns, and how few places decide; and the same of all columns in the order of a series.
-- Assumes nothing.
use mathlib.Core.Path.{◌≡◌, sym, ◌∙◌, subst}
use mathlib.Core.Logic.{◌↔◌, ◌⊎◌, ⊎_elim}
use mathlib.Core.List.{List, Memᴰ as Mem}
use Prim.Native.Nat.{ℕ, ◌+◌, ◌*◌, ◌≤◌, ◌<◌}
use native.Mathlib.Omega.{arith}
use lib.Dec.{T, eqb, eqb→eq, T_not, not_T}
use borrow.Author.Tests.{eq-eqb}
use lib.ListN.{length, get_or}
use Rattle.field.specs.Curve.{IsCurve}
use Rattle.field.proofs.Fields.{field_of}
use Rattle.field.proofs.Curves.{sizes}
use Rattle.poly.specs.Lists.{Nodup, count}
use Rattle.poly.specs.Messages.{Vector, all}
use Rattle.poly.specs.Inner.Linear.{entry, dot}
use Rattle.poly.proofs.Lists.{each_mem}
use Rattle.linear.proofs.Elimination.{PowerOrNone, Meets, eliminate, power_or_none}
use Rattle.points.specs.Series.{columns_of}
use Rattle.points.specs.Inner.Columns.{Columns}
use Rattle.points.proofs.Points.{length_points}
use Rattle.points.proofs.Series.{full_columns, full_places}
use Rattle.code.specs.Terms.{size}
use Rattle.code.specs.Word.{word_of}
use Rattle.code.specs.Fitting.{fits}
use Rattle.code.specs.Inner.Recovering.{present}
use Rattle.code.specs.Inner.Rows.{row_of}
use Rattle.code.proofs.Zeros.{agree}
use Rattle.code.proofs.Rows.{row_lt, word_dot}
use Rattle.code.proofs.Fitting.{of_fits, to_fits}

-- a broken word of n symbols: n values, each 255 or a symbol
pub record BrokenOf (q n : ℕ) (broken : List ℕ) : Type 0 where
  pub len : length broken ≡ n
  pub value : (p : ℕ) → p < n → (get_or broken p 0 ≡ 255) ⊎ (get_or broken p 0 < q * q)

pub record FactsOver (q : ℕ) (columns : List ℕ) (n m : ℕ) : Type 0 where
  -- the number of messages that fit a broken word is 0 or a power of Q
  pub power : (broken : List ℕ) → BrokenOf q n broken → PowerOrNone (q * q) (count (fits (word_of q columns m) broken) (all (q * q) (size q m)))
  -- two messages whose words agree at m + 1 different places are equal
  pub agreement : (v w : List ℕ) → Vector (q * q) (size q m) v → Vector (q * q) (size q m) w
      → (places : List ℕ) → Nodup places → m + 1 ≤ length places
      → ((p : ℕ) → Mem p places → (p < n) × (get_or (word_of q columns m v) p 0 ≡ get_or (word_of q columns m w) p 0)) → v ≡ w

-- over all columns
abbrev pub Broken : ℕ → List ℕ → Type 0
Broken q broken = BrokenOf q (q * q * q) broken

abbrev pub Facts : ℕ → ℕ → ℕ → Type 0
Facts q series m = FactsOver q (columns_of q series) (q * q * q) m

-- a value is there
pub of_present : (broken : List ℕ) (p : ℕ) → T (present broken p) → entry broken p ≡ 255 → ⊥
of_present broken p t e = T_not (eqb (entry broken p) 255) t (rw (eq-eqb (entry broken p) 255 e) tt)

pub to_present : (broken : List ℕ) (p : ℕ) → (entry broken p ≡ 255 → ⊥) → T (present broken p)
to_present broken p d = not_T (eqb (entry broken p) 255) (λ t. d (eqb→eq (entry broken p) 255 t))

module _ (q : ℕ) (columns : List ℕ) (over : Columns q columns) (n : ℕ) (n_is : n ≡ q * length columns) (m : ℕ) where
  abbrev word_from : List ℕ → List ℕ
  word_from = word_of q columns m

  -- a message fits where it meets the equation of each place whose value is there
  module _ (broken : List ℕ) (h : BrokenOf q n broken) where
    abbrev MeetsAll : (ℕ → ℕ) → Type 0
    MeetsAll = Meets (field_of q) (size q m) (row_of q columns m) (entry broken) (present broken) (length broken)

    symbol_there : (p : ℕ) → p < length broken → T (present broken p) → entry broken p < (field_of q).size
    symbol_there p l t =
        ⊎_elim (λ e. absurd (of_present broken p t e)) (λ s. omega (arith, (sizes q over.curve).size)) (h.value p (omega (arith, h.len)))

    value_there : (v : List ℕ) (p : ℕ) → p < length broken → get_or (word_from v) p 0 ≡ dot (field_of q) (size q m) (row_of q columns m p) (entry v)
    value_there v p l = word_dot q columns over m v p (omega (arith, h.len))

    fits_meets : (v : List ℕ) → T (fits word_from broken v) ↔ MeetsAll (entry v)
    fits_meets v = (
      λ t p l c. sym (value_there v p l) ∙ (of_fits word_from broken v t).at p l (of_present broken p c),
      λ met. to_fits word_from broken v (record { at = λ p l d. value_there v p l ∙ met p l (to_present broken p d) }),
    )

    how_many : PowerOrNone (q * q) (count (fits word_from broken) (all (q * q) (size q m)))
    how_many =
        subst (λ (Q : ℕ). PowerOrNone Q (count (fits word_from broken) (all Q (size q m)))) (sizes q over.curve).size
        (power_or_none (field_of q) (size q m) MeetsAll
        (eliminate (field_of q) (size q m) (row_of q columns m) (entry broken) (present broken) (length broken)
        (λ p l n k. row_lt q columns m p n) symbol_there)
        (fits word_from broken) (λ v u. fits_meets v))

  as_vector : (v : List ℕ) → Vector (q * q) (size q m) v → Vector (field_of q).size (size q m) v
  as_vector v = subst (λ (Q : ℕ). Vector Q (size q m) v) (sym (sizes q over.curve).size)

  pub facts_over : FactsOver q columns n m
  facts_over =
      record {
        power = how_many;
        agreement = λ v w hv hw places d l same.
            agree q over.curve columns over.distinct (each_mem (λ (x : ℕ). x < q * q) 0 columns over.small)
            m v w (as_vector v hv) (as_vector w hw) places d (omega arith)
            (λ p k. let s = same p k in (omega (arith, s.0, length_points q over.curve columns over.small), s.1));
      }

pub facts : (q series m : ℕ) → IsCurve q → Facts q series m
facts q series m curve = facts_over q (columns_of q series) (full_columns q series curve) (q * q * q) (sym (full_places q series curve)) m
