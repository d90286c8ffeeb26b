-- The words of the terms taken out of what is known of a broken word: which messages fit it, and the word of the only one.
-- Assumes nothing.
use mathlib.Core.Bool.{true, false, not}
use mathlib.Core.List.{List, ◌++◌}
use mathlib.Core.Logic.{inl}
use mathlib.Core.Path.{◌≡◌, refl, sym, ap, ap₂, ◌∙◌, subst}
use Prim.Native.Nat.{ℕ, ◌+◌, ◌-◌, ◌*◌, ◌≤◌, ◌<◌}
use native.Mathlib.Decide.{dec_lt, ℕ_discrete}
use native.Mathlib.Omega.{arith}
use borrow.Author.Tests.{eq-eqb, ne_eqb}
use lib.Dec.{T, eqb}
use lib.ListN.{length, get_or, take, drop}
use lib.Seq.{ext_get_or, get_or-take}
use Rattle.field.specs.Plus.{plus}
use Rattle.field.specs.Field.{Field}
use Rattle.std.specs.Prelude.{Err}
use Rattle.field.specs.Outcomes.{Done}
use Rattle.field.specs.declared.outcome.Refusal.TheVariants.{NoInformationSet}
use Rattle.field.proofs.Plus.{plus_self, plus_cancel, eq_of_plus_zero}
use Rattle.field.proofs.Fields.{field_of}
use Rattle.field.proofs.Curves.{sizes, two_symbols}
use Rattle.poly.specs.Lists.{one_if, count}
use Rattle.poly.specs.Messages.{Vector, all}
use Rattle.poly.specs.Inner.Ranges.{writes}
use Rattle.poly.specs.Inner.Rows.{stored, summed}
use Rattle.poly.specs.Inner.Linear.{entry}
use Rattle.poly.proofs.Bools.{T-dec, same_test}
use Rattle.poly.proofs.Lists.{count_cong, count_one}
use Rattle.poly.proofs.Messages.{mem_all, of_mem_all, nodup_all}
use Rattle.poly.proofs.Entries.{zeros}
use Rattle.poly.proofs.Fronts.{written_inside, written_outside}
use Rattle.poly.proofs.Blocks.{block_fits}
use Rattle.poly.proofs.Parts.{below_take}
use Rattle.poly.proofs.Linear.{dot_cong}
use Rattle.poly.proofs.Pairings.{dot_comm}
use Rattle.poly.proofs.Writes.{length_writes, writes_in}
use Rattle.linear.specs.Inner.Combinations.{Family, rows_from, combined, ZeroOn, zero_on, solutions, Eliminated}
use Rattle.linear.specs.Inner.Eliminating.{marked, Masks, Last}
use Rattle.linear.proofs.Combinations.{of_zero_on, to_zero_on}
use Rattle.linear.proofs.Pivots.{solutions_all, solutions_no, combined_left, solution}
use Rattle.code.specs.Answers.{answered}
use Rattle.code.specs.Recovered.{Reading, nothing, message, several, reading}
use Rattle.code.specs.Terms.{size}
use Rattle.code.specs.Word.{word_of}
use Rattle.code.specs.Fitting.{fits, fitting}
use Rattle.code.specs.Inner.Recovering.{present, BrokenOver}
use Rattle.code.specs.Inner.Rows.{row_of}
use Rattle.code.proofs.Exponents.{lt_pow}
use Rattle.code.proofs.Facts.{of_present, to_present}
use Rattle.code.proofs.Fitting.{Fits, of_fits, to_fits}
use Rattle.code.proofs.Readings.{Fitting, fitting_list, reads_message, reading_message}
use Rattle.code.proofs.Rows.{word_dot}
use Rattle.code.proofs.WordColumns.{word_length}
use Rattle.recovery.specs.Inner.Gaps.{known}
use Rattle.recovery.proofs.HeavyMarks.{mask_marked, mask_of}
use Rattle.systematic.specs.Inner.Completing.{completion, Solved}
use Rattle.systematic.specs.Inner.TermWords.{TermWords}
use Rattle.systematic.proofs.InformationSets.{word_injective}

-- ---- the marks

pub mark_gap : (word : List ℕ) (p : ℕ) → entry word p ≡ 255 → 0 ≡ 255 * one_if (present word p)
mark_gap word p e = rw (eq-eqb (entry word p) 255 e)

pub mark_symbol : (word : List ℕ) (p : ℕ) → (entry word p ≡ 255 → ⊥) → 255 ≡ 255 * one_if (present word p)
mark_symbol word p d = rw (ne_eqb (entry word p) 255 d)

-- in the front of an array of zeros
module _ (broken ys : List ℕ) (few : length broken ≤ 64)
    (is : ys ≡ writes (take (length broken) (zeros 64)) (length broken) (λ p. 255 * one_if (present broken p))) where
  pub marked_inside : (p : ℕ) → p < length broken → marked (ys ++ drop (length broken) (zeros 64)) p ≡ present broken p
  marked_inside p l = ap (λ (x : ℕ). not (eqb x 0)) (written_inside 64 (length broken) few _ ys is p l) ∙ mask_marked (present broken p)

  pub marked_outside : (p : ℕ) → length broken ≤ p → marked (ys ++ drop (length broken) (zeros 64)) p ≡ false
  marked_outside p l = ap (λ (x : ℕ). not (eqb x 0)) (written_outside 64 (length broken) few _ ys is p l)

  pub masks : Masks (ys ++ drop (length broken) (zeros 64))
  masks p = elim (dec_lt p (length broken)) [
    | yes l ↦ rw (written_inside 64 (length broken) few _ ys is p l) (mask_of (present broken p))
    | no d ↦ inl (written_outside 64 (length broken) few _ ys is p (omega arith))
  ]

-- ---- the words that are lent

pub words_lent : (q : ℕ) (columns : List ℕ) (m : ℕ) (vectors : List ℕ) (k : ℕ) → k ≡ size q m → q * length columns ≤ 64 → TermWords q columns m vectors
    → TermWords q columns m (take (64 * k) vectors)
words_lent q columns m vectors k e few words =
    record {
      symbols = below_take (field_of q).size vectors (64 * k) words.symbols;
      at = λ t p a b. get_or-take (64 * k) vectors (64 * t + p) 0 (omega (arith, block_fits 64 t k (rw e a))) ∙ words.at t p a b;
    }

-- ---- a vector of symbols and a row of coefficients

known_present : (broken : List ℕ) (p : ℕ) → (entry broken p ≡ 255 → ⊥) → known broken p ≡ entry broken p
known_present broken p d = rw (ne_eqb (entry broken p) 255 d)

-- ---- the solutions are the messages that fit

module _ (q : ℕ) (columns : List ℕ) (m : ℕ) (broken : List ℕ) (h : BrokenOver q columns m broken) (few : length broken ≤ 64)
    (vectors added high : List ℕ) (words : TermWords q columns m vectors)
    (is_known : (p : ℕ) → p < length broken → entry added p ≡ known broken p)
    (inside : (p : ℕ) → p < length broken → marked high p ≡ present broken p)
    (outside : (p : ℕ) → length broken ≤ p → marked high p ≡ false) where
  abbrev F : Field
  F = field_of q

  abbrev k : ℕ
  k = size q m

  abbrev S : Family
  S = rows_from 64 0 vectors added

  abbrev word_from : List ℕ → List ℕ
  word_from = word_of q columns m

  -- what a message leaves of what is known
  left_by : (u : List ℕ) (p : ℕ) → p < length broken → combined F k S (entry u) p ≡ plus (known broken p) (get_or (word_from u) p 0)
  unfolding combined
  left_by u p l =
      let pl : p < q * length columns = omega (arith, h.long) in
      ap₂ plus (is_known p l)
      (dot_comm F k (entry u) (λ t. S.vector t p)
      ∙ dot_cong F k (λ t. S.vector t p) (row_of q columns m p) (entry u)
      (λ t b. let z : 0 + t ≡ t = omega arith in rw z (words.at t p b pl))
      ∙ sym (word_dot q columns h.over m u p pl))

  zero_of_fits : (u : List ℕ) → Fits word_from broken u → ZeroOn (marked high) 64 (combined F k S (entry u))
  zero_of_fits u fit =
      record {
        at = λ p l t. elim (dec_lt p (length broken)) [
          | no d ↦ absurd (subst T (outside p (omega arith)) t)
          | yes b ↦
              let there = of_present broken p (rw (inside p b) at t) in
              left_by u p b ∙ ap₂ plus (known_present broken p there) (fit.at p b there) ∙ plus_self (entry broken p)
        ];
      }

  fits_of_zero : (u : List ℕ) → ZeroOn (marked high) 64 (combined F k S (entry u)) → Fits word_from broken u
  fits_of_zero u z =
      record {
        at = λ p l d.
            let s : plus (known broken p) (get_or (word_from u) p 0) ≡ 0 = sym (left_by u p l) ∙ z.at p (omega arith) (rw (inside p l) (to_present broken p d)) in
            sym (eq_of_plus_zero (known broken p) (get_or (word_from u) p 0) s) ∙ known_present broken p d;
      }

  is_size : F.size ≡ q * q
  is_size = (sizes q h.over.curve).size

  counted : count (fits word_from broken) (all F.size k) ≡ solutions F (marked high) 64 k S
  unfolding solutions
  counted =
      count_cong (fits word_from broken) (λ u. zero_on (marked high) 64 (combined F k S (entry u))) (all F.size k)
      (λ u i. same_test (fits word_from broken u) (zero_on (marked high) 64 (combined F k S (entry u)))
      (λ t. to_zero_on (marked high) 64 (combined F k S (entry u)) (zero_of_fits u (of_fits word_from broken u t)))
      (λ t. to_fits word_from broken u (fits_of_zero u (of_zero_on (marked high) 64 (combined F k S (entry u)) t))))

  two_le : 1 < F.size
  two_le = omega (arith, is_size, two_symbols q h.over.curve)

  abbrev Read : List ℕ → Type 0
  Read v = reading F.size k word_from broken ≡ message v

  -- where one message is read, just one fits
  one_fits : (v : List ℕ) → Read v → count (fits word_from broken) (all F.size k) ≡ 1
  unfolding reading
  one_fits v e =
      let a = (reads_message F.size two_le (Fitting F.size k word_from broken) (fitting F.size k word_from broken)
      (fitting_list F.size k word_from broken) v).0 e in
      count_one (fits word_from broken) v (all F.size k) (nodup_all F.size k) (mem_all F.size k v a.has.vector)
      (to_fits word_from broken v a.has.fits)
      (λ x i t. a.only x (record { vector = of_mem_all F.size k x i; fits = of_fits word_from broken x t }))

  -- ---- the end of the elimination

  module _ (r : ℕ) (after left : List ℕ)
      (ended : Eliminated F (marked high) 64 k S k r (rows_from 64 k after left)) where
    abbrev Clear : Type 0
    Clear = ZeroOn (marked high) 64 (entry left)

    done : k ≤ k
    done = omega arith

    -- something is left: none fits
    pub left_over : (Clear → ⊥) → Solved q columns m broken left false
    left_over d v e = omega (arith, one_fits v e, counted, solutions_no F (marked high) 64 k S k r (rows_from 64 k after left) ended done d)

    -- a term's word was no pivot: none or several fit
    pub not_solved : r < k → Solved q columns m broken left false
    not_solved l v e = elim (T-dec (zero_on (marked high) 64 (entry left))) [
      | yes t ↦
          let z = of_zero_on (marked high) 64 (entry left) t in
          absurd (omega (
            arith,
            one_fits v e,
            counted,
            solutions_all F (marked high) 64 k S k r (rows_from 64 k after left) ended done z,
            lt_pow F.size (k - r) two_le,
          ))
      | no d ↦ absurd (left_over (λ z. d (to_zero_on (marked high) 64 (entry left) z)) v e)
    ]

    -- all were pivots, and nothing is left
    module _ (full : r ≡ k) (z : Clear) where
      solves : (u : List ℕ) × Vector F.size k u × ZeroOn (marked high) 64 (combined F k S (entry u))
      solves = solution F (marked high) 64 k S k r (rows_from 64 k after left) ended done z

      word_left : (u : List ℕ) → ZeroOn (marked high) 64 (combined F k S (entry u)) → (p : ℕ) → p < length broken
          → entry left p ≡ plus (known broken p) (get_or (word_from u) p 0)
      word_left u s p l =
          sym (combined_left F (marked high) 64 k S k r (rows_from 64 k after left) ended done full (entry u) s p (omega arith)) ∙ left_by u p l

      same_word : (u w : List ℕ) → ZeroOn (marked high) 64 (combined F k S (entry u)) → ZeroOn (marked high) 64 (combined F k S (entry w))
          → word_from u ≡ word_from w
      same_word u w su sw =
          let long : (x : List ℕ) → length (word_from x) ≡ q * length columns = λ x. word_length q m h.over.curve x columns h.over.small in
          ext_get_or 0 (word_from u) (word_from w) (long u ∙ sym (long w))
          (λ p l.
          let b : p < length broken = omega (arith, long u, h.long) in
          let e = sym (word_left u su p b) ∙ word_left w sw p b in
          sym (plus_cancel (known broken p) (get_or (word_from u) p 0)) ∙ ap (plus (known broken p)) e ∙ plus_cancel (known broken p) (get_or (word_from w) p 0))

      pub is_solved : Solved q columns m broken left true
      is_solved =
          let u = solves.0 in
          let vector : (x : List ℕ) → Vector F.size k x → Vector (q * q) k x = λ x. subst (λ (Q : ℕ). Vector Q k x) is_size in (
            u,
            reading_message F.size k word_from broken two_le u solves.1 (fits_of_zero u solves.2)
                (λ w hw f. word_injective q columns h.over m h.order w u (vector w hw) (vector u solves.1) (same_word w u (zero_of_fits w f) solves.2)),
            λ p l. word_left u solves.2 p (omega (arith, h.long)),
          )

    -- the search for something that is left decides
    pub pivot_decides : (p : ℕ) → k ≤ r → length high ≡ 64 → Last high left p → Solved q columns m broken left (eqb p 0)
    pivot_decides p l long found = elim (ℕ_discrete p 0) [
      | yes e ↦
          rw (eq-eqb p 0 e)
          (is_solved (omega (arith, ended.pivots)) (subst (λ (n : ℕ). ZeroOn (marked high) n (entry left)) long (found.none e)))
      | no d ↦
          let s = found.some (omega arith) in
          rw (ne_eqb p 0 d) (left_over (λ z. s.1 (z.at (p - 1) (omega (arith, found.within)) s.0)))
    ]

-- ---- what is written

-- what was known, and what is left of it, make the word
module _ (q : ℕ) (columns : List ℕ) (m : ℕ) (broken v known₀ left out₀ : List ℕ) (h : BrokenOver q columns m broken)
    (room : length out₀ ≡ length broken) (is_known : (p : ℕ) → p < length broken → entry known₀ p ≡ known broken p)
    (is_left : (p : ℕ) → p < q * length columns → entry left p ≡ plus (known broken p) (get_or (word_of q columns m v) p 0)) where
  pub word_written : (copy out : List ℕ) → copy ≡ stored (length broken) known₀ out₀ → out ≡ summed (length broken) left copy → out ≡ word_of q columns m v
  unfolding stored summed
  word_written copy out is_copy is_out =
      let n = length broken in
      let long = word_length q m h.over.curve v columns h.over.small in
      let copied = ap length is_copy ∙ length_writes out₀ (entry known₀) n in
      let wide = ap length is_out ∙ length_writes copy (λ j. plus (entry copy j) (entry left j)) n in
      ext_get_or 0 out (word_of q columns m v) (wide ∙ copied ∙ room ∙ h.long ∙ sym long)
      (λ p l.
      let b : p < n = omega (arith, wide, copied, room) in
      ap (λ (x : List ℕ). get_or x p 0) is_out ∙ writes_in copy (λ j. plus (entry copy j) (entry left j)) n p b (omega (arith, copied, room))
      ∙ ap₂ plus
      (ap (λ (x : List ℕ). get_or x p 0) is_copy ∙ writes_in out₀ (entry known₀) n p b (omega (arith, room)) ∙ is_known p b)
      (is_left p (omega (arith, h.long)))
      ∙ plus_cancel (known broken p) (get_or (word_of q columns m v) p 0))

-- ---- the answers

pub completion_message : (word : List ℕ → List ℕ) (reading : Reading) (v slice : List ℕ) → reading ≡ message v → completion word reading slice ≡ answered Done (word v)
unfolding completion
completion_message word reading v slice e = ap (λ (r : Reading). completion word r slice) e

pub completion_other : (word : List ℕ → List ℕ) (reading : Reading) (slice : List ℕ) → ((v : List ℕ) → reading ≡ message v → ⊥)
    → completion word reading slice ≡ answered (Err NoInformationSet) slice
unfolding completion
completion_other word nothing slice d = refl
completion_other word (message v) slice d = absurd (d v refl)
completion_other word (several r) slice d = refl
