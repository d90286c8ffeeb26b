-- Openings: what an accepted one says of its arguments, and that its refusals are recovery's.
-- Assumes nothing.
use mathlib.Core.Bool.{Bool, true, false, not}
use mathlib.Core.List.{List}
use mathlib.Core.Path.{◌≡◌, refl, sym, ◌∙◌}
use Prim.Native.Nat.{ℕ, ◌*◌, ◌<◌}
use native.Mathlib.Omega.{arith}
use borrow.Author.Tests.{eq-eqb}
use lib.Dec.{eqb, leb, ltb}
use lib.ListN.{length, replicate}
use Rattle.field.specs.Curve.{IsCurve, is_short, IsShort}
use Rattle.std.specs.Prelude.{Err}
use Rattle.field.specs.Outcomes.{Outcome, Done, number, refuse}
use Rattle.field.specs.declared.outcome.Refusal.TheVariants.{BadCurve, BadOrder, BadLength, BadValue, BadRoom, BadSeries}
use Rattle.field.proofs.Curves.{short_curve, short_of_true, short_true}
use Rattle.points.specs.Passing.{passing}
use Rattle.points.specs.Series.{is_series, columns_of}
use Rattle.code.specs.Terms.{size}
use Rattle.code.specs.Checks.{curve_checks, order_checks, bad_value, first_bad, slice_checks}
use Rattle.code.specs.Answers.{answered}
use Rattle.code.specs.Recovered.{answer_of, recover_checks, recovered}
use Rattle.code.specs.Inner.Recovering.{BrokenOver}
use Rattle.code.proofs.Checks.{Accepted, call_done, order_passed, slices_accepted, slices_room, value_good, none_found}
use Rattle.code.proofs.FullColumns.{broken_over, size_short}
use Rattle.code.proofs.Recoveries.{reading_of, recovered_refused, recovered_answer}
use Rattle.job.specs.Opened.{fresh, open_checks, opened}

-- the job that a refused opening hands back is one that an opening accepts
pub blank_accepted : open_checks 2 1 0 (replicate 8 255) ≡ Done
unfolding order_checks curve_checks slice_checks first_bad passing
blank_accepted = refl

-- refused alike, openings of two words hand back the same
pub opened_alike : (q series m : ℕ) (v w : List ℕ) (o : Outcome) → open_checks q series m v ≡ o → open_checks q series m w ≡ o → eqb (number o) 0 ≡ false
    → opened q series m v ≡ opened q series m w
unfolding opened
opened_alike q series m v w o e f n = rw (e, f, n)

module _ (q series m : ℕ) (word : List ℕ) where
  pub opened_outcome : (opened q series m word).outcome ≡ open_checks q series m word
  unfolding opened
  opened_outcome = refl

  -- an accepted opening, and a refused one
  pub opened_done : open_checks q series m word ≡ Done → (opened q series m word).task ≡ fresh q series m word
  unfolding opened
  opened_done e = rw e

  pub opened_refused : eqb (number (open_checks q series m word)) 0 ≡ false → (opened q series m word).task ≡ fresh 2 1 0 (replicate 8 255)
  unfolding opened
  opened_refused e = rw e

  -- "meets refusals 1 to 4 as they do", and 17: recovery meets the same, with a slice of any length
  pub refused_alike : eqb (number (open_checks q series m word)) 0 ≡ false → (slice : List ℕ)
      → recovered q series m word slice ≡ answered (open_checks q series m word) slice
  unfolding order_checks curve_checks slice_checks
  refused_alike e slice = recovered_refused q series m word slice (open_checks q series m word) (sym (alike e)) e
    where
      go : (a s b c d f : Bool) (i : ℕ)
          → eqb (number (refuse a BadCurve (refuse s BadSeries (refuse b BadOrder (refuse c BadLength (refuse d (BadValue i) (refuse false BadRoom Done))))))) 0 ≡ false
          → refuse a BadCurve (refuse s BadSeries (refuse b BadOrder (refuse c BadLength (refuse d (BadValue i) (refuse false BadRoom Done)))))
          ≡ refuse a BadCurve (refuse s BadSeries (refuse b BadOrder (refuse c BadLength (refuse d (BadValue i) (refuse f BadRoom Done)))))
      go true s b c d f i e = refl
      go false true b c d f i e = refl
      go false false true c d f i e = refl
      go false false false true d f i e = refl
      go false false false false true f i e = refl
      go false false false false false f i e = let z : ◌≡◌ {A = ℕ} 0 1 = cc in absurd (omega arith)

      alike : eqb (number (open_checks q series m word)) 0 ≡ false → open_checks q series m word ≡ recover_checks q series m word slice
      alike =
          rw (eq-eqb (size q m) (size q m) refl)
          (go (not (is_short q)) (not (is_series series)) (leb (q * q * q) m) (not (eqb (length word) (q * q * q))) (ltb (first_bad (bad_value true (q * q)) word) (length word))
          (not (eqb (length slice) (size q m))) (first_bad (bad_value true (q * q)) word))

  module _ (accepted : open_checks q series m word ≡ Done) where
    pub open_block : IsShort q
    open_block = short_of_true q (call_done (is_short q) true true q series m word (size q m) accepted).0

    pub open_curve : IsCurve q
    open_curve = short_curve q open_block

    pub open_order : m < q * q * q
    open_order = (call_done (is_short q) true true q series m word (size q m) accepted).1

    open_named : is_series series ≡ true
    open_named = (call_done (is_short q) true true q series m word (size q m) accepted).3

    open_word : Accepted true (q * q) (q * q * q) word (size q m) (size q m)
    open_word = (call_done (is_short q) true true q series m word (size q m) accepted).2

    pub open_broken : BrokenOver q (columns_of q series) m word
    open_broken = broken_over q series m word (size q m) (size q m) open_curve open_order open_word

    pub open_short : size q m < 64
    open_short = size_short q open_block m open_order

    module _ (slice : List ℕ) where
      checks : recover_checks q series m word slice ≡ slice_checks true (q * q) (q * q * q) word (size q m) (length slice) Done
      checks = order_passed (is_short q) q series m _ (short_true q open_block) open_named open_order

      -- recovery then answers by the reading, or meets 5
      pub recovers : length slice ≡ size q m → recovered q series m word slice ≡ answer_of (reading_of q series m word) slice
      recovers e =
          recovered_answer q series m word slice
          (checks ∙ slices_accepted true (q * q) (q * q * q) word (size q m) (length slice) Done
          (record { long = open_word.long; good = open_word.good; fits = e }))

      pub recovers_room : (length slice ≡ size q m → ⊥) → recovered q series m word slice ≡ answered (Err BadRoom) slice
      recovers_room n =
          recovered_refused q series m word slice (Err BadRoom)
          (checks ∙ slices_room true (q * q) (q * q * q) word (size q m) (length slice) Done open_word.long Done
          (value_good true (q * q) word _ refl (none_found (bad_value true (q * q)) word open_word.good)) refl n) refl
