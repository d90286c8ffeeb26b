-- What a call answers: where the checks refuse it, and past them from what its steps leave.
-- Assumes nothing.
use mathlib.Core.Bool.{true}
use mathlib.Core.List.{List}
use mathlib.Core.Path.{◌≡◌, sym, ap, ◌∙◌}
use Prim.Native.Nat.{ℕ, ◌*◌, ◌≤◌, ◌<◌}
use native.Mathlib.Omega.{arith}
use lib.Dec.{eqb}
use lib.ListN.{length}
use Rattle.std.specs.Prelude.{Err}
use Rattle.field.specs.Outcomes.{Outcome, Done, number}
use Rattle.field.specs.declared.outcome.Refusal.TheVariants.{NoneNear}
use Rattle.field.proofs.Curves.{short_curve, short_sizes}
use Rattle.field.proofs.Outcomes.{not_done}
use Rattle.points.specs.Series.{columns_of}
use Rattle.code.specs.Word.{word_of}
use Rattle.code.proofs.Answers.{Refused}
use Rattle.code.specs.Inner.Encodable.{Encodable}
use Rattle.code.proofs.FullColumns.{size_short, encodable}
use Rattle.code.proofs.Inverse.{message_accepted}
use Rattle.mend.specs.Mended.{radius, differing, marks_of, answered, mend_checks, mended}
use Rattle.mend.specs.Inner.Candidates.{OnlyNear}
use Rattle.mend.proofs.Menders.{Passed, checks_passed, mended_refused, mended_near, mended_none}

-- what the checks refuse is the answer
pub answered_refused : (q series m : ℕ) (word message codeword marks : List ℕ) (o : Outcome)
    → o ≡ mend_checks q series m word (length message) (length codeword) (length marks) → Refused o
    → mended q series m word message codeword marks ≡ answered o 0 message codeword marks
answered_refused q series m word message codeword marks o e r =
    mended_refused q series m word message codeword marks (ap (λ (x : Outcome). eqb (number x) 0) (sym e) ∙ not_done o r)
    ∙ ap (λ (x : Outcome). answered x 0 message codeword marks) (sym e)

module _ (q series m : ℕ) (word message codeword marks : List ℕ)
    (e : mend_checks q series m word (length message) (length codeword) (length marks) ≡ Done) where
  pub passed : Passed q series m word (length message) (length codeword) (length marks)
  passed = checks_passed q series m word (length message) (length codeword) (length marks) e

  order : m < q * q * q
  order = omega (arith, passed.mendable.order)

  pub word_short : length word ≤ 64
  word_short = omega (arith, passed.mendable.long, (short_sizes q passed.mendable.curve).points)

  pub message_short : length message ≤ 64
  message_short = omega (arith, passed.message_long, size_short q passed.mendable.curve m order)

  -- v is the only message that can be near
  module _ (v : List ℕ) (only : OnlyNear q series m word v true) where
    -- it can be encoded
    pub only_encodable : (lent : List ℕ) → length lent ≡ length word → Encodable q (columns_of q series) m v lent
    only_encodable lent l =
        let ok = passed.mendable in
        let curve = short_curve q ok.curve in
        encodable q series m v lent curve order (message_accepted q series m curve ok.named order v lent only.0 (l ∙ ok.long))

    -- w is its word, which differs in count places
    module _ (t : ℕ) (t_is : t ≡ radius q m) (w : List ℕ) (w_is : w ≡ word_of q (columns_of q series) m v)
        (count : ℕ) (counted : count ≡ differing word w) where
      distance : count ≡ differing word (word_of q (columns_of q series) m v)
      distance = counted ∙ ap (differing word) w_is

      -- too many: none is near
      pub answered_far : t < count → mended q series m word message codeword marks ≡ answered (Err NoneNear) 0 message codeword marks
      answered_far l =
          mended_none q series m word message codeword marks e
          (λ u h.
          let same : differing word (word_of q (columns_of q series) m u) ≡ differing word (word_of q (columns_of q series) m v) =
          ap (λ (x : List ℕ). differing word (word_of q (columns_of q series) m x)) (only.1 u h) in
          omega (arith, h.within, same, distance, t_is))

      pub count_small : count ≤ t → count ≤ 64
      count_small l = omega (arith, t_is, (short_sizes q passed.mendable.curve).points)

      pub answered_near : count ≤ t → (message' codeword' marks' : List ℕ) → message' ≡ v → codeword' ≡ w → marks' ≡ marks_of word w
          → mended q series m word message codeword marks ≡ answered Done count message' codeword' marks'
      answered_near l message' codeword' marks' a b c =
          mended_near q series m word message codeword marks e v (record { vector = only.0; within = omega (arith, distance, t_is) })
          ∙ rw (a, b, c, counted, w_is)
