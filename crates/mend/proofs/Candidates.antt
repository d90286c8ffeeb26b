-- The only message that can be near: the one that is read where a locator isn't 0; or a codeword's own.
-- Assumes nothing.
use mathlib.Core.Bool.{true, false}
use mathlib.Core.List.{List}
use mathlib.Core.Path.{◌≡◌, sym, ap, ◌∙◌}
use Prim.Native.Nat.{ℕ, ◌*◌, ◌<◌}
use native.Mathlib.Omega.{arith}
use lib.Dec.{eqb}
use lib.ListN.{length, get_or}
use Rattle.field.specs.Outcomes.{Outcome, Done, number}
use Rattle.field.proofs.Outcomes.{done_or_not}
use Rattle.field.proofs.Curves.{short_curve}
use Rattle.poly.specs.Messages.{Vector}
use Rattle.points.specs.Series.{columns_of}
use Rattle.code.specs.Terms.{size}
use Rattle.code.specs.Word.{word_of}
use Rattle.code.specs.Answers.{Answer, answered}
use Rattle.code.specs.Recovered.{message, answer_of}
use Rattle.code.specs.Unencoded.{unencoded}
use Rattle.code.specs.Inner.Readable.{read_over}
use Rattle.code.proofs.Checks.{Accepted, good_symbol}
use Rattle.code.proofs.Inverse.{encoded_word, message_accepted, unencoded_read, encode_unencode}
use Rattle.code.proofs.Recoveries.{reading_of, answer_message}
use Rattle.mend.specs.Inner.Locating.{reach, Mendable, Locator, Erased}
use Rattle.mend.specs.Inner.Candidates.{OnlyNear}
use Rattle.mend.proofs.Locators.{never_two, near_read, read_vector}
use Rattle.mend.proofs.Menders.{codeword_near}

message_of : (u v : List ℕ) → message u ≡ message v → u ≡ v
message_of u v e = cc

module _ (q series m : ℕ) (word : List ℕ) (ok : Mendable q series m word) where
  -- ---- what recovery answers of the broken word

  module _ (f broken : List ℕ) (loc : Locator q series m word f) (er : Erased q series (reach q m) word f broken)
      (slice : List ℕ) (o : Outcome) (got : List ℕ) (answer : answer_of (reading_of q series m broken) slice ≡ answered o got) where
    -- a message
    pub recovered_only : o ≡ Done → OnlyNear q series m word got true
    recovered_only d =
        let read : reading_of q series m broken ≡ message got =
        (answer_message (reading_of q series m broken) slice got).0 (ap (λ (x : Answer). x.outcome) answer ∙ d, ap (λ (x : Answer). x.slice) answer) in (
          read_vector q series m word ok f broken loc er got read,
          λ v h. message_of v got (sym (near_read q series m word ok f broken loc er v h) ∙ read),
        )

    -- none
    pub recovered_none : eqb (number o) 0 ≡ false → OnlyNear q series m word got false
    recovered_none n v h =
        done_or_not o
        (ap (λ (x : Answer). x.outcome) (sym answer)
        ∙ ((answer_message (reading_of q series m broken) slice v).1 (near_read q series m word ok f broken loc er v h)).0) n

  -- ---- what unencoding answers of the word

  pub own_message : (slice got : List ℕ) → unencoded q series m word slice ≡ answered Done got
      → Vector (q * q) (size q m) got × (word_of q (columns_of q series) m got ≡ word)
  own_message slice got e =
      let low : m < q * q * q = omega (arith, ok.order) in
      let curve = short_curve q ok.curve in
      let (h, again) = encode_unencode q series m word slice got word e ok.long in (
        h,
        ap (λ (x : Answer). x.slice)
            (sym (encoded_word q series m curve ok.named low got word (message_accepted q series m curve ok.named low got word h ok.long)) ∙ again),
      )

  -- the word can be unencoded
  pub word_accepted : (slice : List ℕ) → length slice ≡ size q m → Accepted false (q * q) (q * q * q) word (size q m) (length slice)
  word_accepted slice l =
      record {
        long = ok.long;
        good = λ p b. good_symbol false (q * q) (get_or word p 0) (ok.symbols p (omega (arith, ok.long)));
        fits = l;
      }

  -- a codeword's message
  pub unencoded_only : (slice got : List ℕ) (o : Outcome) → length slice ≡ size q m
      → read_over q (columns_of q series) m word slice ≡ answered o got → o ≡ Done
      → OnlyNear q series m word got true
  unencoded_only slice got o l e d =
      let low : m < q * q * q = omega (arith, ok.order) in
      let (h, is) = own_message slice got
      (unencoded_read q series m (short_curve q ok.curve) ok.named low word slice (word_accepted slice l) ∙ e
      ∙ ap (λ (x : Outcome). answered x got) d) in
      (h, λ v near. never_two q series m word ok v got near (codeword_near q series m word ok got h is))
