-- WHAT THE REQUEST ASKS OF THE MENDER, of every call: what it writes is the codeword within t, and of codewords it changes nothing. That two never
-- are within t is `never_two` (Locators), that 11 is answered exactly when none is, `refuses_exactly` (Menders).
-- Assumes nothing.
use mathlib.Core.Bool.{Bool, true, false, not}
use mathlib.Core.List.Memᴰ.{head}
use mathlib.Core.List.Memᴰ.{not-nil}
use mathlib.Core.List.{List, [], ◌∷◌, Memᴰ as Mem}
use mathlib.Core.Logic.{⊎_elim}
use mathlib.Core.Path.{◌≡◌, refl, sym, ap, ◌∙◌, subst}
use Prim.Native.Nat.{ℕ, ◌*◌, ◌≤◌, ◌<◌}
use native.Mathlib.Omega.{arith}
use borrow.Author.Tests.{eq-eqb, ne_eqb}
use lib.Dec.{eqb}
use lib.ListN.{length, get_or, replicate, length-replicate, get_or-replicate}
use lib.Seq.{ext_get_or}
use Rattle.std.specs.Prelude.{Err}
use Rattle.field.specs.Outcomes.{Done, number}
use Rattle.field.specs.declared.outcome.Refusal.TheVariants.{NoneNear}
use Rattle.field.proofs.Outcomes.{done_or_refused, done_or_not}
use Rattle.field.proofs.Curves.{short_curve}
use Rattle.poly.specs.Lists.{one_if, count, below}
use Rattle.poly.proofs.Below.{of_mem_below}
use Rattle.poly.proofs.Lists.{count_cong}
use Rattle.points.specs.Series.{columns_of}
use Rattle.code.specs.Answers.{Answer, answered as answered_as}
use Rattle.code.specs.Unencoded.{unencoded}
use Rattle.code.specs.Word.{word_of}
use Rattle.code.proofs.Inverse.{unencode_encode}
use Rattle.mend.specs.Mended.{radius, differs_at, differing, marks_of, Mending, answered, written, mend_checks, mended}
use Rattle.mend.specs.Inner.Locating.{Near}
use Rattle.mend.proofs.Counts.{length_marks, mark_at_lem}
use Rattle.mend.proofs.Candidates.{own_message}
use Rattle.mend.proofs.Menders.{checks_passed, nearest, near_list, mended_refused, mended_near, mended_none, differing_zero, codeword_near, word_long}

-- ---- marks

is_one : (b : Bool) → eqb (one_if b) 1 ≡ b
is_one true = refl
is_one false = refl

-- the count is that of the ones in the marks
pub count_marks : (a b : List ℕ) → count (λ p. eqb (get_or (marks_of a b) p 0) 1) (below (length a)) ≡ differing a b
unfolding differing
count_marks a b =
    count_cong (λ p. eqb (get_or (marks_of a b) p 0) 1) (differs_at a b) (below (length a))
    (λ p k. ap (λ (x : ℕ). eqb x 1) (mark_at_lem a b p (of_mem_below (length a) p k)) ∙ is_one (differs_at a b p))

-- a mark is 1 where the words differ, and 0 where they agree
mark_differs : (a b : List ℕ) (p : ℕ) → p < length a → (get_or a p 0 ≡ get_or b p 0 → ⊥) → get_or (marks_of a b) p 0 ≡ 1
mark_differs a b p l d = mark_at_lem a b p l ∙ ap (λ (x : Bool). one_if (not x)) (ne_eqb (get_or a p 0) (get_or b p 0) d)

mark_agrees : (a b : List ℕ) (p : ℕ) → p < length a → get_or a p 0 ≡ get_or b p 0 → get_or (marks_of a b) p 0 ≡ 0
mark_agrees a b p l e = mark_at_lem a b p l ∙ ap (λ (x : Bool). one_if (not x)) (eq-eqb (get_or a p 0) (get_or b p 0) e)

marks_none : (a : List ℕ) → marks_of a a ≡ replicate (length a) 0
marks_none a =
    ext_get_or 0 (marks_of a a) (replicate (length a) 0) (length_marks a a ∙ sym (length-replicate (length a) 0))
    (λ p k.
    let here : p < length a = omega (arith, length_marks a a) in
    mark_agrees a a p here refl ∙ sym (get_or-replicate (length a) p 0 0 here))

-- ---- what is written

-- an answer that isn't a refusal
pub record Mends (q series m : ℕ) (word : List ℕ) (a : Mending) : Type 0 where
  -- "the codeword that differs in at most t places", by its message
  pub near : Near q series m word a.message
  pub codeword : a.codeword ≡ word_of q (columns_of q series) m a.message
  -- "n marks, 1 where a symbol was changed and 0 elsewhere"
  pub marks_long : length a.marks ≡ q * q * q
  pub changed : (p : ℕ) → p < q * q * q → (get_or word p 0 ≡ get_or a.codeword p 0 → ⊥) → get_or a.marks p 0 ≡ 1
  pub kept : (p : ℕ) → p < q * q * q → get_or word p 0 ≡ get_or a.codeword p 0 → get_or a.marks p 0 ≡ 0
  -- "the count of changes", which is at most t
  pub counted : a.count ≡ count (λ p. eqb (get_or a.marks p 0) 1) (below (q * q * q))
  pub within : a.count ≤ radius q m

module _ (q series m : ℕ) (word message codeword marks : List ℕ) where
  abbrev answer : Mending
  answer = mended q series m word message codeword marks

  abbrev word_from : List ℕ → List ℕ
  word_from = word_of q (columns_of q series) m

  written_mends : length word ≡ q * q * q → (v : List ℕ) → Near q series m word v → Mends q series m word (written word word_from v)
  written_mends long v h =
      record {
        near = h;
        codeword = refl;
        marks_long = length_marks word (word_from v) ∙ long;
        changed = λ p l d. mark_differs word (word_from v) p (omega (arith, long)) d;
        kept = λ p l e. mark_agrees word (word_from v) p (omega (arith, long)) e;
        counted = sym (count_marks word (word_from v)) ∙ ap (λ (n : ℕ). count (λ p. eqb (get_or (marks_of word (word_from v)) p 0) 1) (below n)) long;
        within = h.within;
      }

  passed : answer.outcome ≡ Done → mend_checks q series m word (length message) (length codeword) (length marks) ≡ Done
  passed o = ⊎_elim (λ d. d) (λ n. absurd (done_or_not _ (sym (ap
      (λ (a : Mending). a.outcome) (mended_refused q series m word message codeword marks n)) ∙ o) n))
      (done_or_refused (mend_checks q series m word (length message) (length codeword) (length marks)))

  -- WHAT IS ANSWERED WITHOUT A REFUSAL
  pub mends : answer.outcome ≡ Done → Mends q series m word answer
  mends o = go (nearest q series m word) refl
    where
      e : mend_checks q series m word (length message) (length codeword) (length marks) ≡ Done
      e = passed o

      go : (l : List (List ℕ)) → nearest q series m word ≡ l → Mends q series m word answer
      go [] is =
          let none = mended_none q series m word message codeword marks e (λ v h. not-nil (subst (Mem v) is ((near_list q series m word).whole v h))) in
          let z : Err NoneNear ≡ Done = sym (ap (λ (a : Mending). a.outcome) none) ∙ o in absurd (omega (arith, ap number z))
      go (v ∷ rest) is =
          let h : Near q series m word v = (near_list q series m word).sound v (rw is (head refl)) in
          subst (Mends q series m word) (sym (mended_near q series m word message codeword marks e v h))
          (written_mends (checks_passed q series m word _ _ _ e).mendable.long v h)

  -- ---- codewords

  -- a codeword passes, and nothing is changed
  pub codeword_passes : mend_checks q series m word (length message) (length codeword) (length marks) ≡ Done → (v : List ℕ)
      → unencoded q series m word message ≡ answered_as Done v → answer ≡ answered Done 0 v word (replicate (q * q * q) 0)
  codeword_passes e v u =
      let ok = (checks_passed q series m word _ _ _ e).mendable in
      let (h, is) = own_message q series m word ok message v u in
      mended_near q series m word message codeword marks e v (codeword_near q series m word ok v h is)
      ∙ ap (λ (x : List ℕ). answered Done (differing word x) v x (marks_of word x)) is
      ∙ ap (λ (n : ℕ). answered Done n v word (marks_of word word)) ((differing_zero word word refl).1 refl)
      ∙ ap (λ (x : List ℕ). answered Done 0 v word x) (marks_none word ∙ ap (λ (n : ℕ). replicate n 0) ok.long)

  -- "At t = 0 only codewords pass": what passes is unencoded to the same message
  pub only_codewords : radius q m ≡ 0 → answer.outcome ≡ Done → unencoded q series m word message ≡ answered_as Done answer.message
  only_codewords z o =
      let a = checks_passed q series m word _ _ _ (passed o) in
      let ok = a.mendable in
      let h = mends o in
      let is : word_from answer.message ≡ word =
      (differing_zero word (word_from answer.message) (word_long q series m word ok answer.message)).0 (omega (arith, h.near.within)) in
      let (first, second) = unencode_encode q series m (short_curve q ok.curve) ok.named (omega (arith, ok.order)) answer.message word message
      h.near.vector ok.long a.message_long in
      ap (λ (x : List ℕ). unencoded q series m x message) (sym (ap (λ (x : Answer). x.slice) first ∙ is)) ∙ second
