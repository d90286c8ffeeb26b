-- What the mender answers, in the request's words.
-- Assumes nothing.
use mathlib.Core.Bool.{Bool, false, not}
use mathlib.Core.List.Memᴰ.{head}
use mathlib.Core.List.Memᴰ.{not-nil}
use mathlib.Core.List.Memᴰ.{tail}
use mathlib.Core.List.{List, [], ◌∷◌}
use mathlib.Core.Logic.{◌↔◌, ◌⊎◌, inl, inr}
use mathlib.Core.Path.{◌≡◌, refl, sym, ap, ◌∙◌}
use Prim.Native.Nat.{ℕ, ◌-◌, ◌*◌}
use native.Mathlib.Omega.{arith}
use borrow.Author.Tests.{eqb-true, not-false, ltb-false}
use lib.Dec.{eqb, leb, ltb, leb→le, le→leb, T_not, not_T}
use lib.ListN.{length, get_or}
use lib.Seq.{ext_get_or}
use Rattle.field.specs.Curve.{is_short}
use Rattle.std.specs.Prelude.{Err}
use Rattle.field.specs.Outcomes.{Outcome, Done, number, refuse}
use Rattle.field.specs.declared.outcome.Refusal.TheVariants.{BadRoom, NoneNear, NoRadius}
use Rattle.field.proofs.Outcomes.{passed, Follows, done_or_not}
use Rattle.field.proofs.Curves.{short_curve, short_of_true}
use Rattle.poly.specs.Lists.{below}
use Rattle.poly.specs.Messages.{Vector, all}
use Rattle.poly.specs.Sets.{ListOf}
use Rattle.poly.proofs.Below.{count_not, length_below, mem_below}
use Rattle.poly.proofs.Lists.{count_none, every_of_count}
use Rattle.poly.proofs.Filter.{mem_filter, of_mem_filter, nodup_filter}
use Rattle.poly.proofs.Messages.{mem_all, of_mem_all, nodup_all}
use Rattle.points.specs.Series.{columns_of}
use Rattle.code.specs.Terms.{size}
use Rattle.code.specs.Word.{word_of}
use Rattle.code.proofs.Checks.{order_rest, slices_done, slices_follow, symbol_of_good}
use Rattle.code.proofs.FullColumns.{full_points}
use Rattle.code.proofs.Readings.{none_listed}
use Rattle.code.proofs.Word.{length_word}
use Rattle.mend.specs.Mended.{radius, differs_at, differing, near, Mending, answered, written, the_near, mend_checks, mended}
use Rattle.mend.specs.Inner.Locating.{genus, Mendable, Near}
use Rattle.mend.proofs.Counts.{to_eqb, of_not_differs}
use Rattle.mend.proofs.Locators.{never_two}

-- ---- the checks

follows_done : (row : Outcome → Outcome) (rest : Outcome) → Follows row → row rest ≡ Done → (row Done ≡ Done) × (rest ≡ Done)
follows_done row rest f e = go (f (row Done) rest refl)
  where
    go : ((row Done ≡ Done) × (row rest ≡ rest)) ⊎ ((eqb (number (row Done)) 0 ≡ false) × (row rest ≡ row Done)) → (row Done ≡ Done) × (rest ≡ Done)
    go (inl a) = (a.0, sym a.1 ∙ e)
    go (inr a) = absurd (done_or_not (row Done) (sym a.1 ∙ e) a.0)

-- what it says that a call passes all checks but the last
pub record Passed (q series m : ℕ) (word : List ℕ) (message codeword marks : ℕ) : Type 0 where
  pub mendable : Mendable q series m word
  pub message_long : message ≡ size q m
  pub codeword_long : codeword ≡ q * q * q
  pub marks_long : marks ≡ q * q * q

pub checks_passed : (q series m : ℕ) (word : List ℕ) (message codeword marks : ℕ) → mend_checks q series m word message codeword marks ≡ Done
    → Passed q series m word message codeword marks
unfolding mend_checks
checks_passed q series m word message codeword marks e =
    let n = q * q * q in
    let last = refuse (not (eqb marks n)) BadRoom Done in
    let rooms = refuse (not (eqb codeword n)) BadRoom last in
    let (taken, low, e1, named) = order_rest (is_short q) q series m _ e in
    let (far, e2) = passed (ltb (n - m - 1) (genus q)) _ NoRadius e1 in
    let (e3, e4) = follows_done _ rooms (slices_follow false (q * q) n word (size q m) message) e2 in
    let (w, e5) = passed (not (eqb codeword n)) last BadRoom e4 in
    let (k, e6) = passed (not (eqb marks n)) Done BadRoom e5 in
    let a = slices_done false (q * q) n word (size q m) message e3 in
    record {
      mendable = record {
        curve = short_of_true q taken;
        named = named;
        order = omega (arith, ltb-false (n - m - 1) (genus q) far);
        long = a.long;
        symbols = λ p l. symbol_of_good (q * q) (get_or word p 0) (a.good p (omega (arith, a.long)));
      };
      message_long = a.fits;
      codeword_long = eqb-true codeword n (not-false (eqb codeword n) w);
      marks_long = eqb-true marks n (not-false (eqb marks n) k);
    }

-- ---- the near messages

module _ (q series m : ℕ) (word : List ℕ) where
  abbrev word_from : List ℕ → List ℕ
  word_from = word_of q (columns_of q series) m

  abbrev pub nearest : List (List ℕ)
  nearest = near (q * q) (size q m) word_from (radius q m) word

  -- the list has them all, each once
  pub near_list : ListOf (Near q series m word) nearest
  unfolding near
  near_list =
      record {
        distinct = nodup_filter test (all (q * q) (size q m)) (nodup_all (q * q) (size q m));
        sound = λ v k. let w = of_mem_filter test v (all (q * q) (size q m)) k in
            record { vector = of_mem_all (q * q) (size q m) v w.0; within = leb→le (differing word (word_from v)) (radius q m) w.1 };
        whole = λ v h. mem_filter test v (all (q * q) (size q m)) (mem_all (q * q) (size q m) v h.vector) (le→leb (differing word
            (word_from v)) (radius q m) h.within);
      }
    where
      test : List ℕ → Bool
      test v = leb (differing word (word_from v)) (radius q m)

  -- "(never two)"
  pub near_one : Mendable q series m word → (v : List ℕ) → Near q series m word v → nearest ≡ v ∷ []
  near_one ok v h = go nearest near_list
    where
      go : (l : List (List ℕ)) → ListOf (Near q series m word) l → l ≡ v ∷ []
      go [] k = absurd (not-nil (k.whole v h))
      go (u ∷ []) k = ap (λ (x : List ℕ). x ∷ []) (never_two q series m word ok u v (k.sound u (head refl)) h)
      go (u ∷ w ∷ l) k = absurd (k.distinct.0 (head (never_two q series m word ok u w (k.sound u (head refl)) (k.sound w (tail (head refl))))))

  pub near_nothing : ((v : List ℕ) → Near q series m word v → ⊥) → nearest ≡ []
  near_nothing none = none_listed (Near q series m word) nearest near_list none

  -- ---- what the mender answers

  module _ (message codeword marks : List ℕ) where
    abbrev checked : Outcome
    checked = mend_checks q series m word (length message) (length codeword) (length marks)

    -- a refusal of the checks is the answer, and the slices are as they were
    pub mended_refused : eqb (number checked) 0 ≡ false → mended q series m word message codeword marks ≡ answered checked 0 message codeword marks
    unfolding mended
    mended_refused e = rw e

    past : checked ≡ Done → mended q series m word message codeword marks ≡ the_near word word_from (answered (Err NoneNear) 0 message codeword marks) nearest
    unfolding mended
    past e = rw e

    module _ (e : checked ≡ Done) where
      -- it writes the message that is near
      pub mended_near : (v : List ℕ) → Near q series m word v → mended q series m word message codeword marks ≡ written word word_from v
      unfolding the_near
      mended_near v h =
          past e
          ∙ ap (the_near word word_from (answered (Err NoneNear) 0 message codeword marks)) (near_one (checks_passed q series m word _ _ _ e).mendable v h)

      pub mended_none : ((v : List ℕ) → Near q series m word v → ⊥)
          → mended q series m word message codeword marks ≡ answered (Err NoneNear) 0 message codeword marks
      unfolding the_near
      mended_none none = past e ∙ ap (the_near word word_from (answered (Err NoneNear) 0 message codeword marks)) (near_nothing none)

      -- "It refuses exactly when no codeword lies within t."
      pub refuses_exactly : ((mended q series m word message codeword marks).outcome ≡ Err NoneNear) ↔ ((v : List ℕ) → Near q series m word v → ⊥)
      refuses_exactly = (
        λ o v h. let z : Done ≡ Err NoneNear = sym (ap (λ (a : Mending). a.outcome) (mended_near v h)) ∙ o in omega (arith, ap number z),
        λ none. ap (λ (a : Mending). a.outcome) (mended_none none),
      )

-- ---- codewords

-- a word that differs nowhere is the same
pub differing_zero : (a b : List ℕ) → length b ≡ length a → (differing a b ≡ 0) ↔ (b ≡ a)
unfolding differing
differing_zero a b l = (
  λ z. ext_get_or 0 b a l (λ p k. sym (of_not_differs (get_or a p 0) (get_or b p 0)
      (every_of_count (λ p. not (differs_at a b p)) (below (length a)) (omega (
        arith,
        count_not (differs_at a b) (length a),
        length_below
            (length a),
      )) p (mem_below (length a) p (omega arith))))),
  λ e. count_none (differs_at a b) (below (length a)) (λ p k. not_T (differs_at a b p)
      (λ t. T_not (eqb (get_or a p 0) (get_or b p 0)) t (to_eqb (get_or a p 0) (get_or b p 0) (ap (λ (x : List ℕ). get_or x p 0) (sym e))))),
)

module _ (q series m : ℕ) (word : List ℕ) (ok : Mendable q series m word) where
  pub word_long : (v : List ℕ) → length (word_of q (columns_of q series) m v) ≡ length word
  word_long v = length_word q (columns_of q series) m v ∙ full_points q series (short_curve q ok.curve) ∙ sym ok.long

  -- a codeword is near
  pub codeword_near : (v : List ℕ) → Vector (q * q) (size q m) v → word_of q (columns_of q series) m v ≡ word → Near q series m word v
  codeword_near v h e =
      record { vector = h; within = omega (arith, (differing_zero word (word_of q (columns_of q series) m v) (word_long v)).1 e) }
