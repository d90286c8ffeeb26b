-- Two words place by place: how many places below n differ, and the marks as a loop writes them.
-- Assumes nothing.
use mathlib.Core.Bool.{Bool, not}
use mathlib.Core.List.{List}
use mathlib.Core.Path.{◌≡◌, refl, sym, ap, ◌∙◌}
use Prim.Native.Nat.{ℕ, ◌+◌, ◌≤◌, ◌<◌}
use native.Mathlib.Nat.{le_antisymm}
use native.Mathlib.Numerals.{add-one}
use native.Mathlib.Omega.{arith}
use borrow.Author.Tests.{eq-eqb, ne_eqb}
use lib.ListN.{length, get_or}
use lib.Seq.{ext_get_or}
use Rattle.poly.specs.Lists.{one_if, count, below}
use Rattle.poly.specs.Inner.Ranges.{writes}
use Rattle.poly.proofs.Writes.{length_writes, writes_in, writes_end}
use Rattle.mend.specs.Mended.{differs_at, differing, marks_of}
use Rattle.mend.proofs.Counts.{length_marks, mark_at_lem}

module _ (a b : List ℕ) where
  -- ---- their number

  abbrev pub differing_below : ℕ → ℕ
  differing_below n = count (differs_at a b) (below n)

  pub differing_none : differing_below 0 ≡ 0
  unfolding count below
  differing_none = refl

  pub differing_more : (n : ℕ) → (get_or a n 0 ≡ get_or b n 0 → ⊥) → differing_below (n + 1) ≡ differing_below n + 1
  unfolding count below
  differing_more n d = rw (add-one n, ne_eqb (get_or a n 0) (get_or b n 0) d) (omega arith)

  pub differing_same : (n : ℕ) → get_or a n 0 ≡ get_or b n 0 → differing_below (n + 1) ≡ differing_below n
  unfolding count below
  differing_same n e = rw (add-one n, eq-eqb (get_or a n 0) (get_or b n 0) e) (omega arith)

  pub differing_all : (n : ℕ) → n ≤ length a → length a ≤ n → differing_below n ≡ differing a b
  unfolding differing
  differing_all n l h = ap differing_below (le_antisymm l h)

  -- ---- the marks

  abbrev pub mark_at : ℕ → ℕ
  mark_at p = one_if (differs_at a b p)

  pub mark_same : (p : ℕ) → get_or a p 0 ≡ get_or b p 0 → 0 ≡ mark_at p
  mark_same p e = sym (ap (λ (t : Bool). one_if (not t)) (eq-eqb (get_or a p 0) (get_or b p 0) e))

  pub mark_differs : (p : ℕ) → (get_or a p 0 ≡ get_or b p 0 → ⊥) → 1 ≡ mark_at p
  mark_differs p d = sym (ap (λ (t : Bool). one_if (not t)) (ne_eqb (get_or a p 0) (get_or b p 0) d))

  pub marks_written : (marks : List ℕ) → length marks ≡ length a → writes marks (length a) mark_at ≡ marks_of a b
  marks_written marks l =
      ext_get_or 0 (writes marks (length a) mark_at) (marks_of a b)
      (length_writes marks mark_at (length a) ∙ l ∙ sym (length_marks a b))
      (λ p k.
      let here : p < length a = omega (arith, length_writes marks mark_at (length a)) in
      writes_in marks mark_at (length a) p here (omega arith) ∙ sym (mark_at_lem a b p here))

  -- where the loop ends
  pub marks_end : (marks₀ marks : List ℕ) (p : ℕ) → length marks₀ ≡ length a → marks ≡ writes marks₀ p mark_at → p ≤ length a → length a ≤ p
      → marks ≡ marks_of a b
  marks_end marks₀ marks p long e l h = writes_end marks₀ mark_at marks p (length a) e l h ∙ marks_written marks₀ long
