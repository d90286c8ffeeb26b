-- The loop that takes the vectors one after the other: what it starts from, a turn with no pivot, a turn with one, and how it ends.
-- Assumes nothing.
use mathlib.Core.Path.{◌≡◌, sym, ap, ap₂, ◌∙◌, subst}
use mathlib.Core.Bool.{Bool}
use mathlib.Core.List.{List}
use Prim.Native.Nat.{ℕ, suc, ◌+◌, ◌-◌, ◌*◌, ◌^◌, ◌≤◌, ◌<◌}
use native.Mathlib.Nat.{one-mul, mul-one, mul_assoc, mul-zero, zero-add, pow-zero, pow-suc, one-le-pow}
use native.Mathlib.Omega.{arith}
use lib.Dec.{T}
use Rattle.field.specs.Field.{Field}
use Rattle.poly.specs.Messages.{Vector, all}
use Rattle.poly.specs.Inner.Linear.{entry}
use Rattle.linear.specs.Inner.Combinations.{Family, rows_from, combined, ZeroOn, zero_on, solutions, Symbols, Skipped, clear, Cleared, Eliminated}
use Rattle.poly.proofs.Bools.{same_test}
use Rattle.poly.proofs.Lists.{one_of_count, count_cong}
use Rattle.poly.proofs.Messages.{of_mem_all}
use Rattle.linear.proofs.Combinations.{of_zero_on, to_zero_on, combined_none, combined_local, skipped_symbols, solutions_free}
use Rattle.linear.proofs.Combinations.{cleared_symbols, pivot_same, solutions_pivot, solutions_one, solutions_none}

module _ (F : Field) (H : ℕ → Bool) (n e : ℕ) (S : Family) where
  pub eliminated_none : Symbols F n e S → Eliminated F H n e S 0 0 S
  eliminated_none s =
      let d : e - 0 ≡ e = omega arith in
      let z : 0 - 0 ≡ 0 = omega arith in
      record {
        within = omega arith;
        pivots = omega arith;
        symbols = rw d s;
        counted = rw (d, z) (sym (ap (λ (x : ℕ). x * solutions F H n e S) (pow-zero F.size) ∙ one-mul (solutions F H n e S)));
        same = λ h u v i l. rw d (combined_local F e S u (λ p. u (0 + p)) i (λ p b. ap u (sym (zero-add p))));
      }

  module _ (t r : ℕ) (S' S'' : Family) (h : Eliminated F H n e S t r S') (more : t < e) where
    split : e - t ≡ suc (e - (t + 1))
    split = omega arith

    symbols : Symbols F n (suc (e - (t + 1))) S'
    symbols = subst (λ (k : ℕ). Symbols F n k S') split h.symbols

    counted : solutions F H n e S ≡ F.size ^ (t - r) * solutions F H n (suc (e - (t + 1))) S'
    counted = h.counted ∙ ap (λ (k : ℕ). F.size ^ (t - r) * solutions F H n k S') split

    -- the next vector is 0 where it counts, so its number is free
    pub eliminated_free : ZeroOn H n (S'.vector 0) → Skipped n (e - (t + 1)) S' S'' → Eliminated F H n e S (t + 1) r S''
    eliminated_free zero next =
        let d : t + 1 - r ≡ suc (t - r) = omega (arith, h.pivots) in
        record {
          within = omega arith;
          pivots = omega (arith, h.pivots);
          symbols = skipped_symbols F H n (e - (t + 1)) S' S'' next symbols;
          counted = counted ∙ ap (λ (x : ℕ). F.size ^ (t - r) * x) (solutions_free F H n (e - (t + 1)) S' S'' next zero)
              ∙ sym (mul_assoc (F.size ^ (t - r)) F.size _)
              ∙ ap (λ (x : ℕ). x * solutions F H n (e - (t + 1)) S'') (sym (pow-suc F.size (t - r)) ∙ ap (λ (k : ℕ). F.size ^ k) (sym d));
          same = λ q u v i l. absurd (omega (arith, h.pivots));
        }

    -- the next vector is the pivot for an entry s that counts
    pub eliminated_pivot : (s : ℕ) → s < n → T (H s) → (S'.vector 0 s ≡ 0 → ⊥) → Cleared F n (e - (t + 1)) s S' S''
        → Eliminated F H n e S (t + 1) (r + 1) S''
    eliminated_pivot s l c d next =
        let k : t + 1 - (r + 1) ≡ t - r = omega (arith, h.pivots) in
        record {
          within = omega arith;
          pivots = omega (arith, h.pivots);
          symbols = cleared_symbols F n (e - (t + 1)) s S' S'' symbols l d next;
          counted = rw k (counted ∙ ap (λ (x : ℕ). F.size ^ (t - r) * x) (solutions_pivot F n (e - (t + 1)) s S' S'' symbols l d next H c));
          same = λ q u v i b.
              let before : (i : ℕ) → i < n → combined F e S u i ≡ combined F (suc (e - (t + 1))) S' (λ p. u (t + p)) i
              = λ i b. h.same (omega arith) u v i b ∙ ap (λ (k : ℕ). combined F k S' (λ p. u (t + p)) i) split in
              before i b ∙ pivot_same F n (e - (t + 1)) s S' S'' symbols l d next (λ p. u (t + p)) (sym (before s l) ∙ v.at s l c) i b
              ∙ combined_local F (e - (t + 1)) S'' (λ p. u (t + suc p)) (λ p. u (t + 1 + p)) i
              (λ p m. let a : t + suc p ≡ t + 1 + p = omega arith in ap u a);
        }

  -- ---- no vector is left

  module _ (t r : ℕ) (S' : Family) (h : Eliminated F H n e S t r S') (done : e ≤ t) where
    none_left : e - t ≡ 0
    none_left = omega arith

    ended : solutions F H n e S ≡ F.size ^ (e - r) * solutions F H n 0 S'
    ended =
        let d : t ≡ e = omega (arith, h.within) in
        h.counted ∙ ap₂ (λ (a b : ℕ). F.size ^ (a - r) * solutions F H n b S') d none_left

    -- THE NUMBER OF SOLUTIONS
    pub solutions_all : ZeroOn H n S'.added → solutions F H n e S ≡ F.size ^ (e - r)
    solutions_all z = ended ∙ ap (λ (x : ℕ). F.size ^ (e - r) * x) (solutions_one F H n S' z) ∙ mul-one (F.size ^ (e - r))

    pub solutions_no : (ZeroOn H n S'.added → ⊥) → solutions F H n e S ≡ 0
    solutions_no d = ended ∙ ap (λ (x : ℕ). F.size ^ (e - r) * x) (solutions_none F H n S' d) ∙ mul-zero (F.size ^ (e - r))

    -- where every vector was a pivot, every solution gives the same combination: what is left
    pub combined_left : r ≡ e → (u : ℕ → ℕ) → ZeroOn H n (combined F e S u) → (i : ℕ) → i < n → combined F e S u i ≡ S'.added i
    combined_left q u z i l =
        h.same (omega (arith, h.within)) u z i l ∙ ap (λ (k : ℕ). combined F k S' (λ p. u (t + p)) i) none_left
        ∙ combined_none F S' (λ p. u (t + p)) i

    -- a solution
    pub solution : ZeroOn H n S'.added → (u : List ℕ) × Vector F.size e u × ZeroOn H n (combined F e S (entry u))
    unfolding solutions
    solution z =
        let some : 0 < solutions F H n e S = omega (arith, solutions_all z, one-le-pow (e - r) F.size (omega (arith, F.two_le))) in
        let w = one_of_count (λ u. zero_on H n (combined F e S (entry u))) (all F.size e) some in
        (w.0, of_mem_all F.size e w.0 w.1, of_zero_on H n (combined F e S (entry w.0)) w.2)

-- ---- another test of the entries that comes to the same

module _ (F : Field) (H K : ℕ → Bool) (n : ℕ) (same : (i : ℕ) → i < n → H i ≡ K i) where
  zero_on_test : (f : ℕ → ℕ) → zero_on H n f ≡ zero_on K n f
  zero_on_test f =
      same_test (zero_on H n f) (zero_on K n f)
      (λ t. to_zero_on K n f (record { at = λ i l k. (of_zero_on H n f t).at i l (rw (same i l) k) }))
      (λ t. to_zero_on H n f (record { at = λ i l k. (of_zero_on K n f t).at i l (rw (same i l) at k) }))

  solutions_test : (e : ℕ) (S : Family) → solutions F H n e S ≡ solutions F K n e S
  unfolding solutions
  solutions_test e S =
      count_cong (λ u. zero_on H n (combined F e S (entry u))) (λ u. zero_on K n (combined F e S (entry u))) (all F.size e)
      (λ u m. zero_on_test (combined F e S (entry u)))

  pub eliminated_test : (e : ℕ) (S : Family) (t r : ℕ) (S' : Family) → Eliminated F H n e S t r S' → Eliminated F K n e S t r S'
  eliminated_test e S t r S' h =
      record {
        within = h.within;
        pivots = h.pivots;
        symbols = h.symbols;
        counted = sym (solutions_test e S) ∙ h.counted ∙ ap (λ (x : ℕ). F.size ^ (t - r) * x) (solutions_test (e - t) S');
        same = λ q u z. h.same q u (record { at = λ i l k. z.at i l (rw (same i l) at k) });
      }

-- ---- the vectors stand in rows, from row t on, and the one that is added in a list of its own

module _ (stride n t e : ℕ) (work grid : List ℕ) where
  -- with row t as the pivot for entry s, every later row is cleared
  pub cleared_rows : (F : Field) (s : ℕ) (after grid' : List ℕ) → t < e
      → ((p i : ℕ) → t < p → p < e → i < n
      → entry after (stride * p + i) ≡ clear F s (λ i. entry work (stride * t + i)) (λ i. entry work (stride * p + i)) i)
      → ((i : ℕ) → i < n → entry grid' i ≡ clear F s (λ i. entry work (stride * t + i)) (entry grid) i)
      → Cleared F n (e - (t + 1)) s (rows_from stride t work grid) (rows_from stride (t + 1) after grid')
  cleared_rows F s after grid' more h g =
      let first : t + 0 ≡ t = omega arith in
      record {
        vectors = λ p i a b.
            let r : t + 1 + p ≡ t + suc p = omega arith in
            rw (first, r) (h (t + suc p) i (omega arith) (omega arith) b);
        added = λ i b. rw first (g i b);
      }
