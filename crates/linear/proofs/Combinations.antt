-- How many combinations of vectors are 0 at every entry that counts. A first vector that is 0 there gives size times as many as the rest; any other
-- gives as many as the rest after it was the pivot for an entry where it isn't 0; no vector gives one or none.
-- Assumes nothing.
use mathlib.Core.Path.{◌≡◌, sym, ap, ap₂, ◌∙◌}
use mathlib.Core.Bool.{Bool, not, ◌||◌}
use mathlib.Core.List.{List, [], ◌∷◌}
use Prim.Native.Nat.{ℕ, suc, ◌*◌, ◌<◌}
use native.Mathlib.Nat.{mul_comm, mul-one}
use native.Mathlib.Decide.{dec_lt}
use native.Mathlib.Omega.{arith}
use lib.Dec.{T, eqb, eqb→eq, eqb_refl, T_not, not_T}
use Rattle.field.specs.Plus.{plus}
use Rattle.field.specs.Field.{Field}
use Rattle.field.specs.Sum.{sum}
use Rattle.field.proofs.Plus.{plus_assoc, plus_comm, plus_self, plus_zero, plus_exchange, eq_of_plus_zero}
use Rattle.field.proofs.FieldLaws.{times_zero, plus_times, times_left_comm, times_one_right, inverse_times, times_cancel}
use Rattle.field.proofs.Search.{of_every, to_every}
use Rattle.field.proofs.Sums.{sum_first, sum_cong, sum_zeros, sum_scale_right}
use Rattle.poly.specs.Lists.{one_if, count, below}
use Rattle.poly.specs.Messages.{all}
use Rattle.poly.specs.Inner.Linear.{entry, dot}
use Rattle.poly.specs.Inner.Polynomials.{value}
use Rattle.linear.specs.Inner.Combinations.{Family, combined, ZeroOn, zero_on, solutions, Symbols, Padded, Skipped, Cleared}
use Rattle.poly.proofs.Bools.{implies, implied, same_test}
use Rattle.poly.proofs.Lists.{count_map, count_flat_map, count_every, count_none, count_one, count_cong, one_if_true, one_if_false}
use Rattle.poly.proofs.Below.{length_below, mem_below, of_mem_below, nodup_below}
use Rattle.poly.proofs.Linear.{dot_none, dot_lt, dot_cong, dot_local, dot_plus_vector}
use Rattle.poly.proofs.Values.{value_plus, value_scale, value_sum}
use Rattle.poly.proofs.Counting.{count_fronts}

-- ---- the test

module _ (H : ℕ → Bool) (n : ℕ) (f : ℕ → ℕ) where
  abbrev test : ℕ → Bool
  test i = not (H i) || eqb (f i) 0

  pub of_zero_on : T (zero_on H n f) → ZeroOn H n f
  unfolding zero_on
  of_zero_on t = record { at = λ i l h. eqb→eq (f i) 0 (implied (H i) (eqb (f i) 0) (of_every n test t i l) h) }

  pub to_zero_on : ZeroOn H n f → T (zero_on H n f)
  unfolding zero_on
  to_zero_on z = to_every n test (λ i l. implies (H i) (eqb (f i) 0) (λ h. rw (z.at i l h) (eqb_refl 0)))

-- what is the same at every entry is 0 at the same ones
pub zero_same : (H : ℕ → Bool) (n : ℕ) (f g : ℕ → ℕ) → ((i : ℕ) → i < n → f i ≡ g i) → ZeroOn H n f → ZeroOn H n g
zero_same H n f g e z = record { at = λ i l h. sym (e i l) ∙ z.at i l h }

-- the family without its first vector
abbrev pub rest : Family → Family
rest S = record { vector = λ p. S.vector (suc p); added = S.added }

module _ (F : Field) where
  pub combined_none : (S : Family) (u : ℕ → ℕ) (i : ℕ) → combined F 0 S u i ≡ S.added i
  unfolding combined
  combined_none S u i = ap (plus (S.added i)) (dot_none F u (λ p. S.vector p i)) ∙ plus_zero (S.added i)

  -- the first vector, and the others
  pub combined_first : (e : ℕ) (S : Family) (u : ℕ → ℕ) (i : ℕ)
      → combined F (suc e) S u i ≡ plus (combined F e (rest S) (λ p. u (suc p)) i) (F.times (u 0) (S.vector 0 i))
  unfolding combined dot
  combined_first e S u i =
      let split = sum_first e (λ p. F.times (u p) (S.vector p i)) in
      ap (plus (S.added i)) (split ∙ plus_comm (F.times (u 0) (S.vector 0 i)) _) ∙ sym (plus_assoc (S.added i) _ _)

  -- only the entries i of the e vectors count, and only the e numbers of u
  pub combined_cong : (e : ℕ) (S R : Family) (u : ℕ → ℕ) (i : ℕ) → ((p : ℕ) → p < e → S.vector p i ≡ R.vector p i) → S.added i ≡ R.added i
      → combined F e S u i ≡ combined F e R u i
  unfolding combined
  combined_cong e S R u i h a = ap₂ plus a (dot_local F e u (λ p. S.vector p i) (λ p. R.vector p i) h)

  pub combined_local : (e : ℕ) (S : Family) (u w : ℕ → ℕ) (i : ℕ) → ((p : ℕ) → p < e → u p ≡ w p) → combined F e S u i ≡ combined F e S w i
  unfolding combined
  combined_local e S u w i h = ap (plus (S.added i)) (dot_cong F e u w (λ p. S.vector p i) h)

  pub combined_lt : (n e : ℕ) (S : Family) (u : ℕ → ℕ) (i : ℕ) → Symbols F n e S → i < n → combined F e S u i < F.size
  unfolding combined
  combined_lt n e S u i s l = F.plus_lt (S.added i) _ (s.added i l) (dot_lt F e u (λ p. S.vector p i))

  -- ---- entries that are 0 in every vector

  pub combined_zero : (e : ℕ) (S : Family) (u : ℕ → ℕ) (i : ℕ) → ((p : ℕ) → p < e → S.vector p i ≡ 0) → S.added i ≡ 0 → combined F e S u i ≡ 0
  unfolding combined dot
  combined_zero e S u i h a =
      ap₂ plus a (sum_zeros e (λ p. F.times (u p) (S.vector p i)) (λ p l. ap (F.times (u p)) (h p l) ∙ times_zero F (u p))) ∙ plus_self 0

  module _ (H : ℕ → Bool) (n room e : ℕ) (S : Family) (pad : Padded n room e S) where
    pub zero_wider : (u : ℕ → ℕ) → ZeroOn H n (combined F e S u) → ZeroOn H room (combined F e S u)
    zero_wider u z =
        record {
          at = λ i l h. elim (dec_lt i n) [
            | yes k ↦ z.at i k h
            | no d ↦ combined_zero e S u i (λ p b. pad.vectors p i b (omega arith) l) (pad.added i (omega arith) l)
          ];
        }

    pub zero_narrower : (f : ℕ → ℕ) → ZeroOn H room f → ZeroOn H n f
    zero_narrower f z = record { at = λ i l. z.at i (omega (arith, pad.within)) }

    pub solutions_wider : solutions F H room e S ≡ solutions F H n e S
    unfolding solutions
    solutions_wider =
        count_cong (λ u. zero_on H room (combined F e S (entry u))) (λ u. zero_on H n (combined F e S (entry u))) (all F.size e)
        (λ u m.
        let f = combined F e S (entry u) in
        same_test (zero_on H room f) (zero_on H n f) (λ t. to_zero_on H n f (zero_narrower f (of_zero_on H room f t)))
        (λ t. to_zero_on H room f (zero_wider (entry u) (of_zero_on H n f t))))

  -- a polynomial whose coefficients are a combination takes the combination of the values
  pub value_combined : (n e : ℕ) (S : Family) (u : ℕ → ℕ) (x : ℕ)
      → value F n (combined F e S u) x ≡ plus (value F n S.added x) (dot F e u (λ p. value F n (S.vector p) x))
  unfolding combined dot
  value_combined n e S u x =
      value_plus F n S.added (λ i. sum e (λ p. F.times (u p) (S.vector p i))) x
      ∙ ap (plus (value F n S.added x))
      (value_sum F n e (λ p i. F.times (u p) (S.vector p i)) x
      ∙ sum_cong e _ (λ p. F.times (u p) (value F n (S.vector p) x)) (λ p l. value_scale F n (u p) (S.vector p) x))

  -- ---- the first vector is 0 where it counts

  module _ (H : ℕ → Bool) (n e : ℕ) (S S' : Family) (next : Skipped n e S S') where
    skipped_combined : (u : ℕ → ℕ) (i : ℕ) → i < n → combined F e S' u i ≡ combined F e (rest S) u i
    skipped_combined u i l = combined_cong e S' (rest S) u i (λ p b. next.vectors p i b l) (next.added i l)

    pub skipped_symbols : Symbols F n (suc e) S → Symbols F n e S'
    skipped_symbols s =
        record {
          vectors = λ p i a b. rw (next.vectors p i a b) (s.vectors (suc p) i (omega arith) b);
          added = λ i b. rw (next.added i b) (s.added i b);
        }

    module _ (free : ZeroOn H n (S.vector 0)) where
      at_free : (u : ℕ → ℕ) (i : ℕ) → i < n → T (H i) → combined F (suc e) S u i ≡ combined F e S' (λ p. u (suc p)) i
      at_free u i l h =
          combined_first e S u i ∙ ap (plus (combined F e (rest S) (λ p. u (suc p)) i)) (ap (F.times (u 0)) (free.at i l h) ∙ times_zero F (u 0))
          ∙ plus_zero _ ∙ sym (skipped_combined (λ p. u (suc p)) i l)

      to_free : (u : ℕ → ℕ) → ZeroOn H n (combined F e S' (λ p. u (suc p))) → ZeroOn H n (combined F (suc e) S u)
      to_free u z = record { at = λ i l h. at_free u i l h ∙ z.at i l h }

      of_free : (u : ℕ → ℕ) → ZeroOn H n (combined F (suc e) S u) → ZeroOn H n (combined F e S' (λ p. u (suc p)))
      of_free u z = record { at = λ i l h. sym (at_free u i l h) ∙ z.at i l h }

      pub solutions_free : solutions F H n (suc e) S ≡ F.size * solutions F H n e S'
      unfolding solutions
      solutions_free =
          count_fronts F.size e passes
          ∙ count_flat_map passes passes' F.size _ (all F.size e)
          (λ u m t. count_map passes (λ x. x ∷ u) (below F.size) ∙ count_every (λ x. passes (x ∷ u)) (below F.size)
          (λ x k. to_zero_on H n _ (to_free (entry (x ∷ u)) (of_zero_on H n (combined F e S' (entry u)) t))) ∙ length_below F.size)
          (λ u m t. count_map passes (λ x. x ∷ u) (below F.size) ∙ count_none (λ x. passes (x ∷ u)) (below F.size)
          (λ x k. not_T (passes (x ∷ u)) (λ s. T_not (passes' u) t (to_zero_on H n _ (of_free (entry (x ∷ u)) (of_zero_on H n _ s))))))
          ∙ mul_comm (count passes' (all F.size e)) F.size
        where
          passes : List ℕ → Bool
          passes u = zero_on H n (combined F (suc e) S (entry u))

          passes' : List ℕ → Bool
          passes' u = zero_on H n (combined F e S' (entry u))

  -- ---- the first vector is the pivot for entry s

  module _ (n e s : ℕ) (S S' : Family) (symbols : Symbols F n (suc e) S) (at_s : s < n) (pivot : S.vector 0 s ≡ 0 → ⊥)
      (next : Cleared F n e s S S') where
    abbrev v : ℕ → ℕ
    v = S.vector 0

    -- the pivot, divided by its entry s
    abbrev multiple : ℕ → ℕ
    multiple i = F.times (F.inverse (v s)) (v i)

    v_lt : (i : ℕ) → i < n → v i < F.size
    v_lt i l = symbols.vectors 0 i (omega arith) l

    pub cleared_symbols : Symbols F n e S'
    cleared_symbols =
        record {
          vectors = λ p i a b. rw (next.vectors p i a b) (F.plus_lt _ _ (symbols.vectors (suc p) i (omega arith) b) (F.times_lt _ _));
          added = λ i b. rw (next.added i b) (F.plus_lt _ _ (symbols.added i b) (F.times_lt _ _));
        }

    others_lt : (u : ℕ → ℕ) (i : ℕ) → i < n → combined F e (rest S) u i < F.size
    others_lt u i l =
        combined_lt n e (rest S) u i (record { vectors = λ p i a b. symbols.vectors (suc p) i (omega arith) b; added = symbols.added }) l

    -- a combination of the cleared vectors is that of the vectors, cleared
    cleared_combined : (u : ℕ → ℕ) (i : ℕ) → i < n
        → combined F e S' u i ≡ plus (combined F e (rest S) u i) (F.times (combined F e (rest S) u s) (multiple i))
    unfolding combined dot
    cleared_combined u i l =
        let w : ℕ → ℕ → ℕ = λ p. S.vector (suc p) in
        let m = F.times (F.inverse (S.vector 0 s)) (S.vector 0 i) in
        ap₂ plus (next.added i l)
        (dot_local F e u (λ p. S'.vector p i) (λ p. plus (w p i) (F.times (w p s) m)) (λ p a. next.vectors p i a l)
        ∙ dot_plus_vector F e u (λ p. w p i) (λ p. F.times (w p s) m)
        ∙ ap (plus (dot F e u (λ p. w p i)))
        (sum_cong e (λ p. F.times (u p) (F.times (w p s) m)) (λ p. F.times (F.times (u p) (w p s)) m)
        (λ p a. sym (F.times_assoc (u p) (w p s) m))
        ∙ sum_scale_right F e m (λ p. F.times (u p) (w p s))))
        ∙ plus_exchange (S.added i) (F.times (S.added s) m) (dot F e u (λ p. w p i)) (F.times (dot F e u (λ p. w p s)) m)
        ∙ ap (plus (plus (S.added i) (dot F e u (λ p. w p i)))) (sym (plus_times F (S.added s) (dot F e u (λ p. w p s)) m))

    -- where u 0 clears entry s, it gives the combination of the cleared vectors, everywhere
    module _ (u : ℕ → ℕ) (i : ℕ) (l : i < n) where
      abbrev c : ℕ → ℕ
      c = combined F e (rest S) (λ p. u (suc p))

      scaled : v i ≡ F.times (v s) (multiple i)
      scaled = sym (times_left_comm F (v s) (F.inverse (v s)) (v i) ∙ times_cancel F (v s) (v i) (v_lt s at_s) pivot (v_lt i l))

      forced : F.times (u 0) (v s) ≡ c s → combined F (suc e) S u i ≡ combined F e S' (λ p. u (suc p)) i
      forced h =
          combined_first e S u i
          ∙ ap (plus (c i)) (ap (F.times (u 0)) scaled ∙ sym (F.times_assoc (u 0) (v s) (multiple i)) ∙ ap (λ (x : ℕ). F.times x (multiple i)) h)
          ∙ sym (cleared_combined (λ p. u (suc p)) i l)

    -- an entry s that is 0 forces u 0
    zero_at : (u : ℕ → ℕ) → combined F (suc e) S u s ≡ 0 → F.times (u 0) (v s) ≡ combined F e (rest S) (λ p. u (suc p)) s
    zero_at u z = sym (eq_of_plus_zero _ _ (sym (combined_first e S u s) ∙ z))

    pub pivot_same : (u : ℕ → ℕ) → combined F (suc e) S u s ≡ 0 → (i : ℕ) → i < n → combined F (suc e) S u i ≡ combined F e S' (λ p. u (suc p)) i
    pivot_same u z i l = forced u i l (zero_at u z)

    -- the symbol to which it is forced, where u has the others
    force : (ℕ → ℕ) → ℕ
    force u = F.times (combined F e (rest S) u s) (F.inverse (v s))

    force_clears : (u : ℕ → ℕ) → F.times (force u) (v s) ≡ combined F e (rest S) u s
    unfolding force
    force_clears u =
        F.times_assoc _ (F.inverse (v s)) (v s) ∙ ap (F.times (combined F e (rest S) u s)) (inverse_times F (v s) (v_lt s at_s) pivot)
        ∙ times_one_right F _ (others_lt u s at_s)

    force_only : (x : ℕ) (u : ℕ → ℕ) → x < F.size → F.times x (v s) ≡ combined F e (rest S) u s → x ≡ force u
    unfolding force
    force_only x u l h =
        sym (times_cancel F (v s) x (v_lt s at_s) pivot l) ∙ F.times_comm (F.inverse (v s)) (F.times (v s) x)
        ∙ ap (λ (y : ℕ). F.times y (F.inverse (v s))) (F.times_comm (v s) x ∙ h)

    module _ (H : ℕ → Bool) (counts : T (H s)) where
      pub solutions_pivot : solutions F H n (suc e) S ≡ solutions F H n e S'
      unfolding solutions force
      solutions_pivot =
          count_fronts F.size e passes
          ∙ count_flat_map passes passes' 1 _ (all F.size e)
          (λ u m t. count_map passes (λ x. x ∷ u) (below F.size) ∙ count_one (λ x. passes (x ∷ u)) (force (entry u)) (below F.size)
          (nodup_below F.size) (mem_below F.size (force (entry u)) (force_lt (entry u)))
          (to_zero_on H n _ (zero_same H n _ _ (λ i l. sym (forced (entry (force (entry u) ∷ u)) i l (force_clears (entry u))))
          (of_zero_on H n (combined F e S' (entry u)) t)))
          (λ x k z. force_only x (entry u) (of_mem_below F.size x k) (zero_at (entry (x ∷ u)) ((of_zero_on H n _ z).at s at_s counts))))
          (λ u m t. count_map passes (λ x. x ∷ u) (below F.size) ∙ count_none (λ x. passes (x ∷ u)) (below F.size)
          (λ x k. not_T (passes (x ∷ u)) (λ z. T_not (passes' u) t (to_zero_on H n _ (back (entry (x ∷ u)) (of_zero_on H n _ z))))))
          ∙ mul-one (count passes' (all F.size e))
        where
          passes : List ℕ → Bool
          passes u = zero_on H n (combined F (suc e) S (entry u))

          passes' : List ℕ → Bool
          passes' u = zero_on H n (combined F e S' (entry u))

          force_lt : (u : ℕ → ℕ) → force u < F.size
          force_lt u = F.times_lt _ _

          back : (u : ℕ → ℕ) → ZeroOn H n (combined F (suc e) S u) → ZeroOn H n (combined F e S' (λ p. u (suc p)))
          back u z = zero_same H n _ _ (pivot_same u (z.at s at_s counts)) z

  -- ---- no vector is left

  module _ (H : ℕ → Bool) (n : ℕ) (S : Family) where
    abbrev sole : Bool
    sole = zero_on H n (combined F 0 S (entry []))

    none_left : solutions F H n 0 S ≡ one_if sole
    unfolding solutions all count
    none_left = omega arith

    pub solutions_one : ZeroOn H n S.added → solutions F H n 0 S ≡ 1
    solutions_one z =
        none_left
        ∙ one_if_true sole (to_zero_on H n (combined F 0 S (entry [])) (zero_same H n S.added _ (λ i l. sym (combined_none S (entry []) i)) z))

    pub solutions_none : (ZeroOn H n S.added → ⊥) → solutions F H n 0 S ≡ 0
    solutions_none d =
        let f = combined F 0 S (entry []) in
        none_left
        ∙ one_if_false sole (not_T sole (λ t. d (zero_same H n f S.added (λ i l. combined_none S (entry []) i) (of_zero_on H n f t))))
