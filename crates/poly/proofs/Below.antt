-- The numbers below a bound, and how many of them pass a test.
-- Assumes nothing.
use mathlib.Core.Path.{◌≡◌, refl, sym, ap}
use mathlib.Core.Bool.{Bool, true, false, not, ◌&&◌}
use mathlib.Core.Logic.{◌⊎◌, inl, inr, ◌≢◌}
use mathlib.Core.List.Memᴰ.{head}
use mathlib.Core.List.Memᴰ.{tail}
use mathlib.Core.List.{List, [], ◌∷◌, Memᴰ as Mem}
use mathlib.Core.List.Memᴰ
use mathlib.Core.List.Memᴰ.{cases_cons}
use mathlib.Core.List.Memᴰ.{not-nil}
use Prim.Native.Nat.{ℕ, zero, suc, ◌+◌, ◌≤◌, ◌<◌}
use native.Mathlib.Nat.{eq-or-lt_of_le, add-zero, add-suc, le_of_suc-le-suc}
use native.Mathlib.Decide.{ℕ_discrete}
use native.Mathlib.Omega.{arith}
use lib.Dec.{T, eqb, eqb→eq, eqb_refl, not_T, T_not}
use lib.ListN.{length}
use Rattle.poly.specs.Lists.{one_if, Nodup, count, below}
use Rattle.field.proofs.Search.{both}
use Rattle.poly.proofs.Bools.{parts}
use Rattle.poly.proofs.Lists.{one_if_le, one_if_mono, one_if_true, one_if_false, count_cong}

pub length_below : (n : ℕ) → length (below n) ≡ n
unfolding below
length_below zero = refl
length_below (suc n) = ap suc (length_below n)

pub mem_below : (n x : ℕ) → x < n → Mem x (below n)
unfolding below
mem_below zero x h = absurd (omega arith)
mem_below (suc n) x h = elim (ℕ_discrete x n) [ yes e ↦ head e | no d ↦ tail (mem_below n x (omega arith)) ]

pub of_mem_below : (n x : ℕ) → Mem x (below n) → x < n
unfolding below
of_mem_below zero x m = absurd (not-nil m)
of_mem_below (suc n) x m = elim (cases_cons m) [ inl e ↦ omega arith | inr k ↦ omega (arith, of_mem_below n x k) ]

pub nodup_below : (n : ℕ) → Nodup (below n)
unfolding below
nodup_below zero = tt
nodup_below (suc n) = (λ m. omega (arith, of_mem_below n n m), nodup_below n)

-- a test that holds of i besides holds of one number more
pub count_insert : (n i : ℕ) (p p' : ℕ → Bool) → i < n → T (not (p i)) → T (p' i) → ((x : ℕ) → x < n → (x ≡ i → ⊥) → p' x ≡ p x)
    → count p' (below n) ≡ suc (count p (below n))
unfolding count below
count_insert zero i p p' l f t h = absurd (omega arith)
count_insert (suc n) i p p' l f t h = go (ℕ_discrete n i) (λ b. count_insert n i p p' b f t (λ x a. h x (omega arith)))
  where
    go : Dec (n ≡ i) → (i < n → count p' (below n) ≡ suc (count p (below n)))
        → one_if (p' n) + count p' (below n) ≡ suc (one_if (p n) + count p (below n))
    go (yes e) ih =
        let same : count p' (below n) ≡ count p (below n)
        = count_cong p' p (below n) (λ x m. h x (omega (arith, of_mem_below n x m)) (omega (arith, of_mem_below n x m))) in
        rw (e, one_if_true (p' i) t, one_if_false (p i) f, ← e, same) (omega arith)
    go (no d) ih = rw (h n (omega arith) d, ih (omega arith)) (omega arith)

-- t is not p
pub other : ℕ → ℕ → Bool
other p t = not (eqb t p)

pub other_is : (p t : ℕ) → t ≢ p → T (other p t)
unfolding other
other_is p t h = not_T (eqb t p) λ e. h (eqb→eq t p e)

pub other_ne : (p t : ℕ) → T (other p t) → t ≢ p
unfolding other
other_ne p t h e = T_not (eqb t p) h (rw e (eqb_refl p))

-- t is below n, and passes
abbrev pub Among : (ℕ → Bool) → ℕ → ℕ → Type 0
Among s n t = (t < n) × T (s t)

pub among_wider : (s : ℕ → Bool) {m n t : ℕ} → m ≤ n → Among s m t → Among s n t
among_wider s l h = (omega arith, h.1)

-- what holds of those below n, and of n if it passes, holds of those below n + 1
pub among_suc : (s : ℕ → Bool) (n : ℕ) (P : ℕ → Type 0) → ((t : ℕ) → Among s n t → P t) → (T (s n) → P n) → (t : ℕ) → Among s (suc n) t → P t
among_suc s n P h k t (l, p) = go (eq-or-lt_of_le (le_of_suc-le-suc l))
  where
    go : (t ≡ n) ⊎ (t < n) → P t
    go (inl e) = rw e (k (rw e at p))
    go (inr l') = h t (l', p)

-- no number below n passes
pub none_below : (s : ℕ → Bool) (n : ℕ) → ((t : ℕ) → Among s n t → ⊥) → count s (below n) ≤ 0
unfolding count below
none_below s zero h = omega arith
none_below s (suc n) h = omega (arith, none_below s n (λ t a. h t (among_wider s (omega arith) a)), one_if_mono (s n) false λ p. h n (omega arith, p))

pub count_not : (s : ℕ → Bool) (n : ℕ) → count s (below n) + count (λ t. not (s t)) (below n) ≡ n
unfolding count below
count_not s zero = refl
count_not s (suc n) = go (s n) (count_not s n)
  where
    go : (a : Bool) → count s (below n) + count (λ t. not (s t)) (below n) ≡ n
        → one_if a + count s (below n) + (one_if (not a) + count (λ t. not (s t)) (below n)) ≡ suc n
    go true e = omega arith
    go false e = omega arith

-- a longer stretch has at most its length more of them
pub count_add_le : (s : ℕ → Bool) (n k : ℕ) → count s (below (n + k)) ≤ count s (below n) + k
unfolding count below
count_add_le s n zero = rw (add-zero n) (omega arith)
count_add_le s n (suc k) = rw (add-suc n k) (omega (arith, count_add_le s n k, one_if_le (s (n + k))))

pub count_mono : (s s' : ℕ → Bool) (n : ℕ) → ((t : ℕ) → t < n → T (s t) → T (s' t)) → count s (below n) ≤ count s' (below n)
unfolding count below
count_mono s s' zero h = omega arith
count_mono s s' (suc n) h = omega (arith, one_if_mono (s n) (s' n) (h n (omega arith)), count_mono s s' n λ t l. h t (omega arith))

-- if all that pass s but p pass s' too, then s' has at most one fewer
module _ (s s' : ℕ → Bool) (p : ℕ) (h : (t : ℕ) → t ≢ p → T (s t) → T (s' t)) where
  pub count_except : (n : ℕ) → count s (below n) ≤ suc (count s' (below n))
  unfolding count below
  count_except zero = omega arith
  count_except (suc n) = go (count_except n) (ℕ_discrete n p)
    where
      go : count s (below n) ≤ suc (count s' (below n)) → Dec (n ≡ p)
          → one_if (s n) + count s (below n) ≤ suc (one_if (s' n) + count s' (below n))
      go l (yes e) = omega (arith, one_if_le (s n), count_mono s s' n (λ t l'. h t (omega arith)))
      go l (no e) = omega (arith, one_if_mono (s n) (s' n) (h n e))

-- if all that pass s' pass s, but p passes only s, then s has more
pub count_lt : (s s' : ℕ → Bool) (p : ℕ) → ((t : ℕ) → T (s' t) → T (s t)) → (T (s' p) → ⊥) → (n : ℕ) → Among s n p
    → count s' (below n) < count s (below n)
unfolding count below
count_lt s s' p h k zero a = absurd (omega arith)
count_lt s s' p h k (suc n) (l, sp) = go (count_lt s s' p h k n) (ℕ_discrete p n)
  where
    go : (Among s n p → count s' (below n) < count s (below n)) → Dec (p ≡ n)
        → one_if (s' n) + count s' (below n) < one_if (s n) + count s (below n)
    go ih (yes e) = omega (arith, count_mono s' s n (λ t _. h t), one_if_mono (s' n) false (rw e at k), one_if_mono true (s n) λ _. rw (← e) sp)
    go ih (no e) = omega (arith, ih (omega arith, sp), one_if_mono (s' n) (s n) (h n))

-- different numbers that pass are no more than the count
pub length_le_count : (s : ℕ → Bool) (n : ℕ) (ts : List ℕ) → Nodup ts → ((t : ℕ) → Mem t ts → Among s n t) → length ts ≤ count s (below n)
length_le_count s n [] d e = omega arith
length_le_count s n (t ∷ ts) d e =
    omega (
      arith,
      count_lt s s' t (λ u h. (parts (s u) (other t u) h).0) (λ h. other_ne t t (parts (s t) (other t t) h).1 refl) n (e t (head refl)),
      length_le_count s' n ts d.1
          (λ u m. ((e u (tail m)).0, both (s u) (other t u) (e u (tail m)).1 (other_is t u (λ h. d.0 (Memᴰ.cast (sym h) m))))),
    )
  where
    s' : ℕ → Bool
    s' u = s u && other t u
