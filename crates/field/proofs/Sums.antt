-- The laws of finite sums.
-- Assumes nothing.
use mathlib.Core.Path.{◌≡◌, refl, sym, ap, ap₂, ◌∙◌}
use mathlib.Core.List.{List}
use Prim.Native.Nat.{ℕ, zero, suc, ◌+◌, ◌*◌, ◌≤◌, ◌<◌}
use native.Mathlib.Nat.{le_refl, mul-suc, mul-zero, add-suc, add-zero}
use native.Mathlib.Decide.{le_ind, ℕ_discrete}
use native.Mathlib.Omega.{arith}
use lib.ListN.{length, get_or, set}
use lib.Seq.{get_or-set_same, get_or-set_other}
use Rattle.field.specs.Plus.{plus}
use Rattle.field.specs.Field.{Field}
use Rattle.field.specs.Sum.{sum}
use Rattle.field.proofs.Plus.{plus_assoc, plus_comm, plus_self, plus_zero, zero_plus, plus_exchange, plus_solve}
use Rattle.field.proofs.FieldLaws.{zero_lt, times_zero}

-- ---- sums of any numbers

pub sum_none : (f : ℕ → ℕ) → sum 0 f ≡ 0
unfolding sum
sum_none f = refl

pub sum_suc : (n : ℕ) (f : ℕ → ℕ) → sum (suc n) f ≡ plus (sum n f) (f n)
unfolding sum
sum_suc n f = refl

-- a sum depends only on the terms below n
pub sum_cong : (n : ℕ) (f g : ℕ → ℕ) → ((i : ℕ) → i < n → f i ≡ g i) → sum n f ≡ sum n g
unfolding sum
sum_cong zero f g h = refl
sum_cong (suc n) f g h = ap₂ plus (sum_cong n f g (λ i l. h i (omega arith))) (h n (omega arith))

pub sum_zero : (n : ℕ) → sum n (λ i. 0) ≡ 0
unfolding sum
sum_zero zero = refl
sum_zero (suc n) = plus_zero (sum n (λ i. 0)) ∙ sum_zero n

pub sum_zeros : (n : ℕ) (f : ℕ → ℕ) → ((i : ℕ) → i < n → f i ≡ 0) → sum n f ≡ 0
sum_zeros n f h = sum_cong n f (λ i. 0) h ∙ sum_zero n

pub sum_plus : (n : ℕ) (f g : ℕ → ℕ) → sum n (λ i. plus (f i) (g i)) ≡ plus (sum n f) (sum n g)
unfolding sum
sum_plus zero f g = sym (plus_self 0)
sum_plus (suc n) f g = ap (λ (x : ℕ). plus x (plus (f n) (g n))) (sum_plus n f g) ∙ plus_exchange (sum n f) (sum n g) (f n) (g n)

pub sum_swap : (m n : ℕ) (f : ℕ → ℕ → ℕ) → sum m (λ i. sum n (f i)) ≡ sum n (λ j. sum m (λ i. f i j))
unfolding sum
sum_swap zero n f = sym (sum_zero n)
sum_swap (suc m) n f = rw (sum_swap m n f) (sym (sum_plus n (λ j. sum m (λ i. f i j)) (f m)))

-- the first term, and the others
pub sum_first : (n : ℕ) (f : ℕ → ℕ) → sum (suc n) f ≡ plus (f 0) (sum n (λ i. f (suc i)))
unfolding sum
sum_first zero f = plus_comm 0 (f 0)
sum_first (suc n) f =
    ap (λ (s : ℕ). plus s (f (suc n))) (sum_first n f) ∙ plus_assoc (f 0) (sum n (λ i. f (suc i))) (f (suc n))

-- a sum over n + k, and over c blocks of w
pub sum_add : (n k : ℕ) (f : ℕ → ℕ) → sum (n + k) f ≡ plus (sum n f) (sum k (λ j. f (n + j)))
unfolding sum
sum_add n zero f = ap (λ (k : ℕ). sum k f) (add-zero n) ∙ sym (plus_zero (sum n f))
sum_add n (suc k) f =
    ap (λ (k : ℕ). sum k f) (add-suc n k) ∙ ap (λ (s : ℕ). plus s (f (n + k))) (sum_add n k f)
    ∙ plus_assoc (sum n f) (sum k (λ j. f (n + j))) (f (n + k))

pub sum_blocks : (w c : ℕ) (f : ℕ → ℕ) → sum (w * c) f ≡ sum c (λ i. sum w (λ j. f (w * i + j)))
unfolding sum
sum_blocks w zero f = ap (λ (k : ℕ). sum k f) (mul-zero w)
sum_blocks w (suc c) f =
    ap (λ (k : ℕ). sum k f) (mul-suc w c) ∙ sum_add (w * c) w f
    ∙ ap (λ (s : ℕ). plus s (sum w (λ j. f (w * c + j)))) (sum_blocks w c f)

-- terms past m that are zero do not count
pub sum_extend : (m n : ℕ) (f : ℕ → ℕ) → m ≤ n → ((i : ℕ) → m ≤ i → i < n → f i ≡ 0) → sum n f ≡ sum m f
unfolding sum
sum_extend m n f l =
    le_ind (λ (k : ℕ). ((i : ℕ) → m ≤ i → i < k → f i ≡ 0) → sum k f ≡ sum m f) (λ z. refl)
    (λ k l ih z. ap (plus (sum k f)) (z k l (le_refl (suc k))) ∙ plus_zero (sum k f) ∙ ih (λ i a b. z i a (omega arith))) n l

-- equal terms, an even number of them
pub sum_even : (h a : ℕ) → sum (h + h) (λ i. a) ≡ 0
sum_even h a = sum_add h h (λ i. a) ∙ plus_self (sum h (λ i. a))

-- all terms but one are zero
pub sum_single : (n j : ℕ) (f : ℕ → ℕ) → j < n → ((i : ℕ) → i < n → (i ≡ j → ⊥) → f i ≡ 0) → sum n f ≡ f j
unfolding sum
sum_single zero j f l h = absurd (omega arith)
sum_single (suc n) j f l h = go (λ k. sum_single n j f k (λ i a. h i (omega arith))) (ℕ_discrete n j)
  where
    go : (j < n → sum n f ≡ f j) → Dec (n ≡ j) → plus (sum n f) (f n) ≡ f j
    go below (yes e) = rw (sum_zeros n f (λ i k. h i (omega arith) (omega arith))) (zero_plus (f n) ∙ ap f e)
    go below (no d) = rw (h n (omega arith) d) (plus_zero (sum n f) ∙ below (omega arith))

-- ---- sums of products

module _ (F : Field) where
  pub sum_scale : (n a : ℕ) (f : ℕ → ℕ) → sum n (λ i. F.times a (f i)) ≡ F.times a (sum n f)
  unfolding sum
  sum_scale zero a f = sym (times_zero F a)
  sum_scale (suc n) a f = ap (λ (x : ℕ). plus x (F.times a (f n))) (sum_scale n a f) ∙ sym (F.times_plus a (sum n f) (f n))

  pub sum_scale_right : (n a : ℕ) (f : ℕ → ℕ) → sum n (λ i. F.times (f i) a) ≡ F.times (sum n f) a
  sum_scale_right n a f =
      sum_cong n (λ i. F.times (f i) a) (λ i. F.times a (f i)) (λ i l. F.times_comm (f i) a)
      ∙ sum_scale n a f ∙ F.times_comm a (sum n f)

  pub sum_lt : (n : ℕ) (f : ℕ → ℕ) → ((i : ℕ) → i < n → f i < F.size) → sum n f < F.size
  unfolding sum
  sum_lt zero f h = zero_lt F
  sum_lt (suc n) f h = F.plus_lt (sum n f) (f n) (sum_lt n f (λ i l. h i (omega arith))) (h n (omega arith))

  -- a store at an entry that was zero adds its term
  pub sum_set : (n : ℕ) (a : ℕ → ℕ) (g : List ℕ) (p v : ℕ) → p < n → p < length g → get_or g p 0 ≡ 0
      → sum n (λ e. F.times (a e) (get_or (set g p v) e 0)) ≡ plus (sum n (λ e. F.times (a e) (get_or g e 0))) (F.times (a p) v)
  sum_set n a g p v l k z =
      plus_solve (sum n before) (sum n after) (F.times (a p) v)
      (sym (sum_plus n before after) ∙ sum_single n p (λ e. plus (before e) (after e)) l elsewhere ∙ here)
    where
      before : ℕ → ℕ
      before e = F.times (a e) (get_or g e 0)

      after : ℕ → ℕ
      after e = F.times (a e) (get_or (set g p v) e 0)

      elsewhere : (e : ℕ) → e < n → (e ≡ p → ⊥) → plus (before e) (after e) ≡ 0
      elsewhere e h d =
          ap (λ (x : ℕ). plus (F.times (a e) (get_or g e 0)) (F.times (a e) x)) (get_or-set_other g p e v 0 d) ∙ plus_self (F.times (a e) (get_or g e 0))

      here : plus (before p) (after p) ≡ F.times (a p) v
      here =
          ap₂ (λ (x y : ℕ). plus (F.times (a p) x) (F.times (a p) y)) z (get_or-set_same g p v 0 k)
          ∙ ap (λ (x : ℕ). plus x (F.times (a p) v)) (times_zero F (a p)) ∙ zero_plus (F.times (a p) v)
