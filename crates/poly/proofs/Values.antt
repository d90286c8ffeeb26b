-- The laws of the value of a polynomial: sums, multiples, more coefficients, a shift, and such as go round, the product by x - a, and Horner's rule.
-- Assumes nothing.
use mathlib.Core.Path.{◌≡◌, refl, sym, ap, ap₂, ◌∙◌}
use Prim.Native.Nat.{ℕ, zero, suc, ◌+◌, ◌-◌, ◌*◌, ◌≤◌, ◌<◌}
use native.Mathlib.Nat.{add_comm, mul-suc, mul-le-mul_left}
use native.Mathlib.Omega.{arith}
use Rattle.field.specs.Plus.{plus}
use Rattle.field.specs.Field.{Field}
use Rattle.field.specs.Power.{power}
use Rattle.field.specs.Sum.{sum}
use Rattle.field.proofs.Plus.{plus_assoc, plus_comm, plus_zero}
use Rattle.field.proofs.FieldLaws.{zero_lt, zero_times, plus_times, times_left_comm, times_one_right}
use Rattle.field.proofs.Powers.{power_zero, power_suc, power_add}
use Rattle.field.proofs.Sums.{sum_none, sum_suc, sum_cong, sum_zeros, sum_plus, sum_swap}
use Rattle.field.proofs.Sums.{sum_first, sum_add, sum_extend, sum_scale, sum_scale_right, sum_lt}
use Rattle.poly.specs.Inner.Polynomials.{value, linear}

-- x times f
abbrev pub shift : (ℕ → ℕ) → ℕ → ℕ
shift f zero = 0
shift f (suc i) = f i

module _ (F : Field) where
  abbrev term : (ℕ → ℕ) → ℕ → ℕ → ℕ
  term f x i = F.times (f i) (power F x i)

  pub value_none : (f : ℕ → ℕ) (x : ℕ) → value F 0 f x ≡ 0
  unfolding value
  value_none f x = sum_none (term f x)

  pub value_suc : (n : ℕ) (f : ℕ → ℕ) (x : ℕ) → value F (suc n) f x ≡ plus (value F n f x) (F.times (f n) (power F x n))
  unfolding value
  value_suc n f x = sum_suc n (term f x)

  pub value_cong : (n : ℕ) (f g : ℕ → ℕ) (x : ℕ) → ((i : ℕ) → i < n → f i ≡ g i) → value F n f x ≡ value F n g x
  unfolding value
  value_cong n f g x h = sum_cong n (term f x) (term g x) (λ i l. ap (λ (v : ℕ). F.times v (power F x i)) (h i l))

  pub value_lt : (n : ℕ) (f : ℕ → ℕ) (x : ℕ) → value F n f x < F.size
  unfolding value
  value_lt n f x = sum_lt F n (term f x) (λ i l. F.times_lt (f i) (power F x i))

  pub value_zeros : (n : ℕ) (f : ℕ → ℕ) (x : ℕ) → ((i : ℕ) → i < n → f i ≡ 0) → value F n f x ≡ 0
  unfolding value
  value_zeros n f x h = sum_zeros n (term f x) (λ i l. ap (λ (v : ℕ). F.times v (power F x i)) (h i l) ∙ zero_times F (power F x i))

  pub value_plus : (n : ℕ) (f g : ℕ → ℕ) (x : ℕ) → value F n (λ i. plus (f i) (g i)) x ≡ plus (value F n f x) (value F n g x)
  unfolding value
  value_plus n f g x =
      sum_cong n (term (λ i. plus (f i) (g i)) x) (λ i. plus (term f x i) (term g x i)) (λ i l. plus_times F (f i) (g i) (power F x i))
      ∙ sum_plus n (term f x) (term g x)

  pub value_scale : (n a : ℕ) (f : ℕ → ℕ) (x : ℕ) → value F n (λ i. F.times a (f i)) x ≡ F.times a (value F n f x)
  unfolding value
  value_scale n a f x =
      sum_cong n (term (λ i. F.times a (f i)) x) (λ i. F.times a (term f x i)) (λ i l. F.times_assoc a (f i) (power F x i))
      ∙ sum_scale F n a (term f x)

  pub value_sum : (n m : ℕ) (f : ℕ → ℕ → ℕ) (x : ℕ) → value F n (λ i. sum m (λ u. f u i)) x ≡ sum m (λ u. value F n (f u) x)
  unfolding value
  value_sum n m f x =
      sum_cong n _ (λ i. sum m (λ u. term (f u) x i)) (λ i l. sym (sum_scale_right F m (power F x i) (λ u. f u i)))
      ∙ sum_swap n m (λ i u. term (f u) x i)

  pub value_extend : (m n : ℕ) (f : ℕ → ℕ) (x : ℕ) → m ≤ n → ((i : ℕ) → m ≤ i → i < n → f i ≡ 0) → value F n f x ≡ value F m f x
  unfolding value
  value_extend m n f x l h =
      sum_extend m n (term f x) l (λ i a b. ap (λ (v : ℕ). F.times v (power F x i)) (h i a b) ∙ zero_times F (power F x i))

  -- the first k coefficients, and the others, which have the factor x^k
  pub value_add : (k m : ℕ) (f : ℕ → ℕ) (x : ℕ) → value F (k + m) f x ≡ plus (value F k f x) (F.times (power F x k) (value F m (λ i. f (k + i)) x))
  unfolding value
  value_add k m f x =
      sum_add k m (term f x)
      ∙ ap (plus (sum k (term f x)))
      (sum_cong m (λ i. term f x (k + i)) (λ i. F.times (power F x k) (term (λ i. f (k + i)) x i))
      (λ i l. ap (F.times (f (k + i))) (power_add F x k i) ∙ times_left_comm F (f (k + i)) (power F x k) (power F x i))
      ∙ sum_scale F m (power F x k) (term (λ i. f (k + i)) x))

  -- a polynomial in x whose coefficients are polynomials in y
  pub value_swap : (m n : ℕ) (f : ℕ → ℕ → ℕ) (x y : ℕ) → value F m (λ i. value F n (λ j. f i j) y) x ≡ value F n (λ j. value F m (λ i. f i j) x) y
  unfolding value
  value_swap m n f x y =
      sum_cong m _ (λ i. sum n (λ j. F.times (F.times (f i j) (power F y j)) (power F x i)))
      (λ i l. sym (sum_scale_right F n (power F x i) (λ j. F.times (f i j) (power F y j))))
      ∙ sum_swap m n (λ i j. F.times (F.times (f i j) (power F y j)) (power F x i))
      ∙ sum_cong n _ (λ j. F.times (sum m (λ i. F.times (f i j) (power F x i))) (power F y j))
      (λ j l.
      sum_cong m _ (λ i. F.times (F.times (f i j) (power F x i)) (power F y j)) (λ i k. turn (f i j) (power F y j) (power F x i))
      ∙ sum_scale_right F m (power F y j) (λ i. F.times (f i j) (power F x i)))
    where
      turn : (a b c : ℕ) → F.times (F.times a b) c ≡ F.times (F.times a c) b
      turn a b c = F.times_assoc a b c ∙ ap (F.times a) (F.times_comm b c) ∙ sym (F.times_assoc a c b)

  -- the first coefficient, and the others
  pub value_first : (n : ℕ) (f : ℕ → ℕ) (x : ℕ) → f 0 < F.size → value F (suc n) f x ≡ plus (F.times x (value F n (λ i. f (suc i)) x)) (f 0)
  unfolding value
  value_first n f x l =
      sum_first n (term f x)
      ∙ ap₂ plus (ap (F.times (f 0)) (power_zero F x) ∙ times_one_right F (f 0) l)
      (sum_cong n (λ i. term f x (suc i)) (λ i. F.times x (term (λ i. f (suc i)) x i))
      (λ i k. ap (F.times (f (suc i))) (power_suc F x i) ∙ times_left_comm F (f (suc i)) x (power F x i))
      ∙ sum_scale F n x (term (λ i. f (suc i)) x))
      ∙ plus_comm (f 0) (F.times x (sum n (term (λ i. f (suc i)) x)))

  -- a constant more
  pub value_constant : (n : ℕ) (f g : ℕ → ℕ) (c x : ℕ) → f 0 < F.size → c < F.size → g 0 ≡ plus (f 0) c → ((i : ℕ) → i < n → g (suc i) ≡ f (suc i))
      → value F (suc n) g x ≡ plus (value F (suc n) f x) c
  value_constant n f g c x fl cl e h =
      value_first n g x (rw e (F.plus_lt (f 0) c fl cl))
      ∙ ap₂ plus (ap (F.times x) (value_cong n (λ i. g (suc i)) (λ i. f (suc i)) x h)) e
      ∙ sym (plus_assoc (F.times x (value F n (λ i. f (suc i)) x)) (f 0) c)
      ∙ ap (λ (v : ℕ). plus v c) (sym (value_first n f x fl))

  -- x times f, where x^N is c + x: each coefficient one further, and the last is added to that of x, and times c is that of x^0
  pub value_trinomial : (N n : ℕ) (f g : ℕ → ℕ) (c x : ℕ) → N ≡ suc (suc n) → power F x N ≡ plus c x → f 0 < F.size → f (suc n) < F.size
      → g 0 ≡ F.times c (f (suc n)) → g 1 ≡ plus (f 0) (f (suc n)) → ((i : ℕ) → i < n → g (suc (suc i)) ≡ f (suc i))
      → value F N g x ≡ F.times x (value F N f x)
  value_trinomial N n f g c x is_N cyclic first last g0 g1 more =
      ap (λ (k : ℕ). value F k g x) is_N
      ∙ value_first (suc n) g x (rw g0 (F.times_lt c (f (suc n))))
      ∙ ap₂ plus (ap (F.times x) (value_constant n f (λ i. g (suc i)) (f (suc n)) x first last g1 more)) g0
      ∙ ap (λ (v : ℕ). plus v (F.times c (f (suc n)))) (F.times_plus x (value F (suc n) f x) (f (suc n)))
      ∙ plus_assoc (F.times x (value F (suc n) f x)) (F.times x (f (suc n))) (F.times c (f (suc n)))
      ∙ ap (plus (F.times x (value F (suc n) f x))) (sym round)
      ∙ sym (F.times_plus x (value F (suc n) f x) (F.times (f (suc n)) (power F x (suc n))))
      ∙ ap (F.times x) (sym (value_suc (suc n) f x))
      ∙ ap (λ (k : ℕ). F.times x (value F k f x)) (sym is_N)
    where
      round : F.times x (F.times (f (suc n)) (power F x (suc n))) ≡ plus (F.times x (f (suc n))) (F.times c (f (suc n)))
      round =
          times_left_comm F x (f (suc n)) (power F x (suc n))
          ∙ ap (F.times (f (suc n))) (sym (power_suc F x (suc n)) ∙ ap (power F x) (sym is_N) ∙ cyclic)
          ∙ F.times_plus (f (suc n)) c x
          ∙ plus_comm (F.times (f (suc n)) c) (F.times (f (suc n)) x)
          ∙ ap₂ plus (F.times_comm (f (suc n)) x) (F.times_comm (f (suc n)) c)

  -- x^(a + 1) times f, where x^N is x: each coefficient a + 1 further, from the end on to that of x
  pub value_rotated : (N a b : ℕ) (f g : ℕ → ℕ) (x : ℕ) → N ≡ suc a + suc b → power F x N ≡ x → f 0 < F.size → f (a + suc b) < F.size
      → g 0 ≡ 0 → ((i : ℕ) → i < a → g (suc i) ≡ f (suc b + i)) → g (suc a + 0) ≡ plus (f 0) (f (suc b + a))
      → ((i : ℕ) → i < b → g (suc a + suc i) ≡ f (suc i))
      → value F N g x ≡ F.times (power F x (suc a)) (value F N f x)
  value_rotated N a b f g x is_N cyclic first last g0 low meet high =
      ap (λ (k : ℕ). value F k g x) is_N
      ∙ value_add (suc a) (suc b) g x
      ∙ ap₂ plus front back
      ∙ plus_comm round (F.times up (plus start end))
      ∙ ap (λ (v : ℕ). plus v round) (F.times_plus up start end)
      ∙ plus_assoc (F.times up start) (F.times up end) round
      ∙ ap (plus (F.times up start)) (plus_comm (F.times up end) round ∙ sym over)
      ∙ sym (F.times_plus up start (F.times (power F x (suc b)) (value F (suc a) (λ i. f (suc b + i)) x)))
      ∙ ap (F.times up) (sym (value_add (suc b) (suc a) f x))
      ∙ ap (λ (k : ℕ). F.times up (value F k f x)) (add_comm (suc b) (suc a) ∙ sym is_N)
    where
      up : ℕ
      up = power F x (suc a)

      start : ℕ
      start = value F (suc b) f x

      end : ℕ
      end = f (suc b + a)

      round : ℕ
      round = F.times x (value F a (λ i. f (suc b + i)) x)

      front : value F (suc a) g x ≡ round
      front =
          value_first a g x (rw g0 (zero_lt F))
          ∙ ap₂ plus (ap (F.times x) (value_cong a (λ i. g (suc i)) (λ i. f (suc b + i)) x low)) g0
          ∙ plus_zero round

      back : F.times up (value F (suc b) (λ i. g (suc a + i)) x) ≡ F.times up (plus start end)
      back = ap (F.times up) (value_constant b f (λ i. g (suc a + i)) end x first (rw (add_comm (suc b) a) last) meet high)

      over : F.times up (F.times (power F x (suc b)) (value F (suc a) (λ i. f (suc b + i)) x)) ≡ plus round (F.times up end)
      over =
          sym (F.times_assoc up (power F x (suc b)) (value F (suc a) (λ i. f (suc b + i)) x))
          ∙ ap (λ (v : ℕ). F.times v (value F (suc a) (λ i. f (suc b + i)) x))
          (sym (power_add F x (suc a) (suc b)) ∙ ap (power F x) (sym is_N) ∙ cyclic)
          ∙ ap (F.times x) (value_suc a (λ i. f (suc b + i)) x)
          ∙ F.times_plus x (value F a (λ i. f (suc b + i)) x) (F.times end (power F x a))
          ∙ ap (plus round) (times_left_comm F x end (power F x a) ∙ ap (F.times end) (sym (power_suc F x a)) ∙ F.times_comm end up)

  -- f times (x - a)
  pub linear_shift : (a : ℕ) (f : ℕ → ℕ) (i : ℕ) → linear F a f i ≡ plus (F.times a (f i)) (shift f i)
  unfolding linear
  linear_shift a f zero = sym (plus_zero (F.times a (f 0)))
  linear_shift a f (suc i) = refl

  pub value_linear : (n a : ℕ) (f : ℕ → ℕ) (x : ℕ) → f n ≡ 0 → value F (suc n) (linear F a f) x ≡ F.times (plus x a) (value F n f x)
  value_linear n a f x z =
      value_cong (suc n) (linear F a f) (λ i. plus (F.times a (f i)) (shift f i)) x (λ i l. linear_shift a f i)
      ∙ value_plus (suc n) (λ i. F.times a (f i)) (shift f) x
      ∙ ap₂ plus
      (value_scale (suc n) a f x ∙ ap (F.times a) (value_extend n (suc n) f x (omega arith) (λ i k b. let e : i ≡ n = omega arith in ap f e ∙ z)))
      (value_first n (shift f) x (zero_lt F) ∙ plus_zero (F.times x (value F n f x)))
      ∙ plus_comm (F.times a (value F n f x)) (F.times x (value F n f x))
      ∙ sym (plus_times F x a (value F n f x))

-- ---- Horner's rule

-- the index of a turn is within stride * count
pub stride_lt : (stride start i count : ℕ) → 0 < i → i ≤ count → start < stride → stride * (i - 1) + start < stride * count
stride_lt stride start i count l b s =
    omega (arith, mul-suc stride (i - 1), mul-le-mul_left {m = suc (i - 1)} {n = count} stride (omega arith))

module _ (F : Field) where
  -- where Horner's loop begins, a turn that goes from i to i - 1, and where the loop ends
  pub horner_none : (n : ℕ) (f : ℕ → ℕ) (x : ℕ) → 0 ≡ value F (n - n) f x
  horner_none n f x = let z : n - n ≡ 0 = omega arith in sym (ap (λ (k : ℕ). value F k f x) z ∙ value_none F f x)

  pub horner_more : (n i : ℕ) (f : ℕ → ℕ) (x acc : ℕ) → 0 < i → i ≤ n → f (i - 1) < F.size → acc ≡ value F (n - i) (λ k. f (i + k)) x
      → plus (F.times acc x) (f (i - 1)) ≡ value F (n - (i - 1)) (λ k. f (i - 1 + k)) x
  horner_more n i f x acc l b small e =
      let one : n - (i - 1) ≡ suc (n - i) = omega arith in
      let first : i - 1 + 0 ≡ i - 1 = omega arith in
      sym (
      ap (λ (k : ℕ). value F k (λ k. f (i - 1 + k)) x) one
      ∙ value_first F (n - i) (λ k. f (i - 1 + k)) x (rw first small)
      ∙ ap₂ plus
      (ap (F.times x)
      (value_cong F (n - i) (λ k. f (i - 1 + suc k)) (λ k. f (i + k)) x (λ k _. let same : i - 1 + suc k ≡ i + k = omega arith in ap f same) ∙ sym e)
      ∙ F.times_comm x acc)
      (ap f first))

  pub horner_all : (n i : ℕ) (f : ℕ → ℕ) (x acc : ℕ) → i ≤ 0 → acc ≡ value F (n - i) (λ k. f (i + k)) x → acc ≡ value F n f x
  horner_all n i f x acc l e =
      let all : n - i ≡ n = omega arith in
      e ∙ ap (λ (k : ℕ). value F k (λ k. f (i + k)) x) all
      ∙ value_cong F n (λ k. f (i + k)) f x (λ k _. let same : i + k ≡ k = omega arith in ap f same)
