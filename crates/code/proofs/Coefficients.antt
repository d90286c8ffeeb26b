-- A message as coefficients by weight: its value is a sum over all numbers up to the order, in which only the weights of terms count.
-- Assumes nothing.
use mathlib.Core.Path.{◌≡◌, refl, sym, ap, ap₂, ◌∙◌}
use mathlib.Core.Bool.{Bool, true, false, cond}
use mathlib.Core.List.{List, [], ◌∷◌, ◌++◌, append-nil}
use Prim.Native.Nat.{ℕ, zero, suc, ◌≤◌, ◌<◌}
use native.Mathlib.Decide.{dec_lt}
use native.Mathlib.Omega.{arith}
use lib.Dec.{T}
use lib.ListN.{length, get_or, get_or-eq_default}
use Rattle.field.specs.Plus.{plus}
use Rattle.field.specs.Field.{Field}
use Rattle.field.specs.Power.{power}
use Rattle.field.specs.Sum.{sum}
use Rattle.field.proofs.Plus.{plus_zero}
use Rattle.field.proofs.Sums.{sum_suc, sum_cong}
use Rattle.field.proofs.Fields.{field_of}
use Rattle.poly.specs.Messages.{Vector, snoc}
use Rattle.poly.proofs.Bools.{T_true}
use Rattle.poly.proofs.Messages.{length_snoc, get_or_snoc, get_or_snoc_last, tabulate, get_or_tabulate, vector_tabulate}
use Rattle.poly.proofs.Keep.{keep, keep_cong}
use Rattle.points.specs.Passing.{passing}
use Rattle.points.proofs.Passing.{place, place_lt, passing_at, at_place}
use Rattle.code.specs.Terms.{is_term, x_power, y_power, weights, size}
use Rattle.code.specs.Word.{monomial, value_at}

-- a sum over a list, each element with its place
sum_snoc : (f : ℕ → ℕ → ℕ) (l : List ℕ) (x : ℕ)
    → sum (length (snoc l x)) (λ i. f (get_or (snoc l x) i 0) i) ≡ plus (sum (length l) (λ i. f (get_or l i 0) i)) (f x (length l))
sum_snoc f l x =
    ap (λ (k : ℕ). sum k (λ i. f (get_or (snoc l x) i 0) i)) (length_snoc l x) ∙ sum_suc (length l) (λ i. f (get_or (snoc l x) i 0) i)
    ∙ ap₂ plus (sum_cong (length l) (λ i. f (get_or (snoc l x) i 0) i) (λ i. f (get_or l i 0) i) (λ i h. ap (λ (a : ℕ). f a i) (get_or_snoc l x i h)))
    (ap (λ (a : ℕ). f a (length l)) (get_or_snoc_last l x (length l) refl))

-- a sum over the numbers below n that pass a test, each with its place, is a sum over all numbers below n
pub sum_passing : (p : ℕ → Bool) (f : ℕ → ℕ → ℕ) (n : ℕ)
    → sum (place p n) (λ i. f (get_or (passing p n) i 0) i) ≡ sum n (λ w. keep (p w) (f w (place p w)))
unfolding sum passing keep
sum_passing p f zero = refl
sum_passing p f (suc n) = go (p n) (sum_passing p f n)
  where
    go : (b : Bool) → sum (place p n) (λ i. f (get_or (passing p n) i 0) i) ≡ sum n (λ w. keep (p w) (f w (place p w)))
        → sum (length (passing p n ++ cond b (n ∷ []) [])) (λ i. f (get_or (passing p n ++ cond b (n ∷ []) []) i 0) i)
        ≡ plus (sum n (λ w. keep (p w) (f w (place p w)))) (keep b (f n (place p n)))
    go true e = sum_snoc f (passing p n) n ∙ ap (λ (s : ℕ). plus s (f n (place p n))) e
    go false e = rw (append-nil (passing p n), plus_zero) e

-- the value at (x, y) of the polynomial of order at most m in which the term of weight w has the coefficient c w
unfoldable pub value_by_weight : Field → ℕ → ℕ → (ℕ → ℕ) → ℕ → ℕ → ℕ
value_by_weight F q m c x y = sum (suc m) λ w. keep (is_term q w) (F.times (c w) (F.times (power F x (x_power q w)) (power F y (y_power q w))))

-- the coefficient of the term of weight w
abbrev pub coefficient_of : ℕ → List ℕ → ℕ → ℕ
coefficient_of q message w = get_or message (place (is_term q) w) 0

pub value_by_weight_lem : (q m : ℕ) (message : List ℕ) (x y : ℕ)
    → value_at q m message x y ≡ value_by_weight (field_of q) q m (coefficient_of q message) x y
unfolding value_at value_by_weight
value_by_weight_lem q m message x y =
    sum_passing (is_term q) (λ w i. (field_of q).times (monomial q w x y) (get_or message i 0)) (suc m)
    ∙ sum_cong (suc m) (λ w. keep (is_term q w) ((field_of q).times (monomial q w x y) (coefficient_of q message w)))
    (λ w. keep (is_term q w) ((field_of q).times (coefficient_of q message w) (monomial q w x y)))
    (λ w l. ap (keep (is_term q w)) ((field_of q).times_comm (monomial q w x y) (coefficient_of q message w)))

-- the message with given coefficients
unfoldable pub message_of : ℕ → ℕ → (ℕ → ℕ) → List ℕ
message_of q m c = tabulate (size q m) (λ i. c (get_or (weights q m) i 0))

pub coefficient_of_message : (q m : ℕ) (c : ℕ → ℕ) (w : ℕ) → w ≤ m → is_term q w ≡ true → coefficient_of q (message_of q m c) w ≡ c w
unfolding message_of
coefficient_of_message q m c w l t =
    get_or_tabulate (size q m) (λ i. c (get_or (weights q m) i 0)) (place (is_term q) w) (place_lt (is_term q) w (suc m) t (omega arith))
    ∙ ap c (passing_at (is_term q) (suc m) w t (omega arith))

pub value_of_message : (q m : ℕ) (c : ℕ → ℕ) (x y : ℕ) → value_at q m (message_of q m c) x y ≡ value_by_weight (field_of q) q m c x y
unfolding value_by_weight
value_of_message q m c x y =
    value_by_weight_lem q m (message_of q m c) x y
    ∙ sum_cong (suc m) (λ w. keep (is_term q w) ((field_of q).times (coefficient_of q (message_of q m c) w) (monomial q w x y)))
    (λ w. keep (is_term q w) ((field_of q).times (c w) (monomial q w x y)))
    (λ w l. keep_cong (is_term q w) λ t. ap (λ (a : ℕ). (field_of q).times a (monomial q w x y))
    (coefficient_of_message q m c w (omega arith) (T_true (is_term q w) t)))

pub vector_message : (q m Q : ℕ) (c : ℕ → ℕ) → ((w : ℕ) → c w < Q) → Vector Q (size q m) (message_of q m c)
unfolding message_of
vector_message q m Q c h = vector_tabulate Q (size q m) (λ i. c (get_or (weights q m) i 0)) (λ i l. h (get_or (weights q m) i 0))

-- a message whose coefficients by weight are 0 is all zeros
pub zero_message : (q m : ℕ) (message : List ℕ) → length message ≡ size q m
    → ((w : ℕ) → w ≤ m → T (is_term q w) → coefficient_of q message w ≡ 0) → (i : ℕ) → get_or message i 0 ≡ 0
zero_message q m message e h i = go (dec_lt i (size q m))
  where
    go : Dec (i < size q m) → get_or message i 0 ≡ 0
    go (yes l) =
        let r = at_place (is_term q) (suc m) i l in
        ap (λ (k : ℕ). get_or message k 0) (sym r.2) ∙ h (get_or (weights q m) i 0) (omega (arith, r.0)) (rw r.1 tt)
    go (no d) = get_or-eq_default message 0 (omega arith)
