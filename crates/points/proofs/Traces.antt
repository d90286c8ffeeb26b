-- The y of the columns without a product: the values of y^q + y and of x^(q+1), each worked out once, and compared.
-- Assumes nothing.
use mathlib.Core.Bool.{Bool, true, false, cond}
use mathlib.Core.List.{List, [], ◌∷◌, ◌++◌}
use mathlib.Core.Path.{◌≡◌, refl, sym, ap, ap₂, ◌∙◌}
use Prim.Native.Nat.{ℕ, zero, suc, ◌+◌, ◌*◌, ◌/◌, ◌%◌, ◌≤◌, ◌<◌}
use native.Mathlib.Nat.{add-zero, add-suc, suc-add, zero-add}
use native.Mathlib.Omega.{arith}
use lib.Dec.{T, eqb}
use lib.ListN.{length, replicate, get_or, take, get_or-replicate}
use lib.Seq.{take-suc, take_all, length-take-le}
use Rattle.field.specs.Plus.{plus}
use Rattle.field.specs.Power.{power}
use Rattle.field.specs.Product.{times}
use Rattle.field.proofs.Fields.{field_of}
use Rattle.field.proofs.Table.{agrees, entry}
use Rattle.points.specs.Passing.{passing}
use Rattle.points.specs.Points.{on_curve, ys_of}

-- y^q + y
abbrev pub trace : ℕ → ℕ → ℕ
trace q y = plus (power (field_of q) y q) y

-- x^(q+1)
abbrev pub norm : ℕ → ℕ → ℕ
norm q x = power (field_of q) x (suc q)

-- the places, counted from i on, at which ts has a
abbrev pub hits : ℕ → ℕ → List ℕ → List ℕ
hits a i [] = []
hits a i (t ∷ ts) = elim (eqb t a) [ true ↦ i ∷ hits a (suc i) ts | false ↦ hits a (suc i) ts ]

hits_snoc : (a i t : ℕ) (ts : List ℕ) → hits a i (ts ++ (t ∷ [])) ≡ hits a i ts ++ cond (eqb t a) ((i + length ts) ∷ []) []
hits_snoc a i t [] = go (eqb t a)
  where
    go : (b : Bool) → (elim b as (λ _. List ℕ) [ true ↦ i ∷ [] | false ↦ [] ]) ≡ cond b ((i + 0) ∷ []) []
    go true = ap (λ (n : ℕ). n ∷ []) (sym (add-zero i))
    go false = refl
hits_snoc a i t (u ∷ ts) = go (eqb u a) (hits_snoc a (suc i) t ts ∙ ap (λ (n : ℕ). hits a (suc i) ts ++ cond (eqb t a) (n ∷ []) []) (suc-add i (length ts) ∙ sym (add-suc i (length ts))))
  where
    go : (b : Bool) → hits a (suc i) (ts ++ (t ∷ [])) ≡ hits a (suc i) ts ++ cond (eqb t a) ((i + suc (length ts)) ∷ []) []
        → (elim b as (λ _. List ℕ) [ true ↦ i ∷ hits a (suc i) (ts ++ (t ∷ [])) | false ↦ hits a (suc i) (ts ++ (t ∷ [])) ])
        ≡ (elim b as (λ _. List ℕ) [ true ↦ i ∷ hits a (suc i) ts | false ↦ hits a (suc i) ts ]) ++ cond (eqb t a) ((i + suc (length ts)) ∷ []) []
    go true ih = ap (λ (l : List ℕ). i ∷ l) ih
    go false ih = ih

passing_hits : (p : ℕ → Bool) (a : ℕ) (ts : List ℕ) → ((y : ℕ) → y < length ts → p y ≡ eqb (get_or ts y 0) a)
    → (n : ℕ) → n ≤ length ts → passing p n ≡ hits a 0 (take n ts)
unfolding passing
passing_hits p a ts h zero l = refl
passing_hits p a ts h (suc n) l =
    ap₂ (λ (u : List ℕ) (b : Bool). u ++ cond b (n ∷ []) []) (passing_hits p a ts h n (omega arith)) (h n l)
    ∙ sym (ap (hits a 0) (take-suc ts n 0 l) ∙ hits_snoc a 0 (get_or ts n 0) (take n ts)
    ∙ ap (λ (m : ℕ). hits a 0 (take n ts) ++ cond (eqb (get_or ts n 0) a) (m ∷ []) []) (zero-add (length (take n ts)) ∙ length-take-le n ts (omega arith)))

module _ (q : ℕ) (traces norms : List ℕ) (long : length traces ≡ q * q)
    (ts : T (agrees (trace q) 0 (q * q) traces)) (ns : T (agrees (norm q) 0 (q * q) norms)) where
  -- the y of a column, without a product
  pub ys_are_hits : (x : ℕ) → x < q * q → ys_of q x ≡ hits (get_or norms x 0) 0 traces
  unfolding ys_of
  ys_are_hits x l =
      passing_hits (on_curve q x) (get_or norms x 0) traces
      (λ y k. ap₂ eqb (sym (entry (trace q) (q * q) traces ts y (omega arith))) (sym (entry (norm q) (q * q) norms ns x l))) (q * q) (omega arith)
      ∙ ap (hits (get_or norms x 0) 0) (take_all (q * q) traces (omega arith))

-- ---- the curve for q = 8

unfoldable pub traces_8 : List ℕ
traces_8 = 0 ∷ 0 ∷ 14 ∷ 14 ∷ 23 ∷ 23 ∷ 25 ∷ 25 ∷ 25 ∷ 25 ∷ 23 ∷ 23 ∷ 14 ∷ 14 ∷ 0 ∷ 0 ∷ 25 ∷ 25 ∷ 23 ∷ 23 ∷ 14 ∷ 14 ∷ 0 ∷ 0 ∷ 0 ∷ 0 ∷ 14 ∷ 14 ∷ 23 ∷ 23 ∷ 25 ∷ 25 ∷ 15 ∷ 15 ∷ 1 ∷ 1 ∷ 24 ∷ 24 ∷ 22 ∷ 22 ∷ 22 ∷ 22 ∷ 24 ∷ 24 ∷ 1 ∷ 1 ∷ 15 ∷ 15 ∷ 22 ∷ 22 ∷ 24 ∷ 24 ∷ 1 ∷ 1 ∷ 15 ∷ 15 ∷ 15 ∷ 15 ∷ 1 ∷ 1 ∷ 24 ∷ 24 ∷ 22 ∷ 22 ∷ []

unfoldable pub norms_8 : List ℕ
norms_8 = 0 ∷ 1 ∷ 24 ∷ 23 ∷ 15 ∷ 25 ∷ 1 ∷ 25 ∷ 14 ∷ 22 ∷ 23 ∷ 1 ∷ 24 ∷ 23 ∷ 23 ∷ 22 ∷ 22 ∷ 14 ∷ 25 ∷ 15 ∷ 1 ∷ 14 ∷ 24 ∷ 25 ∷ 15 ∷ 14 ∷ 1 ∷ 14 ∷ 1 ∷ 23 ∷ 25 ∷ 1 ∷ 25 ∷ 23 ∷ 22 ∷ 22 ∷ 23 ∷ 14 ∷ 14 ∷ 25 ∷ 24 ∷ 15 ∷ 22 ∷ 15 ∷ 15 ∷ 15 ∷ 23 ∷ 25 ∷ 14 ∷ 25 ∷ 22 ∷ 15 ∷ 24 ∷ 24 ∷ 22 ∷ 24 ∷ 24 ∷ 22 ∷ 1 ∷ 1 ∷ 23 ∷ 14 ∷ 24 ∷ 15 ∷ []

traces_are : T (agrees (trace 8) 0 64 traces_8)
unfolding times power plus traces_8
traces_are = tt

norms_are : T (agrees (norm 8) 0 64 norms_8)
unfolding times power plus norms_8
norms_are = tt

traces_long : length traces_8 ≡ 64
unfolding traces_8
traces_long = refl

pub ys_8 : (x : ℕ) → x < 64 → ys_of 8 x ≡ hits (get_or norms_8 x 0) 0 traces_8
ys_8 = ys_are_hits 8 traces_8 norms_8 traces_long traces_are norms_are

counts : T (agrees (λ x. length (hits (get_or norms_8 x 0) 0 traces_8)) 0 64 (replicate 64 8))
unfolding traces_8 norms_8
counts = tt

pub length_ys_8 : (x : ℕ) → x < 64 → length (ys_of 8 x) ≡ 8
length_ys_8 x l = ap length (ys_8 x l) ∙ sym (entry (λ x. length (hits (get_or norms_8 x 0) 0 traces_8)) 64 (replicate 64 8) counts x l) ∙ get_or-replicate 64 x 8 0 l

-- the y at place p
abbrev pub fast_y : ℕ → ℕ
fast_y p = get_or (hits (get_or norms_8 (p / 8) 0) 0 traces_8) (p % 8) 0
