-- The loops that test whether the sums against terms are 0, over any curve and any sums: one power of x after another, and one power of y
-- after another.
-- Assumes nothing.
use mathlib.Core.Bool.{Bool, true, false, false≢true}
use mathlib.Core.Path.{◌≡◌, refl, sym, ap, ◌∙◌}
use Prim.Native.Nat.{ℕ, suc, ◌+◌, ◌*◌, ◌≤◌, ◌<◌}
use native.Mathlib.Nat.{mul-suc, mul-zero, mul-le-mul_left}
use native.Mathlib.Decide.{ℕ_discrete, dec_lt}
use native.Mathlib.Omega.{arith}
use borrow.Author.Tests.{eqb-true, eq-eqb}
use lib.Dec.{eqb}
use Rattle.dual.specs.Inner.StagedSums.{PowersVanish, TermsVanish, Tells}

-- ---- what is told

pub tells_true : {claim : Type 0} → claim → Tells true claim
tells_true h = (λ e. h, λ k. refl)

pub tells_false : {claim : Type 0} → (claim → ⊥) → Tells false claim
tells_false d = (λ e. absurd (false≢true e), λ k. absurd (d k))

pub tells_same : {a b : Type 0} (t : Bool) → (a → b) → (b → a) → Tells t a → Tells t b
tells_same t f g h = (λ e. f (h.0 e), λ k. h.1 (g k))

-- ---- a row: the powers of x that go with y^j

module _ (q m j : ℕ) (f : ℕ → ℕ) where
  -- the sums of the powers below i are 0, those of terms of the order m
  abbrev pub TestedBelow : ℕ → Type 0
  TestedBelow i = (k : ℕ) → k < i → q * k + suc q * j ≤ m → f k ≡ 0

  -- w is the weight of x^i·y^j, all before it have been tested, and what is kept is that of i
  pub record RowTested (Kept : ℕ → Type 0) (w : ℕ) : Type 0 where
    pub i : ℕ
    pub weight : w ≡ q * i + suc q * j
    pub below : TestedBelow i
    pub kept : Kept i

  module _ (Kept : ℕ → Type 0) where
    pub row_none : (w : ℕ) → w ≡ suc q * j → Kept 0 → RowTested Kept w
    row_none w e kept = record { i = 0; weight = omega (arith, mul-zero q); below = λ k a b. absurd (omega arith); kept = kept }

    module _ (w : ℕ) (h : RowTested Kept w) where
      -- u is the next sum
      module _ (u : ℕ) (is_u : u ≡ f h.i) where
        pub row_more : u ≡ 0 → (Next : ℕ → Type 0) → Next (suc h.i) → RowTested Next (w + q)
        row_more z Next kept =
            record { i = suc h.i; weight = omega (arith, h.weight, mul-suc q h.i); below = λ k a b. go k a b (ℕ_discrete k h.i); kept = kept }
          where
            go : (k : ℕ) → k < suc h.i → q * k + suc q * j ≤ m → Dec (k ≡ h.i) → f k ≡ 0
            go k a b (yes e) = ap f e ∙ sym is_u ∙ z
            go k a b (no d) = h.below k (omega arith) b

        pub row_fails : w ≤ m → (u ≡ 0 → ⊥) → Tells false (PowersVanish q m j f)
        row_fails l d = tells_false (λ vanish. d (is_u ∙ vanish h.i (omega (arith, h.weight))))

        -- no other is of the order m
        pub row_last : w ≤ m → m < w + q → Tells (eqb u 0) (PowersVanish q m j f)
        row_last l b = (
          λ e k a. go (eqb-true u 0 e) k a (dec_lt k h.i),
          λ vanish. eq-eqb u 0 (is_u ∙ vanish h.i (omega (arith, h.weight))),
        )
          where
            go : u ≡ 0 → (k : ℕ) → q * k + suc q * j ≤ m → Dec (k < h.i) → f k ≡ 0
            go z k a (yes c) = h.below k c a
            go z k a (no c) = elim (ℕ_discrete k h.i) [
              | yes e ↦ ap f e ∙ sym is_u ∙ z
              | no d ↦ let next : suc h.i ≤ k = omega arith in absurd (omega (arith, h.weight, mul-suc q h.i, mul-le-mul_left q next))
            ]

      -- the next isn't of the order m
      pub row_passed : m < w → Tells true (PowersVanish q m j f)
      row_passed l = tells_true (λ k a. elim (dec_lt k h.i) [
        | yes c ↦ h.below k c a
        | no c ↦ let from : h.i ≤ k = omega arith in absurd (omega (arith, h.weight, mul-le-mul_left q from))
      ])

-- ---- the rows

module _ (q m : ℕ) (f : ℕ → ℕ → ℕ) where
  -- the sums of the powers of y below n are 0
  abbrev pub RowsBelow : ℕ → Type 0
  RowsBelow n = (j : ℕ) → j < n → PowersVanish q m j (λ i. f i j)

  pub rows_none : RowsBelow 0
  rows_none j l = absurd (omega arith)

  module _ (n : ℕ) (h : RowsBelow n) where
    pub rows_more : (b : Bool) → Tells b (PowersVanish q m n (λ i. f i n)) → b ≡ true → RowsBelow (n + 1)
    rows_more b told e j l = elim (ℕ_discrete j n) [
      | yes d ↦ λ i a. ap (f i) d ∙ told.0 e i (omega (arith, ap (λ (x : ℕ). suc q * x) d))
      | no d ↦ h j (omega arith)
    ]

    pub rows_failed : n < q → (b : Bool) → Tells b (PowersVanish q m n (λ i. f i n)) → b ≡ false → Tells false (TermsVanish q m f)
    rows_failed l b told e = tells_false (λ vanish. false≢true (sym e ∙ told.1 (vanish n l)))

    pub rows_all : q ≤ n → Tells true (TermsVanish q m f)
    rows_all l = tells_true (λ j a. h j (omega arith))
