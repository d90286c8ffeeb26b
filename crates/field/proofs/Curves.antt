-- The curves' numbers: which q are curves, their sizes, and what `Curve::of` says.
-- Assumes nothing.
use mathlib.Core.Bool.{Bool, true, false, cond, ◌||◌, false≢true}
use mathlib.Core.Logic.{◌⊎◌, inl, inr, ⊎_elim}
use mathlib.Core.Path.{◌≡◌, refl, sym, subst}
use Prim.Native.Nat.{ℕ, ◌+◌, ◌*◌, ◌^◌, ◌≤◌, ◌<◌}
use native.Mathlib.Omega.{arith}
use lib.Dec.{eqb}
use borrow.Author.Tests.{eqb-true}
use Rattle.field.specs.Curve.{is_curve, IsCurve, is_short, IsShort, bits_of, curve_of, named_of}
use Rattle.field.specs.declared.curve.Curve.{Curve}
use Rattle.std.specs.Prelude.{Option, Some, None}

-- what holds of 2, of 4 and of 8
pub each_curve : (P : ℕ → Type 0) → P 2 → P 4 → P 8 → (q : ℕ) → IsCurve q → P q
each_curve P a b c q (inl e) = subst P (sym e) a
each_curve P a b c q (inr (inl e)) = subst P (sym e) b
each_curve P a b c q (inr (inr e)) = subst P (sym e) c

-- what holds of 2 and of 4
pub each_short : (P : ℕ → Type 0) → P 2 → P 4 → (q : ℕ) → IsShort q → P q
each_short P a b q (inl e) = subst P (sym e) a
each_short P a b q (inr e) = subst P (sym e) b

pub short_curve : (q : ℕ) → IsShort q → IsCurve q
short_curve q (inl e) = inl e
short_curve q (inr e) = inr (inl e)

pub long_curve : IsCurve 8
long_curve = inr (inr refl)

pub short_not_long : (q : ℕ) → IsShort q → q ≡ 8 → ⊥
short_not_long = each_short (λ q. q ≡ 8 → ⊥) (λ e. omega arith) (λ e. omega arith)

pub curve_true : (q : ℕ) → IsCurve q → is_curve q ≡ true
curve_true = each_curve (λ q. is_curve q ≡ true) refl refl refl

pub curve_of_true : (q : ℕ) → is_curve q ≡ true → IsCurve q
curve_of_true q h = go (eqb q 2) (eqb q 4) (eqb q 8) (eqb-true q 2) (eqb-true q 4) (eqb-true q 8) h
  where
    go : (s t u : Bool) → (s ≡ true → q ≡ 2) → (t ≡ true → q ≡ 4) → (u ≡ true → q ≡ 8) → (s || (t || u)) ≡ true → IsCurve q
    go true t u f g k h = inl (f refl)
    go false true u f g k h = inr (inl (g refl))
    go false false true f g k h = inr (inr (k refl))
    go false false false f g k h = absurd (false≢true h)

pub short_true : (q : ℕ) → IsShort q → is_short q ≡ true
short_true = each_short (λ q. is_short q ≡ true) refl refl

pub short_of_true : (q : ℕ) → is_short q ≡ true → IsShort q
short_of_true q h = go (eqb q 2) (eqb q 4) (eqb-true q 2) (eqb-true q 4) h
  where
    go : (s t : Bool) → (s ≡ true → q ≡ 2) → (t ≡ true → q ≡ 4) → (s || t) ≡ true → IsShort q
    go true t f g h = inl (f refl)
    go false true f g h = inr (g refl)
    go false false f g h = absurd (false≢true h)

-- ---- sizes

pub record Sizes (q : ℕ) : Type 0 where
  pub low : 1 < q
  pub high : q ≤ 8
  pub symbols : q * q ≤ 64
  pub points : q * q * q ≤ 512
  pub grid : q * (q * q) ≡ q * q * q
  pub size : 2 ^ bits_of q ≡ q * q

pub sizes : (q : ℕ) → IsCurve q → Sizes q
sizes =
    each_curve Sizes
    (record { low = omega arith; high = omega arith; symbols = omega arith; points = omega arith; grid = refl; size = refl })
    (record { low = omega arith; high = omega arith; symbols = omega arith; points = omega arith; grid = refl; size = refl })
    (record { low = omega arith; high = omega arith; symbols = omega arith; points = omega arith; grid = refl; size = refl })

-- of short blocks
pub record ShortSizes (q : ℕ) : Type 0 where
  pub high : q ≤ 4
  pub symbols : q * q ≤ 16
  pub points : q * q * q ≤ 64

pub short_sizes : (q : ℕ) → IsShort q → ShortSizes q
short_sizes =
    each_short ShortSizes
    (record { high = omega arith; symbols = omega arith; points = omega arith })
    (record { high = omega arith; symbols = omega arith; points = omega arith })

-- q is even
pub curve_even : (q : ℕ) → IsCurve q → (h : ℕ) × (q ≡ h + h) × (1 ≤ h) × (h ≤ 8)
curve_even =
    each_curve (λ q. (h : ℕ) × (q ≡ h + h) × (1 ≤ h) × (h ≤ 8))
    (1, refl, omega arith, omega arith) (2, refl, omega arith, omega arith) (4, refl, omega arith, omega arith)

-- and so is q·q
pub square_even : (q : ℕ) → IsCurve q → (h : ℕ) × (q * q ≡ h + h) × (1 ≤ h)
square_even = each_curve (λ q. (h : ℕ) × (q * q ≡ h + h) × (1 ≤ h)) (2, refl, omega arith) (8, refl, omega arith) (32, refl, omega arith)

-- a field has two symbols at least
pub two_symbols : (q : ℕ) → IsCurve q → 1 < q * q
two_symbols = each_curve (λ q. 1 < q * q) (omega arith) (omega arith) (omega arith)

-- a symbol of any q, a curve's number or not, is below 64
pub size_le : (q : ℕ) → 2 ^ bits_of q ≤ 64
size_le q = go (eqb q 2) (eqb q 8)
  where
    go : (t u : Bool) → 2 ^ cond t 2 (cond u 6 4) ≤ 64
    go true u = omega arith
    go false true = omega arith
    go false false = omega arith

-- ---- the constructor by q

named_cases : (q : ℕ) (n : Option Curve) (t : Bool) → is_curve q ≡ t → cond t (Some (curve_of q)) None ≡ n
    → (IsCurve q × (n ≡ Some (curve_of q))) ⊎ ((is_curve q ≡ false) × (n ≡ None))
named_cases q n true e f = inl (curve_of_true q e, sym f)
named_cases q n false e f = inr (e, sym f)

named_or_not : (q : ℕ) (n : Option Curve) → named_of q ≡ n → (IsCurve q × (n ≡ Some (curve_of q))) ⊎ ((is_curve q ≡ false) × (n ≡ None))
named_or_not q n f = named_cases q n (is_curve q) refl f

pub unnamed : (q : ℕ) → named_of q ≡ None → is_curve q ≡ false
unnamed q e =
    ⊎_elim (λ h. let d : ◌≡◌ {A = Option Curve} None (Some (curve_of q)) = h.1 in let o : ◌≡◌ {A = ℕ} 0 1 = cc in absurd (omega arith)) (λ h. h.0)
    (named_or_not q None e)

pub named : (q : ℕ) (v : Curve) → named_of q ≡ Some v → IsCurve q × (v ≡ curve_of q)
named q v e =
    ⊎_elim (λ h. let d : Some v ≡ Some (curve_of q) = h.1 in (h.0, cc))
    (λ h. let d : Some v ≡ None = h.1 in let o : ◌≡◌ {A = ℕ} 0 1 = cc in absurd (omega arith))
    (named_or_not q (Some v) e)
