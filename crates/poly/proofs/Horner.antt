-- Horner's rule at sixteen places at once: where the loop begins, a turn from i to i - 1, and where it ends.
-- Assumes nothing.
use mathlib.Core.List.{List}
use mathlib.Core.Path.{◌≡◌, refl, sym, ap, ◌∙◌}
use Prim.Native.Nat.{ℕ, ◌+◌, ◌-◌, ◌*◌, ◌≤◌, ◌<◌}
use native.Mathlib.Nat.{mul-suc, mul-le-mul_left}
use native.Mathlib.Decide.{ℕ_discrete}
use native.Mathlib.Omega.{arith}
use lib.ListN.{get_or, replicate, length-replicate, get_or-replicate}
use Rattle.field.specs.Plus.{plus}
use Rattle.field.specs.Field.{Field}
use Rattle.field.proofs.Plus.{zero_plus}
use Rattle.field.proofs.FieldLaws.{zero_times}
use Rattle.poly.specs.Inner.Ranges.{Below}
use Rattle.poly.specs.Inner.Linear.{entry}
use Rattle.poly.specs.Inner.Lanes.{lanes}
use Rattle.poly.specs.Inner.Polynomials.{value, Terms}
use Rattle.poly.proofs.LaneLaws.{lanes_at, lanes_below, is_lanes, lanes_cong}
use Rattle.poly.proofs.Values.{value_lt, horner_none, horner_more, horner_all}

-- dropping the zeros at the end: all coefficients, and one fewer
pub terms_all : (f : ℕ → ℕ) (count : ℕ) → 1 ≤ count → Terms f count count
terms_all f count some = record { some = some; within = omega arith; zeros = λ i a b. absurd (omega arith) }

pub terms_turn : (f : ℕ → ℕ) (count i : ℕ) → Terms f count i → 1 < i → f (i - 1) ≡ 0 → Terms f count (i - 1)
terms_turn f count i h more e =
    record {
      some = omega arith;
      within = omega (arith, h.within);
      zeros = λ k a b. elim (ℕ_discrete k (i - 1)) [ yes d ↦ ap f d ∙ e | no d ↦ h.zeros k (omega arith) b ];
    }

-- coefficient k, of those that stand stride apart from start on
abbrev pub coefficient : List ℕ → ℕ → ℕ → ℕ → ℕ
coefficient list start stride k = get_or list (stride * k + start) 0

pub coefficient_lt : (stride start i count n : ℕ) → i < count → start < stride → stride * count ≤ n → stride * i + start < n
coefficient_lt stride start i count n h small fits = omega (arith, mul-suc stride i, mul-le-mul_left stride h)

-- ---- in lanes: one polynomial f of n coefficients at sixteen places

-- the values of the coefficients from i on
abbrev pub ahead : Field → ℕ → (ℕ → ℕ) → ℕ → List ℕ → List ℕ
ahead F n f i places = lanes (λ t. value F (n - i) (λ k. f (i + k)) (entry places t))

module _ (F : Field) (n : ℕ) (f : ℕ → ℕ) (places : List ℕ) where
  pub ahead_below : (i : ℕ) → Below F.size (ahead F n f i places)
  ahead_below i = lanes_below _ F.size (λ t l. value_lt F (n - i) (λ k. f (i + k)) (entry places t))

  pub ahead_first : 1 ≤ n → f (n - 1) < F.size → replicate 16 (f (n - 1)) ≡ ahead F n f (n - 1) places
  ahead_first some small =
      let c = f (n - 1) in
      is_lanes (λ t. value F (n - (n - 1)) (λ k. f (n - 1 + k)) (entry places t)) (replicate 16 c) (length-replicate 16 c)
      (λ t l.
      let x = entry places t in
      get_or-replicate 16 t c 0 l ∙ sym (ap (λ (v : ℕ). plus v c) (zero_times F x) ∙ zero_plus c)
      ∙ horner_more F n n f x 0 some (omega arith) small (horner_none F n (λ k. f (n + k)) x))

  pub ahead_turn : (i : ℕ) (now new : List ℕ) → 0 < i → i < n → f (i - 1) < F.size → now ≡ ahead F n f i places
      → new ≡ lanes (λ t. plus (F.times (entry places t) (entry now t)) (f (i - 1))) → new ≡ ahead F n f (i - 1) places
  ahead_turn i now new pos within small is e =
      e
      ∙ lanes_cong (λ t. plus (F.times (entry places t) (entry now t)) (f (i - 1)))
      (λ t. value F (n - (i - 1)) (λ k. f (i - 1 + k)) (entry places t))
      (λ t l.
      let x = entry places t in
      ap (λ (v : ℕ). plus v (f (i - 1))) (F.times_comm x (entry now t))
      ∙ horner_more F n i f x (entry now t) pos (omega arith) small
      (ap (λ (s : List ℕ). entry s t) is ∙ lanes_at (λ t. value F (n - i) (λ k. f (i + k)) (entry places t)) t l))

  pub ahead_all : (i : ℕ) (now : List ℕ) → i ≤ 0 → now ≡ ahead F n f i places → now ≡ lanes (λ t. value F n f (entry places t))
  ahead_all i now z is =
      is ∙ lanes_cong (λ t. value F (n - i) (λ k. f (i + k)) (entry places t)) (λ t. value F n f (entry places t))
      (λ t l. horner_all F n i f (entry places t) (value F (n - i) (λ k. f (i + k)) (entry places t)) z refl)
