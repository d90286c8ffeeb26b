-- A polynomial of order at most m with more than m zeros is zero.
-- Assumes nothing.
use mathlib.Core.Path.{◌≡◌, sym, ap, ◌∙◌}
use mathlib.Core.Bool.{Bool, true}
use mathlib.Core.Logic.{◌≢◌}
use Prim.Native.Nat.{ℕ, zero, suc, ◌≤◌, ◌<◌}
use native.Mathlib.Decide.{ℕ_discrete}
use native.Mathlib.Omega.{arith}
use lib.Dec.{T}
use Rattle.field.specs.Plus.{plus}
use Rattle.field.specs.Field.{Field}
use Rattle.field.proofs.Plus.{plus_zero, eq_of_plus_zero}
use Rattle.field.proofs.FieldLaws.{zero_times, times_cancel}
use Rattle.poly.specs.Lists.{count, below}
use Rattle.poly.proofs.Below.{Among, among_suc}
use Rattle.poly.proofs.Keep.{keep_pass, keep_zero}
use Rattle.poly.proofs.Span.{span_scale}
use Rattle.poly.proofs.SpanDimension.{Spanned}
use Rattle.poly.proofs.OrderDomain.{OrderDomain, zeros_le}
use Rattle.poly.proofs.OrderValues.{value, value_suc, value_order}

module _ {F : Field} {n : ℕ} (X : OrderDomain F n) where
  open F use {size, times, inverse}
  open X use {is_weight, term, term_lt}

  module _ (k : ℕ) (all : Spanned F n term (λ t. true) is_weight k) (z : ℕ → Bool) (c : ℕ → ℕ) (cl : (w : ℕ) → c w < size) where
    -- the highest coefficient is 0: else the zeros would make its term a polynomial of lower order
    top_zero : (m : ℕ) → m < count z (below n) → ((t : ℕ) → Among z n t → value X (suc m) c t ≡ 0) → T (is_weight m) → c m ≡ 0
    top_zero m l v wm = go (ℕ_discrete (c m) 0)
      where
        lower : c m ≢ 0 → (t : ℕ) → Among z n t → term m t ≡ times (inverse (c m)) (value X m c t)
        lower e t h = rw vanish (sym (times_cancel F (c m) (term m t) (cl m) e (term_lt m t)))
          where
            vanish : value X m c t ≡ times (c m) (term m t)
            vanish = eq_of_plus_zero _ _ (ap (plus (value X m c t)) (sym (keep_pass (is_weight m) _ wm)) ∙ sym (value_suc X m c t) ∙ v t h)

        go : Dec (c m ≡ 0) → c m ≡ 0
        go (yes e) = e
        go (no e) = absurd (omega (arith, zeros_le X m wm (span_scale (inverse (c m)) (value_order X m c)) z (lower e) k all))

    pub zeros : (m : ℕ) → m ≤ count z (below n) → ((t : ℕ) → Among z n t → value X m c t ≡ 0) → (w : ℕ) → Among is_weight m w → c w ≡ 0
    zeros zero l v w h = absurd (omega arith)
    zeros (suc m) l v w h = among_suc is_weight m _ (zeros m (omega arith) lower) top w h
      where
        top : T (is_weight m) → c m ≡ 0
        top = top_zero m l v

        lower : (t : ℕ) → Among z n t → value X m c t ≡ 0
        lower t h = sym (rw (value_suc X m c t, keep_zero (is_weight m) (times (c m) (term m t)) (λ wm. rw (top wm, zero_times F)), plus_zero)) ∙ v t h
