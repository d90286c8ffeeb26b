-- The laws of linear forms: they are linear in the row and in the vector; and the row operations, which change no equation.
-- Assumes nothing.
use mathlib.Core.Path.{◌≡◌, sym, ap, ◌∙◌}
use mathlib.Core.Logic.{◌↔◌}
use Prim.Native.Nat.{ℕ, suc, ◌≤◌, ◌<◌}
use native.Mathlib.Omega.{arith}
use Rattle.field.specs.Plus.{plus}
use Rattle.field.specs.Field.{Field}
use Rattle.field.proofs.Plus.{plus_drop}
use Rattle.field.proofs.FieldLaws.{zero_times, plus_times, times_cancel}
use Rattle.field.proofs.Sums.{sum_none, sum_suc, sum_cong, sum_plus, sum_extend, sum_scale, sum_lt}
use Rattle.poly.specs.Inner.Linear.{dot}

module _ (F : Field) where
  pub dot_none : (r v : ℕ → ℕ) → dot F 0 r v ≡ 0
  unfolding dot
  dot_none r v = sum_none _

  pub dot_suc : (n : ℕ) (r v : ℕ → ℕ) → dot F (suc n) r v ≡ plus (dot F n r v) (F.times (r n) (v n))
  unfolding dot
  dot_suc n r v = sum_suc n _

  pub dot_lt : (n : ℕ) (r v : ℕ → ℕ) → dot F n r v < F.size
  unfolding dot
  dot_lt n r v = sum_lt F n _ (λ i l. F.times_lt (r i) (v i))

  -- only the coefficients and the coordinates below n count
  pub dot_cong : (n : ℕ) (r s v : ℕ → ℕ) → ((j : ℕ) → j < n → r j ≡ s j) → dot F n r v ≡ dot F n s v
  unfolding dot
  dot_cong n r s v h = sum_cong n _ _ (λ j l. ap (λ (a : ℕ). F.times a (v j)) (h j l))

  pub dot_local : (n : ℕ) (r v w : ℕ → ℕ) → ((j : ℕ) → j < n → v j ≡ w j) → dot F n r v ≡ dot F n r w
  unfolding dot
  dot_local n r v w h = sum_cong n _ _ (λ j l. ap (F.times (r j)) (h j l))

  -- coefficients past m that are zero do not count
  pub dot_extend : (m n : ℕ) (r v : ℕ → ℕ) → m ≤ n → ((j : ℕ) → m ≤ j → j < n → r j ≡ 0) → dot F n r v ≡ dot F m r v
  unfolding dot
  dot_extend m n r v l z = sum_extend m n _ l (λ j a b. ap (λ (c : ℕ). F.times c (v j)) (z j a b) ∙ zero_times F (v j))

  pub dot_zero : (n : ℕ) (r v : ℕ → ℕ) → ((j : ℕ) → j < n → r j ≡ 0) → dot F n r v ≡ 0
  dot_zero n r v z = dot_extend 0 n r v (omega arith) (λ j a. z j) ∙ dot_none r v

  -- linear in the row, and in the vector
  pub dot_plus_row : (n : ℕ) (r s v : ℕ → ℕ) → dot F n (λ j. plus (r j) (s j)) v ≡ plus (dot F n r v) (dot F n s v)
  unfolding dot
  dot_plus_row n r s v = sum_cong n _ _ (λ j l. plus_times F (r j) (s j) (v j)) ∙ sum_plus n _ _

  pub dot_scale_row : (n a : ℕ) (r v : ℕ → ℕ) → dot F n (λ j. F.times a (r j)) v ≡ F.times a (dot F n r v)
  unfolding dot
  dot_scale_row n a r v = sum_cong n _ _ (λ j l. F.times_assoc a (r j) (v j)) ∙ sum_scale F n a _

  pub dot_plus_vector : (n : ℕ) (r v w : ℕ → ℕ) → dot F n r (λ j. plus (v j) (w j)) ≡ plus (dot F n r v) (dot F n r w)
  unfolding dot
  dot_plus_vector n r v w = sum_cong n _ _ (λ j l. F.times_plus (r j) (v j) (w j)) ∙ sum_plus n _ _

  -- THE ROW OPERATION: to add a multiple of an equation that v meets changes nothing
  pub row_operation : (n a : ℕ) (r s : ℕ → ℕ) (b c : ℕ) (v : ℕ → ℕ) → dot F n s v ≡ c
      → (dot F n (λ j. plus (r j) (F.times a (s j))) v ≡ plus b (F.times a c)) ↔ (dot F n r v ≡ b)
  row_operation n a r s b c v e =
      (λ h. plus_drop (dot F n r v) b (F.times a c) (sym split ∙ h), λ h. split ∙ ap (λ (x : ℕ). plus x (F.times a c)) h)
    where
      split : dot F n (λ j. plus (r j) (F.times a (s j))) v ≡ plus (dot F n r v) (F.times a c)
      split = dot_plus_row n r _ v ∙ ap (plus (dot F n r v)) (dot_scale_row n a s v ∙ ap (F.times a) e)

  -- to multiply an equation by a factor that is not 0 changes nothing
  pub scale_operation : (n a : ℕ) (r : ℕ → ℕ) (b : ℕ) (v : ℕ → ℕ) → a < F.size → (a ≡ 0 → ⊥) → b < F.size
      → (dot F n (λ j. F.times a (r j)) v ≡ F.times a b) ↔ (dot F n r v ≡ b)
  scale_operation n a r b v l d h = (
    λ e.
        sym (times_cancel F a (dot F n r v) l d (dot_lt n r v)) ∙ ap (F.times (F.inverse a)) (sym (dot_scale_row n a r v) ∙ e)
        ∙ times_cancel F a b l d h,
    λ e. dot_scale_row n a r v ∙ ap (F.times a) e,
  )
