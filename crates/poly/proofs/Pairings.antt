-- The sum of products as a pairing of two vectors: it can be turned round, and taken term by term where a vector is a sum of multiples of
-- others.
-- Assumes nothing.
use mathlib.Core.Path.{◌≡◌, sym, ◌∙◌}
use Prim.Native.Nat.{ℕ}
use Rattle.field.specs.Field.{Field}
use Rattle.field.specs.Sum.{sum}
use Rattle.field.proofs.Sums.{sum_cong, sum_swap, sum_scale, sum_scale_right}
use Rattle.poly.specs.Inner.Linear.{dot}

module _ (F : Field) where
  pub dot_comm : (n : ℕ) (r v : ℕ → ℕ) → dot F n r v ≡ dot F n v r
  unfolding dot
  dot_comm n r v = sum_cong n (λ j. F.times (r j) (v j)) (λ j. F.times (v j) (r j)) (λ j l. F.times_comm (r j) (v j))

  -- against the sum of the k vectors t 0, t 1, .., each times its coefficient
  pub dot_terms : (n k : ℕ) (r : ℕ → ℕ) (t : ℕ → ℕ → ℕ) (c : ℕ → ℕ)
      → dot F n r (λ j. dot F k (λ u. t u j) c) ≡ dot F k (λ u. dot F n r (t u)) c
  unfolding dot
  dot_terms n k r t c =
      sum_cong n (λ j. F.times (r j) (sum k (λ u. F.times (t u j) (c u)))) (λ j. sum k (λ u. F.times (F.times (r j) (t u j)) (c u)))
      (λ j l. sym (sum_scale F k (r j) (λ u. F.times (t u j) (c u)))
      ∙ sum_cong k (λ u. F.times (r j) (F.times (t u j) (c u))) (λ u. F.times (F.times (r j) (t u j)) (c u))
      (λ u m. sym (F.times_assoc (r j) (t u j) (c u))))
      ∙ sum_swap n k (λ j u. F.times (F.times (r j) (t u j)) (c u))
      ∙ sum_cong k (λ u. sum n (λ j. F.times (F.times (r j) (t u j)) (c u))) (λ u. F.times (sum n (λ j. F.times (r j) (t u j))) (c u))
      (λ u m. sum_scale_right F n (c u) (λ j. F.times (r j) (t u j)))
