-- A homogeneous linear system of fewer equations than unknowns has a solution that is not zero.
-- Assumes nothing.
use mathlib.Core.Path.{◌≡◌, sym, ap, ◌∙◌}
use mathlib.Core.Logic.{◌⊎◌, inl, inr}
use mathlib.Core.List.{List}
use Prim.Native.Nat.{ℕ, zero, suc, ◌<◌}
use native.Mathlib.Nat.{le_refl}
use native.Mathlib.Decide.{ℕ_discrete}
use native.Mathlib.Omega.{arith}
use Rattle.field.specs.Plus.{plus}
use Rattle.field.specs.Field.{Field}
use Rattle.field.proofs.Plus.{plus_self, eq_of_plus_zero}
use Rattle.poly.specs.Messages.{Vector, all}
use Rattle.poly.specs.Inner.Linear.{entry, dot}
use Rattle.poly.proofs.Lists.{find}
use Rattle.poly.proofs.Messages.{mem_all, of_mem_all, tabulate, get_or_tabulate, vector_tabulate, vector_ext}
use Rattle.poly.proofs.Linear.{dot_lt, dot_local, dot_plus_vector}
use Rattle.poly.proofs.Dimension.{injective_le}

-- f is not 0 at a number below n; f is 0 below n
abbrev pub Nonzero : ℕ → (ℕ → ℕ) → Type 0
Nonzero n f = (i : ℕ) × (i < n) × (f i ≡ 0 → ⊥)

abbrev pub Zero : ℕ → (ℕ → ℕ) → Type 0
Zero n f = (i : ℕ) → i < n → f i ≡ 0

pub nonzero_or_zero : (n : ℕ) (f : ℕ → ℕ) → Nonzero n f ⊎ Zero n f
nonzero_or_zero zero f = inr (λ i l. absurd (omega arith))
nonzero_or_zero (suc n) f = go (ℕ_discrete (f n) 0) (nonzero_or_zero n f)
  where
    go : Dec (f n ≡ 0) → Nonzero n f ⊎ Zero n f → Nonzero (suc n) f ⊎ Zero (suc n) f
    go (no d) r = inl (n, le_refl (suc n), d)
    go (yes e) (inl w) = inl (w.0, omega (arith, w.1), w.2)
    go (yes e) (inr z) = inr (λ i l. elim (ℕ_discrete i n) [ yes a ↦ ap f a ∙ e | no a ↦ z i (omega arith) ])

module _ (F : Field) (m n : ℕ) (row : ℕ → ℕ → ℕ) where
  -- the value of form i at v, and the list of all m
  form : List ℕ → ℕ → ℕ
  form v i = dot F n (row i) (entry v)

  values : List ℕ → List ℕ
  values v = tabulate m (form v)

  abbrev Kernel : List ℕ → Type 0
  Kernel v = Zero m (form v)

  -- v is in the kernel and not zero; or it is zero, if it is in the kernel
  test : (v : List ℕ) → (Kernel v × Nonzero n (entry v)) ⊎ (Kernel v → Zero n (entry v))
  test v = go (nonzero_or_zero m (form v)) (nonzero_or_zero n (entry v))
    where
      go : Nonzero m (form v) ⊎ Kernel v → Nonzero n (entry v) ⊎ Zero n (entry v)
          → (Kernel v × Nonzero n (entry v)) ⊎ (Kernel v → Zero n (entry v))
      go (inl w) r = inr (λ z. absurd (w.2 (z w.0 w.1)))
      go (inr z) (inl w) = inl (z, w)
      go (inr z) (inr y) = inr (λ a. y)

  -- a linear map with no kernel is injective
  injective : ((v : List ℕ) → Vector F.size n v → Kernel v → Zero n (entry v))
      → (v w : List ℕ) → Vector F.size n v → Vector F.size n w → values v ≡ values w → v ≡ w
  unfolding values form
  injective trivial v w hv hw e =
      vector_ext F.size n v w hv hw (λ j l. eq_of_plus_zero (entry v j) (entry w j) (sym (get_or_tabulate n difference j l) ∙ nought j l))
    where
      difference : ℕ → ℕ
      difference j = plus (entry v j) (entry w j)

      same : (i : ℕ) → i < m → form v i ≡ form w i
      same i l = sym (get_or_tabulate m (form v) i l) ∙ ap (λ (u : List ℕ). entry u i) e ∙ get_or_tabulate m (form w) i l

      nought : Zero n (entry (tabulate n difference))
      nought =
          trivial (tabulate n difference) (vector_tabulate F.size n difference (λ j l. F.plus_lt _ _ (hv.small j l) (hw.small j l)))
          (λ i l.
          dot_local F n (row i) (entry (tabulate n difference)) difference (get_or_tabulate n difference)
          ∙ dot_plus_vector F n (row i) (entry v) (entry w) ∙ ap (λ (x : ℕ). plus x (form w i)) (same i l) ∙ plus_self (form w i))

  -- MORE UNKNOWNS THAN EQUATIONS
  pub nonzero_solution : m < n
      → (v : List ℕ) × Vector F.size n v × ((i : ℕ) → i < m → dot F n (row i) (entry v) ≡ 0) × Nonzero n (entry v)
  unfolding values form
  nonzero_solution l = elim (find (λ v. Kernel v × Nonzero n (entry v)) (λ v. Kernel v → Zero n (entry v)) test (all F.size n)) [
    | inl w ↦ (w.0, of_mem_all F.size n w.0 w.1, w.2.0, w.2.1)
    | inr none ↦
        absurd (omega (
          arith,
          injective_le F.size F.two_le n m values
              (λ v h. vector_tabulate F.size m (form v) (λ i b. dot_lt F n (row i) (entry v)))
              (injective (λ v h. none v (mem_all F.size n v h))),
        ))
  ]
