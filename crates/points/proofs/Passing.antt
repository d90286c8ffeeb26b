-- The laws of the numbers that pass a test. The place of a number is how many before it pass.
-- Assumes nothing.
use mathlib.Core.Bool.{Bool, true, false, cond}
use mathlib.Core.Logic.{◌⊎◌, inl, inr}
use mathlib.Core.List.Memᴰ.{not-nil}
use mathlib.Core.List.{[], ◌∷◌, ◌++◌, append-nil, Memᴰ as Mem}
use mathlib.Core.List.Memᴰ.{append_cases}
use mathlib.Core.List.Memᴰ.{eq_of_singleton}
use mathlib.Core.Path.{◌≡◌, refl, sym, ap, ◌∙◌, subst}
use Prim.Native.Nat.{ℕ, zero, suc, ◌≤◌, ◌<◌}
use native.Mathlib.Decide.{le_ind, dec_lt, ℕ_discrete}
use native.Mathlib.Nat.{le_refl}
use native.Mathlib.Omega.{arith}
use lib.ListN.{length, get_or, length-append, get_or-append}
use lib.Seq.{get_or-append_seam}
use Rattle.poly.specs.Lists.{Nodup}
use Rattle.poly.proofs.Bools.{true_or_false}
use Rattle.poly.proofs.Lists.{nodup_append, mem_get_or}
use Rattle.points.specs.Passing.{passing}

module _ (p : ℕ → Bool) where
  abbrev pub place : ℕ → ℕ
  place w = length (passing p w)

  pub passing_true : (n : ℕ) → p n ≡ true → passing p (suc n) ≡ passing p n ++ (n ∷ [])
  unfolding passing
  passing_true n e = rw e

  pub passing_false : (n : ℕ) → p n ≡ false → passing p (suc n) ≡ passing p n
  unfolding passing
  passing_false n e = rw e (append-nil (passing p n))

  pub place_true : (n : ℕ) → p n ≡ true → place (suc n) ≡ suc (place n)
  place_true n e = rw (passing_true n e, length-append (passing p n) (n ∷ [])) (omega arith)

  pub place_false : (n : ℕ) → p n ≡ false → place (suc n) ≡ place n
  place_false n e = ap length (passing_false n e)

  place_step : (n : ℕ) → place n ≤ place (suc n)
  place_step n = elim (true_or_false (p n)) [ inl e ↦ omega (arith, place_true n e) | inr e ↦ omega (arith, place_false n e) ]

  pub place_le : (w n : ℕ) → w ≤ n → place w ≤ place n
  place_le w n l = le_ind (λ (k : ℕ). place w ≤ place k) (le_refl (place w)) (λ k a ih. omega (arith, place_step k)) n l

  pub place_lt : (w n : ℕ) → p w ≡ true → w < n → place w < place n
  place_lt w n e l = omega (arith, place_true w e, place_le (suc w) n l)

  -- the number at its place
  pub passing_at : (n w : ℕ) → p w ≡ true → w < n → get_or (passing p n) (place w) 0 ≡ w
  passing_at zero w e l = absurd (omega arith)
  passing_at (suc n) w e l = go (ℕ_discrete w n) (true_or_false (p n)) (λ k. passing_at n w e k)
    where
      go : Dec (w ≡ n) → (p n ≡ true) ⊎ (p n ≡ false) → (w < n → get_or (passing p n) (place w) 0 ≡ w)
          → get_or (passing p (suc n)) (place w) 0 ≡ w
      go (yes h) (inl f) ih = rw (h, passing_true n f) (get_or-append_seam (passing p n) n [] 0)
      go (yes h) (inr f) ih = let z : ◌≡◌ {A = Bool} true false = sym e ∙ ap p h ∙ f in let o : ◌≡◌ {A = ℕ} 0 1 = cc in absurd (omega arith)
      go (no d) (inl f) ih =
          rw (passing_true n f, get_or-append (passing p n) (n ∷ []) 0 (place w) (place_lt w n e (omega arith))) (ih (omega arith))
      go (no d) (inr f) ih = rw (passing_false n f) (ih (omega arith))

  nothing_below_zero : (i : ℕ) → i < place zero → ⊥
  unfolding passing
  nothing_below_zero i l = omega arith

  -- each place below the count is that of a number
  pub placed : (n i : ℕ) → i < place n → (w : ℕ) × (w < n) × (p w ≡ true) × (place w ≡ i)
  placed (suc n) i l = go (ℕ_discrete i (place n)) (true_or_false (p n)) (λ k. placed n i k)
    where
      go : Dec (i ≡ place n) → (p n ≡ true) ⊎ (p n ≡ false) → (i < place n → (w : ℕ) × (w < n) × (p w ≡ true) × (place w ≡ i))
          → (w : ℕ) × (w < suc n) × (p w ≡ true) × (place w ≡ i)
      go (yes h) (inl f) ih = (n, omega arith, f, sym h)
      go (no d) (inl f) ih = let r = ih (omega (arith, place_true n f)) in (r.0, omega (arith, r.1), r.2, r.3)
      go d (inr f) ih = let r = ih (omega (arith, place_false n f)) in (r.0, omega (arith, r.1), r.2, r.3)
  placed zero i l = absurd (nothing_below_zero i l)

  -- what stands at a place passes, is below the bound, and has that place
  pub at_place : (n i : ℕ) → i < place n
      → (get_or (passing p n) i 0 < n) × (p (get_or (passing p n) i 0) ≡ true) × (place (get_or (passing p n) i 0) ≡ i)
  at_place n i l =
      let r = placed n i l in
      let e : get_or (passing p n) i 0 ≡ r.0 = ap (λ (k : ℕ). get_or (passing p n) k 0) (sym r.3) ∙ passing_at n r.0 r.2 r.1 in
      (rw e r.1, rw e r.2, rw e r.3)

  -- so the list ascends, and no number stands twice
  pub ascending : (n i j : ℕ) → i < j → j < place n → get_or (passing p n) i 0 < get_or (passing p n) j 0
  ascending n i j l m =
      let a = at_place n i (omega arith) in
      let b = at_place n j m in
      elim (dec_lt (get_or (passing p n) i 0) (get_or (passing p n) j 0)) [
        | yes h ↦ h
        | no d ↦ absurd (omega (arith, a.2, b.2, place_le (get_or (passing p n) j 0) (get_or (passing p n) i 0) (omega arith)))
      ]

  -- at most n numbers below n pass
  pub place_bound : (n : ℕ) → place n ≤ n
  place_bound zero = elim (dec_lt 0 (place 0)) [ yes l ↦ absurd (nothing_below_zero 0 l) | no d ↦ omega arith ]
  place_bound (suc n) =
      elim (true_or_false (p n))
      [ inl e ↦ omega (arith, place_true n e, place_bound n) | inr e ↦ omega (arith, place_false n e, place_bound n) ]

  -- the list as a set
  pub of_mem_passing : (n w : ℕ) → Mem w (passing p n) → (w < n) × (p w ≡ true)
  unfolding passing
  of_mem_passing zero w m = absurd (not-nil m)
  of_mem_passing (suc n) w m = go (p n) refl (append_cases (passing p n) m) (of_mem_passing n w)
    where
      go : (b : Bool) → p n ≡ b → Mem w (passing p n) ⊎ Mem w (cond b (n ∷ []) []) → (Mem w (passing p n) → (w < n) × (p w ≡ true))
          → (w < suc n) × (p w ≡ true)
      go b e (inl k) ih = let r = ih k in (omega (arith, r.0), r.1)
      go true e (inr k) ih = let h = eq_of_singleton k in (omega arith, rw h e)
      go false e (inr k) ih = absurd (not-nil k)

  pub mem_passing : (n w : ℕ) → p w ≡ true → w < n → Mem w (passing p n)
  mem_passing n w t l = subst (λ (x : ℕ). Mem x (passing p n)) (passing_at n w t l) (mem_get_or (passing p n) 0 (place w) (place_lt w n t l))

  pub nodup_passing : (n : ℕ) → Nodup (passing p n)
  unfolding passing
  nodup_passing zero = tt
  nodup_passing (suc n) =
      nodup_append (passing p n) (cond (p n) (n ∷ []) []) (nodup_passing n) (go (p n))
      λ w k l. omega (arith, (of_mem_passing n w k).0, last (p n) w l)
    where
      go : (b : Bool) → Nodup (cond b (n ∷ []) [])
      go true = (not-nil, tt)
      go false = tt

      last : (b : Bool) (w : ℕ) → Mem w (cond b (n ∷ []) []) → w ≡ n
      last true w k = eq_of_singleton k
      last false w k = absurd (not-nil k)
