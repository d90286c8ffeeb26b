-- The places of a model that hold a symbol: a list of them, each once.
-- Assumes nothing.
use mathlib.Core.List.{List, [], ◌∷◌, Memᴰ as Mem}
use mathlib.Core.List.Memᴰ.{cases_cons}
use mathlib.Core.List.Memᴰ.{not-nil}
use mathlib.Core.Logic.{inl, inr}
use mathlib.Core.Path.{◌≡◌, refl, ap}
use Prim.Native.Nat.{ℕ, zero, suc, ◌+◌, ◌<◌}
use native.Mathlib.Omega.{arith}
use lib.ListN.{length, get_or}
use Rattle.poly.specs.Lists.{Nodup}
use Rattle.session.specs.ReferenceModel.{Model, missing, symbol, conflict, symbol_count}

pub symbol_place_lt : (model : Model) (p s r : ℕ) → get_or model p missing ≡ symbol s r → p < length model
symbol_place_lt [] p s r e = let z : ◌≡◌ {A = ℕ} 0 1 = cc in absurd (omega arith)
symbol_place_lt (o ∷ model) zero s r e = omega arith
symbol_place_lt (o ∷ model) (suc p) s r e = omega (arith, symbol_place_lt model p s r e)

-- those that hold a symbol, the first being place i
pub symbol_places : ℕ → Model → List ℕ
symbol_places i [] = []
symbol_places i (missing ∷ model) = symbol_places (suc i) model
symbol_places i (conflict r ∷ model) = symbol_places (suc i) model
symbol_places i (symbol s r ∷ model) = i ∷ symbol_places (suc i) model

pub length_symbol_places : (i : ℕ) (model : Model) → length (symbol_places i model) ≡ symbol_count model
unfolding symbol_places symbol_count
length_symbol_places i [] = refl
length_symbol_places i (missing ∷ model) = length_symbol_places (suc i) model
length_symbol_places i (conflict r ∷ model) = length_symbol_places (suc i) model
length_symbol_places i (symbol s r ∷ model) = ap suc (length_symbol_places (suc i) model)

pub of_mem_symbol_places : (i : ℕ) (model : Model) (p : ℕ) → Mem p (symbol_places i model)
    → (j : ℕ) × (s : ℕ) × (r : ℕ) × (p ≡ i + j) × (get_or model j missing ≡ symbol s r)
unfolding symbol_places
of_mem_symbol_places i [] p h = absurd (not-nil h)
of_mem_symbol_places i (missing ∷ model) p h =
    let w = of_mem_symbol_places (suc i) model p h in (suc w.0, w.1, w.2, omega (arith, w.3), w.4)
of_mem_symbol_places i (conflict r ∷ model) p h =
    let w = of_mem_symbol_places (suc i) model p h in (suc w.0, w.1, w.2, omega (arith, w.3), w.4)
of_mem_symbol_places i (symbol s r ∷ model) p h =
    elim (cases_cons h) [
      | inl e ↦ (0, s, r, omega arith, refl)
      | inr k ↦ let w = of_mem_symbol_places (suc i) model p k in (suc w.0, w.1, w.2, omega (arith, w.3), w.4)
    ]

pub nodup_symbol_places : (i : ℕ) (model : Model) → Nodup (symbol_places i model)
unfolding symbol_places
nodup_symbol_places i [] = tt
nodup_symbol_places i (missing ∷ model) = nodup_symbol_places (suc i) model
nodup_symbol_places i (conflict r ∷ model) = nodup_symbol_places (suc i) model
nodup_symbol_places i (symbol s r ∷ model) = (λ h. omega (arith, (of_mem_symbol_places (suc i) model i h).3), nodup_symbol_places (suc i) model)
