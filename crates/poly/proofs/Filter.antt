-- The elements that a filter keeps.
-- Assumes nothing.
use mathlib.Core.Path.{◌≡◌, refl}
use mathlib.Core.Logic.{◌⊎◌, inl, inr}
use mathlib.Core.Bool.{Bool, true, false, cond}
use mathlib.Core.List.Memᴰ.{head}
use mathlib.Core.List.Memᴰ.{tail}
use mathlib.Core.List.{List, [], ◌∷◌, Memᴰ as Mem}
use mathlib.Core.List.Memᴰ.{cases_cons}
use mathlib.Core.List.Memᴰ.{not-nil}
use Prim.Native.Nat.{◌+◌}
use native.Mathlib.Omega.{arith}
use lib.Dec.{T}
use lib.ListN.{length}
use Rattle.poly.specs.Lists.{one_if, Nodup, count, filter}

module _ {A : Type 0} where
  pub mem_filter : (p : A → Bool) (x : A) (xs : List A) → Mem x xs → T (p x) → Mem x (filter p xs)
  unfolding filter
  mem_filter p x [] m t = absurd (not-nil m)
  mem_filter p x (y ∷ xs) m t = go (p y) (λ e. rw e at t) (cases_cons m) (λ k. mem_filter p x xs k t)
    where
      go : (b : Bool) → (x ≡ y → T b) → (x ≡ y) ⊎ Mem x xs → (Mem x xs → Mem x (filter p xs)) → Mem x (cond b (y ∷ filter p xs) (filter p xs))
      go true s (inl e) ih = head e
      go true s (inr k) ih = tail (ih k)
      go false s (inl e) ih = absurd (s e)
      go false s (inr k) ih = ih k

  pub of_mem_filter : (p : A → Bool) (x : A) (xs : List A) → Mem x (filter p xs) → Mem x xs × T (p x)
  unfolding filter
  of_mem_filter p x [] m = absurd (not-nil m)
  of_mem_filter p x (y ∷ xs) m = go (p y) (λ t. t) m (of_mem_filter p x xs)
    where
      go : (b : Bool) → (T b → T (p y)) → Mem x (cond b (y ∷ filter p xs) (filter p xs)) → (Mem x (filter p xs) → Mem x xs × T (p x))
          → Mem x (y ∷ xs) × T (p x)
      go true s k ih = elim (cases_cons k) [ inl e ↦ (head e, rw e (s tt)) | inr l ↦ let w = ih l in (tail w.0, w.1) ]
      go false s k ih = let w = ih k in (tail w.0, w.1)

  pub nodup_filter : (p : A → Bool) (xs : List A) → Nodup xs → Nodup (filter p xs)
  unfolding filter
  nodup_filter p [] d = tt
  nodup_filter p (x ∷ xs) d = go (p x) (nodup_filter p xs d.1)
    where
      go : (b : Bool) → Nodup (filter p xs) → Nodup (cond b (x ∷ filter p xs) (filter p xs))
      go true ih = (λ m. d.0 (of_mem_filter p x xs m).0, ih)
      go false ih = ih

  pub length_filter : (p : A → Bool) (xs : List A) → length (filter p xs) ≡ count p xs
  unfolding filter count
  length_filter p [] = refl
  length_filter p (x ∷ xs) = go (p x) (length_filter p xs)
    where
      go : (b : Bool) → length (filter p xs) ≡ count p xs → length (cond b (x ∷ filter p xs) (filter p xs)) ≡ one_if b + count p xs
      go true ih = omega arith
      go false ih = omega arith
