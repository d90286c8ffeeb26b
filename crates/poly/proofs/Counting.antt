-- Counting by a map between two lists; and the list of all vectors by their first numbers.
-- Assumes nothing.
use mathlib.Core.Path.{◌≡◌, refl, sym, ap, ◌∙◌, subst}
use mathlib.Core.Bool.{Bool}
use mathlib.Core.List.Memᴰ
use mathlib.Core.List.{List, [], ◌∷◌, map, flat_map, Memᴰ as Mem}
use Prim.Native.Nat.{ℕ, zero, suc, ◌≤◌, ◌<◌}
use native.Mathlib.Omega.{arith}
use lib.Dec.{T}
use lib.ListN.{length, get_or, length-map}
use Rattle.poly.specs.Lists.{Nodup, count, below, filter}
use Rattle.poly.specs.Messages.{Vector, all}
use Rattle.poly.proofs.Lists.{pigeonhole, nodup_map, mem_flat_map, of_mem_flat_map, nodup_flat_map}
use Rattle.poly.proofs.Below.{mem_below, of_mem_below, nodup_below}
use Rattle.poly.proofs.Filter.{mem_filter, of_mem_filter, nodup_filter, length_filter}
use Rattle.poly.proofs.Messages.{mem_all, of_mem_all, nodup_all}

module _ {A B : Type 0} where
  -- f takes those that pass p to those that pass q, no two to the same
  pub count_inject : (p : A → Bool) (q : B → Bool) (xs : List A) (ys : List B) (f : A → B) → Nodup xs
      → ((x : A) → Mem x xs → T (p x) → Mem (f x) ys × T (q (f x)))
      → ((x y : A) → Mem x xs → Mem y xs → T (p x) → T (p y) → f x ≡ f y → x ≡ y) → count p xs ≤ count q ys
  count_inject p q xs ys f d to inj =
      let l : length (map f (filter p xs)) ≤ length (filter q ys)
      = pigeonhole (map f (filter p xs)) (filter q ys)
      (nodup_map f (filter p xs)
      (λ a b k m.
      let u = of_mem_filter p a xs k in
      let v = of_mem_filter p b xs m in
      inj a b u.0 v.0 u.1 v.1)
      (nodup_filter p xs d))
      (λ y m.
      let w = Memᴰ.of_map f (filter p xs) m in
      let u = of_mem_filter p w.0 xs w.1 in
      let t = to w.0 u.0 u.1 in
      subst (λ (z : B). Mem z (filter q ys)) w.2 (mem_filter q (f w.0) ys t.0 t.1)) in
      omega (arith, length-map (filter p xs) f, length_filter p xs, length_filter q ys)

module _ {A B : Type 0} where
  -- f and g turn each other round
  pub count_bijection : (p : A → Bool) (q : B → Bool) (xs : List A) (ys : List B) (f : A → B) (g : B → A) → Nodup xs → Nodup ys
      → ((x : A) → Mem x xs → T (p x) → Mem (f x) ys × T (q (f x)) × (g (f x) ≡ x))
      → ((y : B) → Mem y ys → T (q y) → Mem (g y) xs × T (p (g y)) × (f (g y) ≡ y)) → count p xs ≡ count q ys
  count_bijection p q xs ys f g dx dy to back =
      let a : count p xs ≤ count q ys
      = count_inject p q xs ys f dx (λ x m t. let w = to x m t in (w.0, w.1)) (λ x y m k s t e. sym (to x m s).2 ∙ ap g e ∙ (to y k t).2) in
      let b : count q ys ≤ count p xs
      = count_inject q p ys xs g dy (λ x m t. let w = back x m t in (w.0, w.1)) (λ x y m k s t e. sym (back x m s).2 ∙ ap f e ∙ (back y k t).2) in
      omega arith

-- ---- all vectors, by their first numbers

pub vector_cons : (q k x : ℕ) (u : List ℕ) → x < q → Vector q k u → Vector q (suc k) (x ∷ u)
vector_cons q k x u l h = record { len = ap suc h.len; small = go }
  where
    go : (i : ℕ) → i < suc k → get_or (x ∷ u) i 0 < q
    go zero b = l
    go (suc i) b = h.small i (omega arith)

pub vector_tail : (q k x : ℕ) (u : List ℕ) → Vector q (suc k) (x ∷ u) → Vector q k u
vector_tail q k x u h = record { len = omega (arith, h.len); small = λ i l. h.small (suc i) (omega arith) }

module _ (q k : ℕ) where
  abbrev after : List ℕ → List (List ℕ)
  after u = map (λ x. x ∷ u) (below q)

  abbrev pub fronts : List (List ℕ)
  fronts = flat_map after (all q k)

  mem_fronts : (v : List ℕ) → Vector q (suc k) v → Mem v fronts
  mem_fronts [] h = absurd (omega (arith, h.len))
  mem_fronts (x ∷ u) h =
      mem_flat_map after (all q k) (mem_all q k u (vector_tail q k x u h))
      (Memᴰ.map (λ x. x ∷ u) (mem_below q x (h.small 0 (omega arith))))

  of_mem_fronts : (v : List ℕ) → Mem v fronts → Vector q (suc k) v
  of_mem_fronts v m =
      let w = of_mem_flat_map after (all q k) m in
      let x = Memᴰ.of_map (λ x. x ∷ w.0) (below q) w.2 in
      subst (λ (u : List ℕ). Vector q (suc k) u) x.2 (vector_cons q k x.0 w.0 (of_mem_below q x.0 x.1) (of_mem_all q k w.0 w.1))

  cons_injective : (x y : ℕ) (u v : List ℕ) → ◌≡◌ {A = List ℕ} (x ∷ u) (y ∷ v) → (x ≡ y) × (u ≡ v)
  cons_injective x y u v e = (cc, cc)

  nodup_fronts : Nodup fronts
  nodup_fronts =
      nodup_flat_map after (all q k) (nodup_all q k)
      (λ u m. nodup_map (λ x. x ∷ u) (below q) (λ x y a b e. (cons_injective x y u u e).0) (nodup_below q))
      (λ u v l a b.
      let x = Memᴰ.of_map (λ x. x ∷ u) (below q) a in
      let y = Memᴰ.of_map (λ x. x ∷ v) (below q) b in
      (cons_injective x.0 y.0 u v (x.2 ∙ sym y.2)).1)

  pub count_fronts : (p : List ℕ → Bool) → count p (all q (suc k)) ≡ count p fronts
  count_fronts p =
      count_bijection p p (all q (suc k)) fronts (λ v. v) (λ v. v) (nodup_all q (suc k)) nodup_fronts
      (λ v m t. (mem_fronts v (of_mem_all q (suc k) v m), t, refl)) (λ v m t. (mem_all q (suc k) v (of_mem_fronts v m), t, refl))
