-- The laws of vectors and of the list of all of them: each stands there, once.
-- Assumes nothing.
use mathlib.Core.Path.{◌≡◌, refl, sym, ap, ◌∙◌, subst}
use mathlib.Core.List.Memᴰ.{head}
use mathlib.Core.List.{List, [], ◌∷◌, map, concat-ne-nil, Memᴰ as Mem}
use mathlib.Core.List.Memᴰ
use mathlib.Core.List.Memᴰ.{not-nil}
use Prim.Native.Nat.{ℕ, zero, suc, ◌^◌, ◌<◌}
use native.Mathlib.Nat.{le_refl, pow-zero, pow-suc}
use native.Mathlib.Decide.{ℕ_discrete, dec_lt}
use native.Mathlib.Omega.{arith}
use lib.ListN.{length, get_or, take, length-append, length-map, get_or-append, get_or-eq_default}
use lib.Seq.{take-suc, take_all, length-take-le, get_or-take, get_or_at, ext_get_or}
use Rattle.poly.specs.Lists.{below, Nodup}
use Rattle.poly.specs.Messages.{Vector, snoc, all}
use Rattle.poly.specs.Inner.Ranges.{Below}
use Rattle.poly.proofs.Lists.{nodup_map, mem_flat_map, of_mem_flat_map, nodup_flat_map, length_flat_map}
use Rattle.poly.proofs.Below.{length_below, mem_below, of_mem_below, nodup_below}

pub length_snoc : (v : List ℕ) (x : ℕ) → length (snoc v x) ≡ suc (length v)
length_snoc v x = simp length-append (omega arith)

pub get_or_snoc : (v : List ℕ) (x i : ℕ) → i < length v → get_or (snoc v x) i 0 ≡ get_or v i 0
get_or_snoc v x i h = get_or-append v (x ∷ []) 0 i h

pub get_or_snoc_last : (v : List ℕ) (x k : ℕ) → length v ≡ k → get_or (snoc v x) k 0 ≡ x
get_or_snoc_last v x k h = get_or_at v x [] 0 k h

pub snoc_injective : (v w : List ℕ) (x y : ℕ) → snoc v x ≡ snoc w y → (v ≡ w) × (x ≡ y)
snoc_injective [] [] x y e = (refl, cc)
snoc_injective [] (b ∷ w) x y e = absurd (concat-ne-nil y w (cc))
snoc_injective (a ∷ v) [] x y e = absurd (concat-ne-nil x v (cc))
snoc_injective (a ∷ v) (b ∷ w) x y e = let h = snoc_injective v w x y (cc) in (cc, h.1)

-- every vector of length k + 1 is one of length k with one more coordinate
pub vector_snoc : (q k : ℕ) (v : List ℕ) (x : ℕ) → Vector q k v → x < q → Vector q (suc k) (snoc v x)
vector_snoc q k v x h l =
    record {
      len = rw (length_snoc v x) (ap suc h.len);
      small =
          λ i b. elim (ℕ_discrete i k) [
            | yes e ↦ rw (e, get_or_snoc_last v x k h.len) l
            | no d ↦ rw (get_or_snoc v x i (omega (arith, h.len))) (h.small i (omega arith))
          ];
    }

pub snoc_take : (k : ℕ) (u : List ℕ) → length u ≡ suc k → u ≡ snoc (take k u) (get_or u k 0)
snoc_take k u e = sym (take_all (suc k) u (omega arith)) ∙ take-suc u k 0 (omega arith)

pub vector_take : (q k : ℕ) (u : List ℕ) → Vector q (suc k) u → Vector q k (take k u)
vector_take q k u h = record { len = length-take-le k u (omega (arith, h.len)); small = λ i l. rw (get_or-take k u i 0 l) (h.small i (omega arith)) }

-- the vector of f 0, .. , f (n - 1)
unfoldable pub tabulate : ℕ → (ℕ → ℕ) → List ℕ
tabulate zero f = []
tabulate (suc n) f = snoc (tabulate n f) (f n)

pub length_tabulate : (n : ℕ) (f : ℕ → ℕ) → length (tabulate n f) ≡ n
unfolding tabulate
length_tabulate zero f = refl
length_tabulate (suc n) f = length_snoc (tabulate n f) (f n) ∙ ap suc (length_tabulate n f)

pub get_or_tabulate : (n : ℕ) (f : ℕ → ℕ) (i : ℕ) → i < n → get_or (tabulate n f) i 0 ≡ f i
unfolding tabulate
get_or_tabulate zero f i h = absurd (omega arith)
get_or_tabulate (suc n) f i h = elim (ℕ_discrete i n) [
  | yes e ↦ rw e (get_or_snoc_last (tabulate n f) (f n) n (length_tabulate n f))
  | no d ↦ get_or_snoc (tabulate n f) (f n) i (omega (arith, length_tabulate n f)) ∙ get_or_tabulate n f i (omega arith)
]

pub vector_tabulate : (q n : ℕ) (f : ℕ → ℕ) → ((i : ℕ) → i < n → f i < q) → Vector q n (tabulate n f)
vector_tabulate q n f h = record { len = length_tabulate n f; small = λ i l. rw (get_or_tabulate n f i l) (h i l) }

-- a vector's numbers are below the bound past its end, too
pub vector_below : (q k : ℕ) (v : List ℕ) → 0 < q → Vector q k v → Below q v
vector_below q k v pos h i = elim (dec_lt i k) [
  | yes l ↦ h.small i l
  | no d ↦ rw (get_or-eq_default v 0 {n = i} (omega (arith, h.len))) pos
]

pub vector_ext : (q n : ℕ) (v w : List ℕ) → Vector q n v → Vector q n w → ((i : ℕ) → i < n → get_or v i 0 ≡ get_or w i 0) → v ≡ w
vector_ext q n v w hv hw e = ext_get_or 0 v w (hv.len ∙ sym hw.len) (λ i l. e i (omega (arith, hv.len)))

pub below_vector : (q n : ℕ) (v : List ℕ) → length v ≡ n → Below q v → Vector q n v
below_vector q n v e b = record { len = e; small = λ i l. b i }

pub length_all : (q k : ℕ) → length (all q k) ≡ q ^ k
unfolding all
length_all q zero = sym (pow-zero q)
length_all q (suc k) =
    length_flat_map (λ v. map (snoc v) (below q)) q (all q k) (λ v. length-map (below q) (snoc v) ∙ length_below q)
    ∙ rw (length_all q k) (sym (pow-suc q k))

pub mem_all : (q k : ℕ) (v : List ℕ) → Vector q k v → Mem v (all q k)
unfolding all
mem_all q zero v h = head (sym (take_all 0 v (omega (arith, h.len))))
mem_all q (suc k) v h =
    Memᴰ.cast (snoc_take k v h.len)
    (mem_flat_map (λ w. map (snoc w) (below q)) (all q k) (mem_all q k (take k v) (vector_take q k v h))
    (Memᴰ.map (snoc (take k v)) (mem_below q (get_or v k 0) (h.small k (le_refl (suc k))))))

pub of_mem_all : (q k : ℕ) (v : List ℕ) → Mem v (all q k) → Vector q k v
unfolding all
of_mem_all q zero v m = rw (Memᴰ.eq_of_singleton m) (record { len = refl; small = λ i l. absurd (omega arith) })
of_mem_all q (suc k) v m =
    let w = of_mem_flat_map (λ w. map (snoc w) (below q)) (all q k) m in
    let x = Memᴰ.of_map (snoc w.0) (below q) w.2 in
    subst (λ (u : List ℕ). Vector q (suc k) u) x.2 (vector_snoc q k w.0 x.0 (of_mem_all q k w.0 w.1) (of_mem_below q x.0 x.1))

pub nodup_all : (q k : ℕ) → Nodup (all q k)
unfolding all
nodup_all q zero = (not-nil, tt)
nodup_all q (suc k) =
    nodup_flat_map (λ v. map (snoc v) (below q)) (all q k) (nodup_all q k)
    (λ v m. nodup_map (snoc v) (below q) (λ x y a b e. (snoc_injective v v x y e).1) (nodup_below q))
    (λ v w u a b.
    let x = Memᴰ.of_map (snoc v) (below q) a in
    let y = Memᴰ.of_map (snoc w) (below q) b in
    (snoc_injective v w x.0 y.0 (x.2 ∙ sym y.2)).0)
