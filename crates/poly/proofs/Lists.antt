-- Lists as finite sets: membership, no element twice, elements by their places, counting, and the pigeonhole principle.
-- Assumes nothing.
use mathlib.Core.Path.{◌≡◌, refl, sym, ap, ◌∙◌, subst}
use mathlib.Core.Logic.{◌⊎◌, inl, inr}
use mathlib.Core.Bool.{Bool, true, false, not}
use mathlib.Core.List.Memᴰ.{head}
use mathlib.Core.List.Memᴰ.{tail}
use mathlib.Core.List.{List, [], ◌∷◌, ◌++◌, map, flat_map, Memᴰ as Mem}
use mathlib.Core.List.Memᴰ.{append_cases}
use mathlib.Core.List.Memᴰ.{cases_cons}
use mathlib.Core.List.Memᴰ.{not-nil}
use mathlib.Core.List.Memᴰ
use Prim.Native.Nat.{ℕ, zero, suc, ◌+◌, ◌*◌, ◌≤◌, ◌<◌, zero-le, suc-le-suc}
use native.Mathlib.Nat.{zero-add, suc-add, zero-mul, suc-mul, add-mul}
use native.Mathlib.Omega.{arith}
use lib.Dec.{T, not_T}
use lib.ListN.{length, get_or, set, length-append}
use Rattle.poly.specs.Lists.{one_if, Nodup, count, without}

pub one_if_le : (b : Bool) → one_if b ≤ 1
one_if_le true = omega arith
one_if_le false = omega arith

pub one_if_mono : (a b : Bool) → (T a → T b) → one_if a ≤ one_if b
one_if_mono true true h = omega arith
one_if_mono true false h = absurd (h tt)
one_if_mono false b h = omega arith

pub one_if_true : (b : Bool) → T b → one_if b ≡ 1
one_if_true true t = refl
one_if_true false t = absurd t

pub one_if_false : (b : Bool) → T (not b) → one_if b ≡ 0
one_if_false true t = absurd t
one_if_false false t = refl

module _ {A : Type 0} where
  -- xs less the occurrence of a that m points at
  remove : {a : A} {xs : List A} → Mem a xs → List A
  remove (head {xs = xs} e) = xs
  remove (tail {x = x} m) = x ∷ remove m

  length_remove : {a : A} {xs : List A} (m : Mem a xs) → length xs ≡ suc (length (remove m))
  unfolding remove
  length_remove (head e) = refl
  length_remove (tail m) = ap suc (length_remove m)

  mem_remove : {a b : A} {xs : List A} (m : Mem a xs) → (b ≡ a → ⊥) → Mem b xs → Mem b (remove m)
  unfolding remove
  mem_remove (head e) d k = elim (cases_cons k) [ inl e' ↦ absurd (d (e' ∙ sym e)) | inr k' ↦ k' ]
  mem_remove (tail m) d k = elim (cases_cons k) [ inl e' ↦ head e' | inr k' ↦ tail (mem_remove m d k') ]

  -- THE PIGEONHOLE PRINCIPLE
  pub pigeonhole : (ys xs : List A) → Nodup ys → ((y : A) → Mem y ys → Mem y xs) → length ys ≤ length xs
  pigeonhole [] xs d h = zero-le
  pigeonhole (y ∷ ys) xs d h =
      let m : Mem y xs = h y (head refl) in
      rw (length_remove m) (suc-le-suc (pigeonhole ys (remove m) d.1 (λ z k. mem_remove m (λ e. d.0 (Memᴰ.cast (sym e) k)) (h z (tail k)))))

  pub nodup_append : (xs ys : List A) → Nodup xs → Nodup ys → ((a : A) → Mem a xs → Mem a ys → ⊥) → Nodup (xs ++ ys)
  nodup_append [] ys dx dy h = dy
  nodup_append (x ∷ xs) ys dx dy h =
      (λ m. elim (append_cases xs m) [ inl k ↦ dx.0 k | inr k ↦ h x (head refl) k ], nodup_append xs ys dx.1 dy (λ a k. h a (tail k)))

  pub count_append : (p : A → Bool) (xs ys : List A) → count p (xs ++ ys) ≡ count p xs + count p ys
  unfolding count
  count_append p [] ys = sym (zero-add (count p ys))
  count_append p (x ∷ xs) ys = rw (count_append p xs ys) (omega arith)

  pub count_le : (p : A → Bool) (xs : List A) → count p xs ≤ length xs
  unfolding count
  count_le p [] = zero-le
  count_le p (x ∷ xs) = omega (arith, count_le p xs, one_if_le (p x))

  pub count_every : (p : A → Bool) (xs : List A) → ((x : A) → Mem x xs → T (p x)) → count p xs ≡ length xs
  unfolding count
  count_every p [] h = refl
  count_every p (x ∷ xs) h = rw (one_if_true (p x) (h x (head refl)), count_every p xs (λ y m. h y (tail m))) (omega arith)

  pub count_none : (p : A → Bool) (xs : List A) → ((x : A) → Mem x xs → T (not (p x))) → count p xs ≡ 0
  unfolding count
  count_none p [] h = refl
  count_none p (x ∷ xs) h = rw (one_if_false (p x) (h x (head refl)), count_none p xs (λ y m. h y (tail m)))

  pub every_of_count : (p : A → Bool) (xs : List A) → length xs ≤ count p xs → (x : A) → Mem x xs → T (p x)
  unfolding count
  every_of_count p [] h x m = absurd (not-nil m)
  every_of_count p (y ∷ xs) h x m = go (p y) (λ t. t) h (cases_cons m) (λ l. every_of_count p xs l x)
    where
      go : (b : Bool) → (T b → T (p y)) → suc (length xs) ≤ one_if b + count p xs → (x ≡ y) ⊎ Mem x xs
          → (length xs ≤ count p xs → Mem x xs → T (p x)) → T (p x)
      go true t l (inl e) below = rw e (t tt)
      go true t l (inr k) below = below (omega arith) k
      go false t l k below = absurd (omega (arith, count_le p xs))

  pub count_cong : (p q : A → Bool) (xs : List A) → ((x : A) → Mem x xs → p x ≡ q x) → count p xs ≡ count q xs
  unfolding count
  count_cong p q [] h = refl
  count_cong p q (x ∷ xs) h = rw (h x (head refl), count_cong p q xs (λ y m. h y (tail m)))

  -- an element that passes, and two of them
  pub one_of_count : (p : A → Bool) (xs : List A) → 0 < count p xs → (x : A) × Mem x xs × T (p x)
  unfolding count
  one_of_count p [] h = absurd (omega arith)
  one_of_count p (x ∷ xs) h = go (p x) (λ t. t) h (one_of_count p xs)
    where
      go : (b : Bool) → (T b → T (p x)) → 0 < one_if b + count p xs → (0 < count p xs → (y : A) × Mem y xs × T (p y))
          → (y : A) × Mem y (x ∷ xs) × T (p y)
      go true t l below = (x, head refl, t tt)
      go false t l below = let w = below (omega arith) in (w.0, tail w.1, w.2)

  pub two_of_count : (p : A → Bool) (xs : List A) → Nodup xs → 1 < count p xs
      → (x : A) × (y : A) × Mem x xs × Mem y xs × T (p x) × T (p y) × (x ≡ y → ⊥)
  unfolding count
  two_of_count p [] d h = absurd (omega arith)
  two_of_count p (x ∷ xs) d h = go (p x) (λ t. t) h (two_of_count p xs d.1)
    where
      go : (b : Bool) → (T b → T (p x)) → 1 < one_if b + count p xs
          → (1 < count p xs → (y : A) × (z : A) × Mem y xs × Mem z xs × T (p y) × T (p z) × (y ≡ z → ⊥))
          → (y : A) × (z : A) × Mem y (x ∷ xs) × Mem z (x ∷ xs) × T (p y) × T (p z) × (y ≡ z → ⊥)
      go true t l below = let w = one_of_count p xs (omega arith) in (x, w.0, head refl, tail w.1, t tt, w.2, λ e. d.0 (Memᴰ.cast e w.1))
      go false t l below = let w = below (omega arith) in (w.0, w.1, tail w.2, tail w.3, w.4, w.5, w.6)

  -- a alone passes the test
  pub count_one : (p : A → Bool) (a : A) (xs : List A) → Nodup xs → Mem a xs → T (p a) → ((x : A) → Mem x xs → T (p x) → x ≡ a) → count p xs ≡ 1
  unfolding count
  count_one p a [] d m t u = absurd (not-nil m)
  count_one p a (x ∷ xs) d m t u = elim (cases_cons m) [
    | inl e ↦
        rw (one_if_true (p x) (rw e at t), count_none p xs (λ y k. not_T (p y) (λ s. d.0 (Memᴰ.cast (sym e ∙ sym (u y (tail k) s)) k))))
    | inr k ↦
        rw (one_if_false (p x) (not_T (p x) (λ s. d.0 (Memᴰ.cast (u x (head refl) s) k))), count_one p a xs d.1 k t (λ y l. u y (tail l)))
  ]

  -- what stands at a place is an element, and at different places of a list with none twice stand different ones
  pub mem_get_or : (xs : List A) (d : A) (i : ℕ) → i < length xs → Mem (get_or xs i d) xs
  mem_get_or [] d i h = absurd (omega arith)
  mem_get_or (x ∷ xs) d zero h = head refl
  mem_get_or (x ∷ xs) d (suc i) h = tail (mem_get_or xs d i (omega arith))

  pub get_or_mem : (xs : List A) (d : A) {a : A} → Mem a xs → (i : ℕ) × (i < length xs) × (get_or xs i d ≡ a)
  get_or_mem [] d m = absurd (not-nil m)
  get_or_mem (x ∷ xs) d m =
      elim (cases_cons m) [ inl e ↦ (0, omega arith, sym e) | inr k ↦ let w = get_or_mem xs d k in (suc w.0, omega (arith, w.1), w.2) ]

  pub nodup_get_or : (xs : List A) (d : A) → Nodup xs → (i j : ℕ) → i < length xs → j < length xs → get_or xs i d ≡ get_or xs j d → i ≡ j
  nodup_get_or [] d n i j h k e = absurd (omega arith)
  nodup_get_or (x ∷ xs) d n zero zero h k e = refl
  nodup_get_or (x ∷ xs) d n zero (suc j) h k e = absurd (n.0 (Memᴰ.cast e (mem_get_or xs d j (omega arith))))
  nodup_get_or (x ∷ xs) d n (suc i) zero h k e = absurd (n.0 (Memᴰ.cast (sym e) (mem_get_or xs d i (omega arith))))
  nodup_get_or (x ∷ xs) d n (suc i) (suc j) h k e = ap suc (nodup_get_or xs d n.1 i j (omega arith) (omega arith) e)

  pub get_or_nodup : (xs : List A) (d : A) → ((i j : ℕ) → i < length xs → j < length xs → get_or xs i d ≡ get_or xs j d → i ≡ j) → Nodup xs
  get_or_nodup [] d f = tt
  get_or_nodup (x ∷ xs) d f = (
    λ m. let w = get_or_mem xs d m in absurd (omega (arith, f 0 (suc w.0) (omega arith) (omega (arith, w.1)) (sym w.2))),
    get_or_nodup xs d (λ i j h k e. omega (arith, f (suc i) (suc j) (omega arith) (omega arith) e)),
  )

  -- what holds of the element at each place holds of each element
  pub each_mem : (P : A → Type 0) (d : A) (l : List A) → ((i : ℕ) → i < length l → P (get_or l i d)) → (x : A) → Mem x l → P x
  each_mem P d [] h x m = absurd (not-nil m)
  each_mem P d (y ∷ l) h x m = elim (cases_cons m) [
    | inl e ↦ subst P (sym e) (h 0 (omega arith))
    | inr k ↦ each_mem P d l (λ i b. h (suc i) (omega arith)) x k
  ]

  -- the list without its element t has the others, and where no element stands twice not that one
  pub mem_without : (d : A) (l : List A) (i t : ℕ) → i < length l → (i ≡ t → ⊥) → Mem (get_or l i d) (without l t)
  mem_without d [] i t h n = absurd (omega arith)
  mem_without d (x ∷ l) zero zero h n = absurd (n refl)
  mem_without d (x ∷ l) zero (suc t) h n = head refl
  mem_without d (x ∷ l) (suc i) zero h n = mem_get_or l d i (omega arith)
  mem_without d (x ∷ l) (suc i) (suc t) h n = tail (mem_without d l i t (omega arith) (λ e. n (ap suc e)))

  pub nodup_without : (d : A) (l : List A) (t : ℕ) → Nodup l → t < length l → Mem (get_or l t d) (without l t) → ⊥
  nodup_without d [] t n h m = absurd (omega arith)
  nodup_without d (x ∷ l) zero n h m = n.0 m
  nodup_without d (x ∷ l) (suc t) n h m = elim (cases_cons m) [
    | inl e ↦ n.0 (Memᴰ.cast (sym e) (mem_get_or l d t (omega arith)))
    | inr k ↦ nodup_without d l t n.1 (omega arith) k
  ]

  pub length_without : (l : List A) (t : ℕ) → t < length l → suc (length (without l t)) ≡ length l
  length_without [] t h = absurd (omega arith)
  length_without (x ∷ l) zero h = refl
  length_without (x ∷ l) (suc t) h = ap suc (length_without l t (omega arith))

  pub without_left : (a b : List A) (t : ℕ) → t < length a → without (a ++ b) t ≡ without a t ++ b
  without_left [] b t h = absurd (omega arith)
  without_left (x ∷ a) b zero h = refl
  without_left (x ∷ a) b (suc t) h = ap (λ (l : List A). x ∷ l) (without_left a b t (omega arith))

  pub without_right : (a b : List A) (t : ℕ) → without (a ++ b) (length a + t) ≡ a ++ without b t
  without_right [] b t = ap (without b) (zero-add t)
  without_right (x ∷ a) b t = ap (without (x ∷ (a ++ b))) (suc-add (length a) t) ∙ ap (λ (l : List A). x ∷ l) (without_right a b t)

  -- a search through a list: an element with P, or Q of them all
  pub find : (P Q : A → Type 0) → ((x : A) → P x ⊎ Q x) → (xs : List A) → ((x : A) × Mem x xs × P x) ⊎ ((x : A) → Mem x xs → Q x)
  find P Q test [] = inr (λ x m. absurd (not-nil m))
  find P Q test (x ∷ xs) = go (test x) (find P Q test xs)
    where
      go : P x ⊎ Q x → ((y : A) × Mem y xs × P y) ⊎ ((y : A) → Mem y xs → Q y) → ((y : A) × Mem y (x ∷ xs) × P y) ⊎ ((y : A) → Mem y (x ∷ xs) → Q y)
      go (inl p) r = inl (x, head refl, p)
      go (inr q) (inl w) = inl (w.0, tail w.1, w.2)
      go (inr q) (inr below) = inr (λ y m. elim (cases_cons m) [ inl e ↦ subst Q (sym e) q | inr k ↦ below y k ])

module _ {A B : Type 0} where
  pub nodup_map : (f : A → B) (xs : List A) → ((a b : A) → Mem a xs → Mem b xs → f a ≡ f b → a ≡ b) → Nodup xs → Nodup (map f xs)
  nodup_map f [] inj d = tt
  nodup_map f (x ∷ xs) inj d = (
    λ m. let w = Memᴰ.of_map f xs m in d.0 (Memᴰ.cast (inj x w.0 (head refl) (tail w.1) (sym w.2)) w.1),
    nodup_map f xs (λ a b k l. inj a b (tail k) (tail l)) d.1,
  )

  pub get_or_map : (f : A → B) (xs : List A) (d : A) (e : B) (i : ℕ) → i < length xs → get_or (map f xs) i e ≡ f (get_or xs i d)
  get_or_map f [] d e i h = absurd (omega arith)
  get_or_map f (x ∷ xs) d e zero h = refl
  get_or_map f (x ∷ xs) d e (suc i) h = get_or_map f xs d e i (omega arith)

  pub map_set : (f : A → B) (xs : List A) (i : ℕ) (x : A) → map f (set xs i x) ≡ set (map f xs) i (f x)
  map_set f [] i x = refl
  map_set f (y ∷ xs) zero x = refl
  map_set f (y ∷ xs) (suc i) x = ap (λ (l : List B). f y ∷ l) (map_set f xs i x)

  pub mem_flat_map : (f : A → List B) {b : B} {a : A} (xs : List A) → Mem a xs → Mem b (f a) → Mem b (flat_map f xs)
  unfolding flat_map
  mem_flat_map f [] m k = absurd (not-nil m)
  mem_flat_map f {b} {a} (x ∷ xs) m k =
      elim (cases_cons m) [
        | inl e ↦ Memᴰ.append_left (flat_map f xs) (subst (λ (c : A). Mem b (f c)) e k)
        | inr m' ↦ Memᴰ.append_right (f x) (mem_flat_map f xs m' k)
      ]

  pub of_mem_flat_map : (f : A → List B) {b : B} (xs : List A) → Mem b (flat_map f xs) → (a : A) × Mem a xs × Mem b (f a)
  unfolding flat_map
  of_mem_flat_map f [] m = absurd (not-nil m)
  of_mem_flat_map f (x ∷ xs) m =
      elim (append_cases (f x) m) [ inl k ↦ (x, head refl, k) | inr k ↦ let w = of_mem_flat_map f xs k in (w.0, tail w.1, w.2) ]

  pub nodup_flat_map : (f : A → List B) (xs : List A) → Nodup xs → ((a : A) → Mem a xs → Nodup (f a))
      → ((a b : A) (y : B) → Mem y (f a) → Mem y (f b) → a ≡ b) → Nodup (flat_map f xs)
  unfolding flat_map
  nodup_flat_map f [] d each apart = tt
  nodup_flat_map f (x ∷ xs) d each apart =
      nodup_append (f x) (flat_map f xs) (each x (head refl)) (nodup_flat_map f xs d.1 (λ a m. each a (tail m)) apart)
      (λ y k l. let w = of_mem_flat_map f xs l in d.0 (Memᴰ.cast (apart x w.0 y k w.2) w.1))

  pub count_map : (p : B → Bool) (f : A → B) (xs : List A) → count p (map f xs) ≡ count (λ x. p (f x)) xs
  unfolding count
  count_map p f [] = refl
  count_map p f (x ∷ xs) = rw (count_map p f xs)

  pub length_flat_map : (f : A → List B) (n : ℕ) (xs : List A) → ((a : A) → length (f a) ≡ n) → length (flat_map f xs) ≡ length xs * n
  unfolding flat_map
  length_flat_map f n [] h = sym (zero-mul n)
  length_flat_map f n (x ∷ xs) h = rw (length-append, length_flat_map f n xs h, h x, suc-mul) (omega arith)

  -- where each a that passes q is followed by n elements that pass p, and any other a by none
  pub count_flat_map : (p : B → Bool) (q : A → Bool) (n : ℕ) (f : A → List B) (xs : List A)
      → ((a : A) → Mem a xs → T (q a) → count p (f a) ≡ n) → ((a : A) → Mem a xs → T (not (q a)) → count p (f a) ≡ 0)
      → count p (flat_map f xs) ≡ count q xs * n
  unfolding count flat_map
  count_flat_map p q n f [] h z = sym (zero-mul n)
  count_flat_map p q n f (x ∷ xs) h z =
      rw (count_append, count_flat_map p q n f xs (λ a m. h a (tail m)) (λ a m. z a (tail m)), add-mul (one_if (q x)))
      (ap (λ (c : ℕ). c + count q xs * n) (go (q x) (h x (head refl)) (z x (head refl))))
    where
      go : (b : Bool) → (T b → count p (f x) ≡ n) → (T (not b) → count p (f x) ≡ 0) → count p (f x) ≡ one_if b * n
      go true a b = a tt ∙ omega arith
      go false a b = b tt ∙ omega arith
