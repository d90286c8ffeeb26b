-- Lists that are written block by block, each block a part that is lent and comes back.
-- Assumes nothing.
use mathlib.Core.List.{List}
use mathlib.Core.Path.{◌≡◌, sym, ap, ◌∙◌}
use Prim.Native.Nat.{ℕ, ◌+◌, ◌-◌, ◌*◌, ◌/◌, ◌%◌, ◌≤◌, ◌<◌}
use native.Mathlib.Nat.{mul-add, mul-suc, mul-le-mul_left, div-add-mod, mod-lt, div-lt_iff_lt-mul, mul_comm}
use native.Mathlib.Numerals.{add-one}
use native.Mathlib.Decide.{ℕ_discrete, dec_lt}
use native.Mathlib.Omega.{arith}
use borrow.Rule.Slice.PartMut.{put_mid}
use lib.ListN.{length, get_or}
use lib.Seq.{ext_get_or}
use Rattle.poly.specs.Inner.Ranges.{Blocks, put}
use Rattle.poly.proofs.Parts.{put_is, put_low, put_in}

pub blocks_none : (width : ℕ) (f : ℕ → ℕ → ℕ) (l : List ℕ) → Blocks width f l 0
blocks_none width f l = record { at = λ i j a b. absurd (omega arith) }

-- one block more
pub blocks_more : (width : ℕ) (f : ℕ → ℕ → ℕ) (l ys : List ℕ) (n a e : ℕ) → Blocks width f l n → a ≡ width * n → e ≡ a + width → e ≤ length l
    → length ys ≡ width → ((j : ℕ) → j < width → get_or ys j 0 ≡ f n j) → Blocks width f (put_mid a (e - a) l ys) (n + 1)
blocks_more width f l ys n a e h is_a is_e fits long new =
    record { at = λ i j u v. ap (λ (x : List ℕ). get_or x (width * i + j) 0) (put_is l a e ys (omega arith)) ∙ go i j u v (ℕ_discrete i n) }
  where
    go : (i j : ℕ) → i < n + 1 → j < width → Dec (i ≡ n) → get_or (put l a e ys) (width * i + j) 0 ≡ f i j
    go i j u v (yes d) =
        let p : width * i + j ≡ a + j = omega (arith, ap (λ (x : ℕ). width * x) d) in
        ap (λ (x : ℕ). get_or (put l a e ys) x 0) p
        ∙ put_in l a e ys (omega arith) fits (omega arith) j (omega arith) ∙ new j v ∙ ap (λ (x : ℕ). f x j) (sym d)
    go i j u v (no d) =
        let k : i < n = omega arith in
        put_low l a e ys (omega arith) fits (omega arith) (width * i + j) (omega (arith, mul-suc width i, mul-le-mul_left width k))
        ∙ h.at i j k v

-- several blocks more
pub blocks_group : (width : ℕ) (f : ℕ → ℕ → ℕ) (l ys : List ℕ) (from to : ℕ) → from ≤ to → width * to ≤ length l → Blocks width f l from
    → length ys ≡ width * to - width * from → ((i j : ℕ) → from + i < to → j < width → get_or ys (width * i + j) 0 ≡ f (from + i) j)
    → Blocks width f (put_mid (width * from) (width * to - width * from) l ys) to
blocks_group width f l ys from to le fits h long new =
    record { at = λ i j u v. ap (λ (x : List ℕ). get_or x (width * i + j) 0) (put_is l a e ys ordered) ∙ go i j u v (dec_lt i from) }
  where
    a : ℕ
    a = width * from

    e : ℕ
    e = width * to

    ordered : a ≤ e
    ordered = mul-le-mul_left width le

    go : (i j : ℕ) → i < to → j < width → Dec (i < from) → get_or (put l a e ys) (width * i + j) 0 ≡ f i j
    go i j u v (yes k) =
        put_low l a e ys ordered fits long (width * i + j) (omega (arith, mul-suc width i, mul-le-mul_left width k)) ∙ h.at i j k v
    go i j u v (no d) =
        let t : ℕ = i - from in
        let same : from + t ≡ i = omega arith in
        let p : width * i + j ≡ a + (width * t + j) = omega (arith, ap (λ (x : ℕ). width * x) (sym same), mul-add width from t) in
        ap (λ (x : ℕ). get_or (put l a e ys) x 0) p
        ∙ put_in l a e ys ordered fits long (width * t + j) (omega (arith, mul-suc width i, mul-le-mul_left width u))
        ∙ new t j (omega arith) v ∙ ap (λ (x : ℕ). f x j) same

-- the next block's start
pub block_start : (width n a e : ℕ) → a ≡ width * n → e ≡ a + width → e ≡ width * (n + 1)
block_start width n a e is_a is_e = omega (arith, ap (λ (x : ℕ). width * x) (add-one n), mul-suc width n)

-- block n is within a list of m blocks
pub block_fits : (width n m : ℕ) → n < m → width * n + width ≤ width * m
block_fits width n m l = omega (arith, mul-suc width n, mul-le-mul_left width l)

-- a list of n blocks
module _ (width : ℕ) (pos : 0 < width) (n : ℕ) where
  pub block_of : (p : ℕ) → p < width * n → (p / width < n) × (p % width < width)
  block_of p l = ((div-lt_iff_lt-mul {x = p} {y = n} pos).1 (rw (mul_comm width n) at l), mod-lt p pos)

  pub blocks_at : (f : ℕ → ℕ → ℕ) (l : List ℕ) → Blocks width f l n → (p : ℕ) → p < width * n → get_or l p 0 ≡ f (p / width) (p % width)
  blocks_at f l h p b =
      let w = block_of p b in
      ap (λ (x : ℕ). get_or l x 0) (sym (div-add-mod p width)) ∙ h.at (p / width) (p % width) w.0 w.1

  -- two of the same blocks are equal
  pub blocks_ext : (f : ℕ → ℕ → ℕ) (l k : List ℕ) → length l ≡ width * n → length k ≡ width * n → Blocks width f l n → Blocks width f k n → l ≡ k
  blocks_ext f l k ll lk hl hk =
      ext_get_or 0 l k (ll ∙ sym lk) (λ p b. let w : p < width * n = omega arith in blocks_at f l hl p w ∙ sym (blocks_at f k hk p w))
