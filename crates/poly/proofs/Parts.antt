-- Indices of a flat list of rows, lists of numbers below n, and a part of a list that is lent and comes back.
-- Assumes nothing.
use mathlib.Core.Path.{◌≡◌, sym, ap, ◌∙◌}
use mathlib.Core.List.{List, [], ◌∷◌, ◌++◌, Memᴰ as Mem}
use Prim.Native.Nat.{ℕ, zero, suc, ◌+◌, ◌-◌, ◌*◌, ◌≤◌, ◌<◌}
use native.Mathlib.Nat.{suc-mul, mul-le-mul_right}
use native.Mathlib.Decide.{dec_lt}
use native.Mathlib.Omega.{arith}
use lib.ListN.{length, get_or, take, drop, length-take, length-drop, get_or-eq_default, get_or-append, length-append}
use lib.Seq.{ext_get_or, take_all, get_or-take, get_or-drop, length-take-le, get_or-append-add}
use borrow.Rule.Slice.PartMut.{put_mid, Post-is}
use Rattle.poly.specs.Lists.{below, without}
use Rattle.poly.specs.Inner.Ranges.{Below, part, put}
use Rattle.poly.proofs.Lists.{each_mem, mem_get_or}
use Rattle.poly.proofs.Below.{of_mem_below}

-- row p ends before row i begins
pub row_before : (p i stride : ℕ) → p < i → p * stride + stride ≤ i * stride
row_before p i stride h = rw suc-mul at (mul-le-mul_right stride h)

pub length_part : (l : List ℕ) (a e : ℕ) → a ≤ e → e ≤ length l → length (part l a e) ≡ e - a
length_part l a e h k = length-take-le (e - a) (drop a l) (rw length-drop (omega arith))

pub part_at : (l : List ℕ) (a e j : ℕ) → a + j < e → get_or (part l a e) j 0 ≡ get_or l (a + j) 0
part_at l a e j h = get_or-take (e - a) (drop a l) j 0 (omega arith) ∙ get_or-drop a l j 0

-- a part up to the end
pub part_rest : (l : List ℕ) (a : ℕ) → part l a (length l) ≡ drop a l
part_rest l a = take_all (length l - a) (drop a l) (omega (arith, length-drop a l))

pub below_part : (n : ℕ) (l : List ℕ) (a e : ℕ) → Below n l → Below n (part l a e)
below_part n l a e h i = go (dec_lt i (e - a))
  where
    go : Dec (i < e - a) → get_or (part l a e) i 0 < n
    go (yes y) = rw (get_or-take (e - a) (drop a l) i 0 y, get_or-drop a l i 0) (h (a + i))
    go (no z) =
        rw (get_or-eq_default (part l a e) 0 {n = i} (rw length-take (omega arith)))
        (rw (get_or-eq_default l 0 {n = length l} (omega arith)) at (h (length l)))

-- ---- lists of numbers below n

pub below_mem : (n : ℕ) (l : List ℕ) → 0 < n → ((x : ℕ) → Mem x l → x < n) → Below n l
below_mem n l pos h i =
    elim (dec_lt i (length l)) [ yes k ↦ h (get_or l i 0) (mem_get_or l 0 i k) | no k ↦ rw (get_or-eq_default l 0 {n = i} (omega arith)) pos ]

pub mem_lt : (n : ℕ) (l : List ℕ) (x : ℕ) → Below n l → Mem x l → x < n
mem_lt n l x h = each_mem (λ (v : ℕ). v < n) 0 l (λ i b. h i) x

-- the list of all numbers below n
pub below_below : (n : ℕ) → 0 < n → Below n (below n)
below_below n pos = below_mem n (below n) pos (of_mem_below n)

pub below_take : (n : ℕ) (l : List ℕ) (k : ℕ) → Below n l → Below n (take k l)
below_take n l k h = let e : k - 0 ≡ k = omega arith in rw e at (below_part n l 0 k h)

pub below_drop : (n : ℕ) (l : List ℕ) (k : ℕ) → Below n l → Below n (drop k l)
below_drop n l k h i = rw (get_or-drop k l i 0) (h (k + i))

pub below_append : (n : ℕ) (a b : List ℕ) → Below n a → Below n b → Below n (a ++ b)
below_append n [] b ha hb i = hb i
below_append n (x ∷ a) b ha hb zero = ha 0
below_append n (x ∷ a) b ha hb (suc i) = below_append n a b (λ j. ha (suc j)) hb i

pub below_without : (n : ℕ) (l : List ℕ) (t : ℕ) → Below n l → Below n (without l t)
below_without n [] t h i = h i
below_without n (x ∷ l) zero h i = h (suc i)
below_without n (x ∷ l) (suc t) h zero = h 0
below_without n (x ∷ l) (suc t) h (suc i) = below_without n l t (λ j. h (suc j)) i

-- ---- a part that comes back

-- what the borrow checker has of a list whose part has come back
pub put_is : (l : List ℕ) (a e : ℕ) (ys : List ℕ) → a ≤ e → put_mid a (e - a) l ys ≡ put l a e ys
unfolding put
put_is l a e ys h = ap (λ (t : List ℕ). take a l ++ (ys ++ t)) (Post-is a e l h)

app_right : (x y : List ℕ) (n j : ℕ) → length x ≡ n → get_or (x ++ y) (n + j) 0 ≡ get_or y j 0
app_right x y n j e = rw (← e) (get_or-append-add x y j 0)

-- A list whose part has come back.
module _ (l : List ℕ) (a e : ℕ) (ys : List ℕ) (ae : a ≤ e) (el : e ≤ length l) (yl : length ys ≡ e - a) where
  before_part : length (take a l) ≡ a
  before_part = length-take-le a l (omega arith)

  pub length_put : length (put l a e ys) ≡ length l
  unfolding put
  length_put = simp (length-append, length-drop) (omega (arith, before_part))

  pub put_low : (j : ℕ) → j < a → get_or (put l a e ys) j 0 ≡ get_or l j 0
  unfolding put
  put_low j h = get_or-append (take a l) _ 0 j (omega (arith, before_part)) ∙ get_or-take a l j 0 h

  pub put_in : (j : ℕ) → j < e - a → get_or (put l a e ys) (a + j) 0 ≡ get_or ys j 0
  unfolding put
  put_in j h = app_right (take a l) _ a j before_part ∙ get_or-append ys _ 0 j (omega arith)

  pub put_high : (j : ℕ) → e ≤ j → get_or (put l a e ys) j 0 ≡ get_or l j 0
  unfolding put
  put_high j h =
      let one : j ≡ a + (e - a + (j - e)) = omega arith in
      let two : e + (j - e) ≡ j = omega arith in
      ap (λ (n : ℕ). get_or (take a l ++ (ys ++ drop e l)) n 0) one
      ∙ app_right (take a l) _ a _ before_part ∙ app_right ys _ (e - a) (j - e) yl ∙ get_or-drop e l (j - e) 0 ∙ ap (λ (n : ℕ). get_or l n 0) two

  pub below_put : (n : ℕ) → Below n l → Below n ys → Below n (put l a e ys)
  below_put n hl hy j = go (dec_lt j a) (dec_lt j e)
    where
      go : Dec (j < a) → Dec (j < e) → get_or (put l a e ys) j 0 < n
      go (yes h) d = rw (put_low j h) (hl j)
      go (no h) (yes i) =
          let at_j : a + (j - a) ≡ j = omega arith in
          rw (← at_j, put_in (j - a) (omega arith)) (hy (j - a))
      go (no h) (no i) = rw (put_high j (omega arith)) (hl j)

  -- the part itself, and a part before it
  pub part_put : part (put l a e ys) a e ≡ ys
  part_put =
      let long : length (part (put l a e ys) a e) ≡ e - a = length_part (put l a e ys) a e ae (rw length_put el) in
      ext_get_or 0 (part (put l a e ys) a e) ys (long ∙ sym yl)
      (λ j h. part_at (put l a e ys) a e j (omega arith) ∙ put_in j (omega arith))

  pub part_before : (u v : ℕ) → u ≤ v → v ≤ a → part (put l a e ys) u v ≡ part l u v
  part_before u v uv va =
      let new : length (part (put l a e ys) u v) ≡ v - u = length_part (put l a e ys) u v uv (rw length_put (omega arith)) in
      let old : length (part l u v) ≡ v - u = length_part l u v uv (omega arith) in
      ext_get_or 0 (part (put l a e ys) u v) (part l u v) (new ∙ sym old)
      (λ j h. part_at (put l a e ys) u v j (omega arith) ∙ put_low (u + j) (omega arith) ∙ sym (part_at l u v j (omega arith)))

-- of small numbers, as the borrow checker has it
pub below_back : (n : ℕ) (l ys : List ℕ) (a e : ℕ) → a ≤ e → e ≤ length l → length ys ≡ e - a → Below n l → Below n ys
    → Below n (put_mid a (e - a) l ys)
below_back n l ys a e ae el yl hl hy i = rw (put_is l a e ys ae) (below_put l a e ys ae el yl n hl hy i)
