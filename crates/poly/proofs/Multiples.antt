-- What the leaves on rows leave: the length, and the number at each place.
-- Assumes nothing.
use mathlib.Core.Path.{◌≡◌, sym, ap, ◌∙◌}
use mathlib.Core.List.{List}
use Prim.Native.Nat.{ℕ, ◌+◌, ◌-◌, ◌≤◌, ◌<◌}
use native.Mathlib.Omega.{arith}
use lib.ListN.{length, get_or}
use lib.Seq.{ext_get_or}
use Rattle.field.specs.Field.{Field}
use Rattle.poly.specs.Inner.Ranges.{Below, part, put}
use Rattle.poly.specs.Inner.Rows.{scaled, stored}
use Rattle.poly.proofs.Writes.{length_writes, writes_in, below_writes}
use Rattle.poly.proofs.Parts.{length_part, part_at, below_part, length_put, put_low, put_in, put_high, below_put}

pub length_stored : (n : ℕ) (src dst : List ℕ) → length (stored n src dst) ≡ length dst
unfolding stored
length_stored n src dst = length_writes dst _ n

pub stored_in : (n : ℕ) (src dst : List ℕ) (j : ℕ) → j < n → n ≤ length dst → get_or (stored n src dst) j 0 ≡ get_or src j 0
unfolding stored
stored_in n src dst j h k = writes_in dst _ n j h k

pub below_stored : (b n : ℕ) (src dst : List ℕ) → n ≤ length dst → Below b src → Below b dst → Below b (stored n src dst)
unfolding stored
below_stored b n src dst k hs hd = below_writes dst (λ j. get_or src j 0) b n k hd (λ j h. hs j)

-- a whole list in the place of another
pub stored_all : (n : ℕ) (src dst : List ℕ) → length src ≡ n → length dst ≡ n → stored n src dst ≡ src
stored_all n src dst ls ld =
    ext_get_or 0 (stored n src dst) src (length_stored n src dst ∙ ld ∙ sym ls)
    (λ j l. stored_in n src dst j (omega (arith, length_stored n src dst)) (omega arith))

module _ (F : Field) (c n : ℕ) where
  pub length_scaled : (row : List ℕ) → length (scaled F c n row) ≡ length row
  unfolding scaled
  length_scaled row = length_writes row _ n

  pub scaled_in : (row : List ℕ) (j : ℕ) → j < n → n ≤ length row → get_or (scaled F c n row) j 0 ≡ F.times c (get_or row j 0)
  unfolding scaled
  scaled_in row j h k = writes_in row _ n j h k

  pub below_scaled : (row : List ℕ) → n ≤ length row → Below F.size row → Below F.size (scaled F c n row)
  unfolding scaled
  below_scaled row k b = below_writes row (λ j. F.times c (get_or row j 0)) F.size n k b (λ j h. F.times_lt c (get_or row j 0))

-- ---- the part of s from at to at + n, times c

abbrev pub scaled_at : Field → ℕ → ℕ → ℕ → List ℕ → List ℕ
scaled_at F c at n s = put s at (at + n) (scaled F c n (part s at (at + n)))

module _ (F : Field) (c at n : ℕ) (s : List ℕ) (fits : at + n ≤ length s) where
  as_long : n ≤ length (part s at (at + n))
  as_long = omega (arith, length_part s at (at + n) (omega arith) fits)

  back : length (scaled F c n (part s at (at + n))) ≡ at + n - at
  back = length_scaled F c n (part s at (at + n)) ∙ length_part s at (at + n) (omega arith) fits

  pub length_scaled_at : length (scaled_at F c at n s) ≡ length s
  length_scaled_at = length_put s at (at + n) _ (omega arith) fits back

  pub below_scaled_at : Below F.size s → Below F.size (scaled_at F c at n s)
  below_scaled_at b =
      below_put s at (at + n) _ (omega arith) fits back F.size b
      (below_scaled F c n (part s at (at + n)) as_long (below_part F.size s at (at + n) b))

  pub scaled_at_low : (p : ℕ) → p < at → get_or (scaled_at F c at n s) p 0 ≡ get_or s p 0
  scaled_at_low = put_low s at (at + n) _ (omega arith) fits back

  pub scaled_at_in : (p : ℕ) → p < n → get_or (scaled_at F c at n s) (at + p) 0 ≡ F.times c (get_or s (at + p) 0)
  scaled_at_in p h =
      put_in s at (at + n) _ (omega arith) fits back p (omega arith)
      ∙ scaled_in F c n (part s at (at + n)) p h as_long ∙ ap (F.times c) (part_at s at (at + n) p (omega arith))

  pub scaled_at_high : (p : ℕ) → at + n ≤ p → get_or (scaled_at F c at n s) p 0 ≡ get_or s p 0
  scaled_at_high = put_high s at (at + n) _ (omega arith) fits back
