-- What the row operations leave: the length, each element, and that symbols stay symbols.
-- Assumes nothing.
use mathlib.Core.Path.{◌≡◌, ◌∙◌}
use mathlib.Core.List.{List}
use Prim.Native.Nat.{ℕ, ◌+◌, ◌-◌, ◌*◌, ◌≤◌, ◌<◌}
use native.Mathlib.Decide.{dec_lt}
use native.Mathlib.Omega.{arith}
use lib.ListN.{length}
use Rattle.field.specs.Plus.{plus}
use Rattle.field.specs.Field.{Field}
use Rattle.poly.specs.Inner.Ranges.{Below, part}
use Rattle.poly.specs.Inner.Linear.{entry}
use Rattle.poly.specs.Inner.Rows.{added, scaled, divided, stored, placed}
use Rattle.poly.proofs.Writes.{length_writes, writes_in, below_writes}
use Rattle.poly.proofs.Parts.{row_before, length_part, below_part, length_put, put_low, put_in, put_high, below_put}

-- ---- multiples

module _ (F : Field) (i n : ℕ) (row : List ℕ) (fits : n ≤ length row) where
  pub divided_at : (j : ℕ) → j < n → entry (divided F i n row) j ≡ F.times (F.inverse (entry row i)) (entry row j)
  unfolding divided scaled
  divided_at j h = writes_in row _ n j h fits

-- dst with a multiple of src added, at the first n places
module _ (F : Field) (c n : ℕ) (src dst : List ℕ) (nd : n ≤ length dst) where
  pub length_added : length (added F c n src dst) ≡ length dst
  unfolding added
  length_added = length_writes dst _ n

  pub added_at : (j : ℕ) → j < n → entry (added F c n src dst) j ≡ plus (entry dst j) (F.times c (entry src j))
  unfolding added
  added_at j h = writes_in dst _ n j h nd

-- ---- a row of a flat list

module _ (stride n i : ℕ) (row work : List ℕ) (ns : n ≤ stride) (fits : i * stride + stride ≤ length work) where
  abbrev base : ℕ
  base = i * stride

  abbrev old : List ℕ
  old = part work base (base + stride)

  old_long : length old ≡ stride
  old_long = length_part work base (base + stride) (omega arith) fits ∙ omega arith

  new_long : length (stored n row old) ≡ base + stride - base
  unfolding stored
  new_long = length_writes old (entry row) n ∙ omega (arith, old_long)

  pub length_placed : length (placed stride n i row work) ≡ length work
  unfolding placed
  length_placed = length_put work base (base + stride) (stored n row old) (omega arith) fits new_long

  pub placed_here : (j : ℕ) → j < n → entry (placed stride n i row work) (i * stride + j) ≡ entry row j
  unfolding placed stored
  placed_here j h =
      put_in work base (base + stride) (stored n row old) (omega arith) fits new_long j (omega arith)
      ∙ writes_in old (entry row) n j h (omega (arith, old_long))

  pub placed_other : (p j : ℕ) → (p ≡ i → ⊥) → j < stride → entry (placed stride n i row work) (p * stride + j) ≡ entry work (p * stride + j)
  unfolding placed
  placed_other p j d h = go (dec_lt p i)
    where
      go : Dec (p < i) → entry (placed stride n i row work) (p * stride + j) ≡ entry work (p * stride + j)
      go (yes l) =
          put_low work base (base + stride) (stored n row old) (omega arith) fits new_long (p * stride + j) (omega (arith, row_before p i stride l))
      go (no l) =
          put_high work base (base + stride) (stored n row old) (omega arith) fits new_long (p * stride + j)
          (omega (arith, row_before i p stride (omega arith)))

  pub below_placed : (b : ℕ) → Below b work → ((j : ℕ) → j < n → entry row j < b) → Below b (placed stride n i row work)
  unfolding placed stored
  below_placed b hw hr =
      below_put work base (base + stride) (stored n row old) (omega arith) fits new_long b hw
      (below_writes old (entry row) b n (omega (arith, old_long)) (below_part b work base (base + stride) hw) hr)
