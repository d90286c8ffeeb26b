-- x times the polynomial of a grid, as `times_x` writes it: a copy of the grid one row further, and then the last row added to row 1.
-- Assumes nothing.
use mathlib.Core.List.{List}
use mathlib.Core.Path.{◌≡◌, sym, ap, ap₂, ◌∙◌, subst}
use Prim.Native.Nat.{ℕ, ◌+◌, ◌-◌, ◌*◌, ◌≤◌, ◌<◌}
use native.Mathlib.Omega.{arith}
use borrow.Rule.Slice.PartMut.{put_mid}
use lib.ListN.{length, get_or, length-replicate}
use Rattle.field.specs.Curve.{IsCurve, IsShort}
use Rattle.field.specs.Plus.{plus}
use Rattle.field.proofs.Curves.{each_curve, short_curve, short_sizes}
use Rattle.field.proofs.Fields.{field_of}
use Rattle.field.proofs.FieldLaws.{zero_lt}
use Rattle.poly.specs.Inner.Linear.{entry}
use Rattle.poly.specs.Inner.Ranges.{Below, part, put}
use Rattle.poly.specs.Inner.Rows.{summed, stored}
use Rattle.poly.proofs.Entries.{zeros, get_or_zeros, below_zeros}
use Rattle.poly.proofs.Multiples.{length_stored, stored_in}
use Rattle.poly.proofs.Parts.{length_part, part_at, below_part, put_is, length_put, put_low, put_in, below_put, part_put}
use Rattle.poly.proofs.Writes.{length_writes, writes_in, writes_out, below_writes}
use Rattle.mend.specs.Inner.Products.{TimesX}

-- a grid has two rows at least, and room in 64
pub rows_two : (q : ℕ) → IsCurve q → q + q ≤ q * q * q
rows_two = each_curve (λ q. q + q ≤ q * q * q) (omega arith) (omega arith) (omega arith)

pub row_room : (q : ℕ) → IsShort q → q ≤ 64
row_room q curve = omega (arith, (short_sizes q curve).high)

module _ (q n : ℕ) (curve : IsShort q) (is_n : n ≡ q * q * q) (grid : List ℕ) (long : n ≤ length grid) (small : Below (field_of q).size grid)
    (copied : List ℕ) (is_copied : copied ≡ stored (n - q) grid (part (zeros 64) q 64)) where
  room : q ≤ 64
  room = row_room q curve

  two : q + q ≤ n
  two = omega (arith, is_n, rows_two q (short_curve q curve))

  most : n ≤ 64
  most = omega (arith, is_n, (short_sizes q curve).points)

  pub lent_long : length (part (zeros 64) q 64) ≡ 64 - q
  lent_long = length_part (zeros 64) q 64 room (omega (arith, length-replicate {A = ℕ} 64 0))

  pub copied_long : length copied ≡ 64 - q
  copied_long = ap length is_copied ∙ length_stored (n - q) grid (part (zeros 64) q 64) ∙ lent_long

  abbrev shifted : List ℕ
  shifted = put (zeros 64) q 64 copied

  zeros_long : 64 ≤ length (zeros 64)
  zeros_long = omega (arith, length-replicate {A = ℕ} 64 0)

  pub shifted_long : length shifted ≡ 64
  shifted_long = length_put (zeros 64) q 64 copied room zeros_long copied_long ∙ length-replicate {A = ℕ} 64 0

  shifted_part : part shifted q 64 ≡ copied
  shifted_part = part_put (zeros 64) q 64 copied room zeros_long copied_long

  copied_at : (j : ℕ) → j < n - q → get_or copied j 0 ≡ get_or grid j 0
  copied_at j l =
      ap (λ (x : List ℕ). get_or x j 0) is_copied ∙ stored_in (n - q) grid (part (zeros 64) q 64) j l (omega (arith, lent_long, most))

  copied_below : Below (field_of q).size copied
  unfolding stored
  copied_below =
      rw is_copied
      (below_writes (part (zeros 64) q 64) (entry grid) (field_of q).size (n - q) (omega (arith, lent_long, most))
      (below_part (field_of q).size (zeros 64) q 64 (below_zeros (field_of q).size 64 (zero_lt (field_of q)))) (λ j l. small j))

  shifted_below : Below (field_of q).size shifted
  shifted_below =
      below_put (zeros 64) q 64 copied room zeros_long copied_long (field_of q).size (below_zeros (field_of q).size 64 (zero_lt
      (field_of q))) copied_below

  module _ (sums : List ℕ) (is_sums : sums ≡ summed q (part grid (n - q) n) (part shifted q 64)) where
    part_long : length (part shifted q 64) ≡ 64 - q
    part_long = length_part shifted q 64 room (omega (arith, shifted_long))

    sums_long : length sums ≡ 64 - q
    unfolding summed
    sums_long = ap length is_sums ∙ length_writes (part shifted q 64) _ q ∙ part_long

    abbrev result : List ℕ
    result = put shifted q 64 sums

    result_in : (j : ℕ) → j < 64 - q → get_or result (q + j) 0 ≡ get_or sums j 0
    result_in j l = put_in shifted q 64 sums room (omega (arith, shifted_long)) sums_long j l

    result_low : (j : ℕ) → j < q → get_or result j 0 ≡ 0
    result_low j l =
        put_low shifted q 64 sums room (omega (arith, shifted_long)) sums_long j l
        ∙ put_low (zeros 64) q 64 copied room zeros_long copied_long j l ∙ get_or_zeros 64 j

    sum_in : (j : ℕ) → j < q → get_or sums j 0 ≡ plus (get_or grid j 0) (get_or grid (n - q + j) 0)
    unfolding summed
    sum_in j l =
        ap (λ (x : List ℕ). get_or x j 0) is_sums
        ∙ writes_in (part shifted q 64) (λ j. plus (entry (part shifted q 64) j) (entry (part grid (n - q) n) j)) q j l
        (omega (arith, part_long, two, most))
        ∙ ap₂ plus (ap (λ (x : List ℕ). get_or x j 0) shifted_part ∙ copied_at j (omega (arith, two))) (part_at grid (n - q) n j (omega (arith, two)))

    sum_past : (e : ℕ) → q ≤ e → q + e < n → get_or sums e 0 ≡ get_or grid e 0
    unfolding summed
    sum_past e l k =
        ap (λ (x : List ℕ). get_or x e 0) is_sums
        ∙ writes_out (part shifted q 64) (λ j. plus (entry (part shifted q 64) j) (entry (part grid (n - q) n) j)) q e l
        ∙ ap (λ (x : List ℕ). get_or x e 0) shifted_part ∙ copied_at e (omega arith)

    sums_below : Below (field_of q).size sums
    unfolding summed
    sums_below =
        let b = below_part (field_of q).size shifted q 64 shifted_below in
        rw is_sums
        (below_writes (part shifted q 64) (λ j. plus (entry (part shifted q 64) j) (entry (part grid (n - q) n) j)) (field_of q).size q
        (omega (arith, part_long, two, most)) b
        (λ j l. (field_of q).plus_lt _ _ (b j) (below_part (field_of q).size grid (n - q) n small j)))

    rotated : TimesX q n grid result
    rotated =
        record {
          long = length_put shifted q 64 sums room (omega (arith, shifted_long)) sums_long ∙ shifted_long;
          symbols = below_put shifted q 64 sums room (omega (arith, shifted_long)) sums_long (field_of q).size shifted_below sums_below;
          low = result_low;
          wrapped = λ j l. result_in j (omega (arith, two, most)) ∙ sum_in j l;
          high = λ e l k. result_in e (omega (arith, most)) ∙ sum_past e l k;
        }

-- as the borrow checker has it
pub times_x_written : (q n : ℕ) → IsShort q → n ≡ q * q * q → (grid : List ℕ) → n ≤ length grid → Below (field_of q).size grid
    → (copied sums : List ℕ)
    → copied ≡ stored (n - q) grid (part (zeros 64) q 64)
    → sums ≡ summed q (part grid (n - q) n) (part (put_mid q (64 - q) (zeros 64) copied) q 64)
    → TimesX q n grid (put_mid q (64 - q) (put_mid q (64 - q) (zeros 64) copied) sums)
times_x_written q n curve is_n grid long small copied sums is_copied is_sums =
    let first : put_mid q (64 - q) (zeros 64) copied ≡ put (zeros 64) q 64 copied = put_is (zeros 64) q 64 copied (row_room q curve) in
    let second : put_mid q (64 - q) (put (zeros 64) q 64 copied) sums ≡ put (put (zeros 64) q 64 copied) q 64 sums =
    put_is (put (zeros 64) q 64 copied) q 64 sums (row_room q curve) in
    subst (λ (r : List ℕ). TimesX q n grid r) (sym (ap (λ (l : List ℕ). put_mid q (64 - q) l sums) first ∙ second))
    (rotated q n curve is_n grid long small copied is_copied sums
    (is_sums ∙ ap (λ (l : List ℕ). summed q (part grid (n - q) n) (part l q 64)) first))

module _ (q n : ℕ) (curve : IsShort q) (is_n : n ≡ q * q * q) (grid : List ℕ) (long : n ≤ length grid) (small : Below (field_of q).size grid)
    (copied : List ℕ) (is_copied : copied ≡ stored (n - q) grid (part (zeros 64) q 64)) where
  pub mid_long : length (put_mid q (64 - q) (zeros 64) copied) ≡ 64
  mid_long = ap length (put_is (zeros 64) q 64 copied (row_room q curve)) ∙ shifted_long q n curve is_n grid long small copied is_copied

  pub mid_part_long : length (part (put_mid q (64 - q) (zeros 64) copied) q 64) ≡ 64 - q
  mid_part_long = length_part (put_mid q (64 - q) (zeros 64) copied) q 64 (row_room q curve) (omega (arith, mid_long))
