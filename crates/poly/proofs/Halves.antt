-- Two halves of the columns: what is asked and what is given where each is multiplied by the vanishing polynomial of the other.
-- Assumes nothing.
use mathlib.Core.Path.{◌≡◌, refl, sym, ap, ap₂, ◌∙◌}
use mathlib.Core.List.{List}
use Prim.Native.Nat.{ℕ, suc, ◌+◌, ◌-◌, ◌*◌, ◌/◌, ◌%◌, ◌≤◌, ◌<◌}
use native.Mathlib.Nat.{mul-le-mul_right, mul-suc, mul-add, div-add-mod, mod-lt}
use native.Mathlib.Decide.{dec_lt}
use native.Mathlib.Omega.{arith}
use lib.ListN.{length, get_or, take, drop, length-drop, length-replicate}
use lib.Seq.{get_or-take, length-take-le}
use Rattle.field.specs.Plus.{plus}
use Rattle.field.specs.Field.{Field}
use Rattle.field.proofs.Plus.{plus_zero, zero_plus}
use Rattle.field.proofs.FieldLaws.{zero_lt}
use Rattle.poly.specs.Inner.Ranges.{Below, part}
use Rattle.poly.specs.Inner.Rows.{stored}
use Rattle.poly.specs.Inner.Polynomials.{value}
use Rattle.poly.specs.Inner.Interpolation.{interleaved, convolved, crossed, Padded, Placed, Written, Halves, ProductAdded, Combined}
use Rattle.poly.proofs.Parts.{below_take, below_part, part_rest}
use Rattle.poly.proofs.Entries.{zeros, get_or_zeros, below_zeros}
use Rattle.poly.proofs.Multiples.{stored_in, below_stored}
use Rattle.poly.proofs.Values.{value_cong, value_plus}
use Rattle.poly.proofs.Interleaving.{place_lt, interleaved_take}
use Rattle.poly.proofs.Convolutions.{convolved_value, convolved_past, crossed_convolved}

-- a block of 16 that begins before the end of c rows of w numbers has room in c rows of 16
pub block_in : (w c b : ℕ) → w ≤ 8 → 16 * b < w * c → 16 * b + 16 ≤ 16 * c
block_in w c b narrow l = let k : w * c ≤ 8 * c = mul-le-mul_right c narrow in omega arith

-- the placed elements are below what the others are
pub placed_below : (q n : ℕ) (src out : List ℕ) → 0 < q → length out ≡ 96 → Below q src → Placed n src out → Below q out
placed_below q n src out pos long small p i = elim (dec_lt i 32) [
  | yes l ↦ rw (p.low i l) pos
  | no l ↦ let e : i ≡ 32 + (i - 32) = omega arith in rw (ap (λ (x : ℕ). get_or out x 0) e ∙ p.is (i - 32)) (below_take q src n small (i - 32))
]

module _ (F : Field) (w h c : ℕ) (f g work : List ℕ) (p : Halves F w h c f g work) where
  pub half_room : 16 * h ≤ length work
  half_room = omega (arith, p.long, p.more)

  rows_narrow : w ≤ 16
  rows_narrow = omega (arith, p.narrow)

  pub left_room : (b : ℕ) → 16 * b < w * h → 16 * b + 16 ≤ length (take (16 * h) work)
  left_room b l = omega (arith, length-take-le (16 * h) work half_room, block_in w h b p.narrow l)

  rest_rows : 16 * c ≡ 16 * h + 16 * (c - h)
  rest_rows = ap (λ (n : ℕ). 16 * n) (let k : c ≡ h + (c - h) = omega (arith, p.more) in k) ∙ mul-add 16 h (c - h)

  pub right_room : (b : ℕ) → 16 * b < w * (c - h) → 16 * b + 16 ≤ length (drop (16 * h) work)
  right_room b l = omega (arith, length-drop (16 * h) work, p.long, rest_rows, block_in w (c - h) b p.narrow l)

  pub work_room : (b : ℕ) → 16 * b < w * c → 16 * b + 16 ≤ length work
  work_room b l = omega (arith, p.long, block_in w c b p.narrow l)

  pub left_padded : Padded (w * h) (take (16 * h) work)
  left_padded b t l k m =
      get_or-take (16 * h) work (16 * b + t) 0 (omega (arith, block_in w h b p.narrow l)) ∙ p.first b t l k m

  -- of left and right, copies of the two halves, the products with the vanishing polynomials are added up
  module _ (left right out : List ℕ) (same_left : (e : ℕ) → e < w * h → get_or left e 0 ≡ get_or work e 0)
      (same_right : (e : ℕ) → e < w * (c - h) → get_or right e 0 ≡ get_or (drop (16 * h) work) e 0)
      (written : Written (w * c)
      (λ e. plus (convolved F w (w * h) g left (suc (c - h)) e) (convolved F w (w * (c - h)) f right (suc (c - h)) e)) out)
      (below : Below F.size out) where
    abbrev first_product : ℕ → ℕ
    first_product = convolved F w (w * h) g left (suc (c - h))

    abbrev other_product : ℕ → ℕ
    other_product = convolved F w (w * (c - h)) f right (suc (c - h))

    at : (e : ℕ) → e < w * c → get_or out e 0 ≡ plus (first_product e) (other_product e)
    at e b =
        let s : 16 * (e / 16) + e % 16 ≡ e = div-add-mod e 16 in
        let m : e % 16 < 16 = mod-lt e (omega arith) in
        ap (λ (x : ℕ). get_or out x 0) (sym s) ∙ written (e / 16) (e % 16) (omega arith) m
        ∙ ap (λ (x : ℕ). plus (first_product x) (other_product x)) s

    g_degree : (i : ℕ) → i < suc (c - h) → c < h + i → get_or g i 0 ≡ 0
    g_degree i b l = absurd (omega (arith, p.more))

    f_degree : (i : ℕ) → i < suc (c - h) → c < c - h + i → get_or f i 0 ≡ 0
    f_degree i b l = p.degree i (omega (arith, p.more))

    -- the rows of a half, in the list as a whole
    rows_of : (n : ℕ) (s t : List ℕ) (j x : ℕ) → j < w → ((e : ℕ) → e < w * n → get_or s e 0 ≡ get_or t e 0)
        → value F n (interleaved w (take (w * n) s) j) x ≡ value F n (interleaved w t j) x
    rows_of n s t j x jw same =
        value_cong F n (interleaved w (take (w * n) s) j) (interleaved w t j) x
        (λ i b. interleaved_take w s j n i jw b ∙ same (w * i + j) (place_lt w i j n jw b))

    pub combined : Combined F w h c f g work out
    combined = record {
      below = below;
      is = λ j x jw.
          value_cong F c (interleaved w out j) (λ n. plus (first_product (w * n + j)) (other_product (w * n + j))) x
          (λ n b. at (w * n + j) (place_lt w n j c jw b))
          ∙ value_plus F c (λ n. first_product (w * n + j)) (λ n. other_product (w * n + j)) x
          ∙ ap₂ plus
          (convolved_value F w h c (suc (c - h)) g left (omega (arith, p.more)) g_degree j x jw
          ∙ ap (F.times (value F (suc (c - h)) (λ i. get_or g i 0) x)) (rows_of h left work j x jw same_left))
          (convolved_value F w (c - h) c (suc (c - h)) f right (omega arith) f_degree j x jw
          ∙ ap (F.times (value F (suc (c - h)) (λ i. get_or f i 0) x)) (rows_of (c - h) right (drop (16 * h) work) j x jw same_right));
      padded = λ b t k m n.
          written b t k m
          ∙ ap₂ plus
          (convolved_past F w h c (suc (c - h)) g left (omega (arith, p.more)) g_degree (16 * b + t) n)
          (convolved_past F w (c - h) c (suc (c - h)) f right (omega arith) f_degree (16 * b + t) n)
          ∙ plus_zero 0;
    }

  -- ---- by windows, of short blocks

  module _ (narrow : w ≤ 4) (few : c ≤ 16) where
    -- at most four rows in a block, so at most 64 numbers
    pub left_few : w * h ≤ 64
    left_few = let k : w * h ≤ 4 * h = mul-le-mul_right h narrow in omega (arith, p.more)

    pub right_few : w * (c - h) ≤ 32
    right_few = let k : w * (c - h) ≤ 4 * (c - h) = mul-le-mul_right (c - h) narrow in omega (arith, p.even)

    pub all_few : w * c ≤ 64
    all_few = let k : w * c ≤ 4 * c = mul-le-mul_right c narrow in omega arith

    pub coefficients_few : w * suc (c - h) ≤ 32 + w
    coefficients_few = omega (arith, right_few, mul-suc w (c - h))

  pub combined_windows : (l r out : List ℕ) → Placed (w * h) (take (16 * h) work) l → Placed (w * (c - h)) (drop (16 * h) work) r
      → Written (w * c) (λ e. crossed F w (length f) f g l r (32 + e)) out → Below F.size out → Combined F w h c f g work out
  combined_windows l r out pl pr written below =
      combined (take (16 * h) work) (drop (16 * h) work) out
      (λ e b. let k : w * h ≤ 16 * h = mul-le-mul_right h rows_narrow in get_or-take (16 * h) work e 0 (omega arith))
      (λ e b. refl)
      (λ b t k m. written b t k m ∙ ap (λ (n : ℕ). crossed F w n f g l r (32 + (16 * b + t))) p.f_long
      ∙ crossed_convolved F w (suc (c - h)) (w * h) (w * (c - h)) f g (take (16 * h) work) (drop (16 * h) work) l r pl pr (16 * b + t))
      below

  -- ---- by rows

  pub left_most : w * h ≤ 256
  left_most = let k : w * h ≤ 8 * h = mul-le-mul_right h p.narrow in omega (arith, p.few, p.smaller)

  pub right_most : w * (c - h) ≤ 264
  right_most = let k : w * (c - h) ≤ 8 * (c - h) = mul-le-mul_right (c - h) p.narrow in omega (arith, p.few, p.even)

  pub left_within : w * h ≤ length work
  left_within = let k : w * h ≤ 16 * h = mul-le-mul_right h rows_narrow in omega (arith, half_room)

  pub right_within : w * (c - h) ≤ length (part work (16 * h) (length work))
  right_within =
      let k : w * (c - h) ≤ 16 * (c - h) = mul-le-mul_right (c - h) rows_narrow in
      rw (part_rest work (16 * h)) (omega (arith, length-drop (16 * h) work, p.long, rest_rows))

  -- both products end within the list
  pub first_room : w * length g + w * h ≤ length work + w
  first_room =
      let e : c - h + h ≡ c = omega (arith, p.more) in
      let s : w * (c - h) + w * h ≡ w * c = sym (mul-add w (c - h) h) ∙ ap (λ (n : ℕ). w * n) e in
      let k : w * c ≤ 16 * c = mul-le-mul_right c rows_narrow in
      rw p.g_long (omega (arith, mul-suc w (c - h), p.long))

  pub other_room : w * length f + w * (c - h) ≤ length work + w
  other_room =
      let k : w * (c - h) ≤ 8 * (c - h) = mul-le-mul_right (c - h) p.narrow in
      rw p.f_long (omega (arith, mul-suc w (c - h), p.long, p.even, p.more))

  pub left_below : Below F.size (stored (w * h) work (zeros 512))
  left_below =
      below_stored F.size (w * h) work (zeros 512) (omega (arith, left_most, length-replicate {A = ℕ} 512 0)) p.work_below
      (below_zeros F.size 512 (zero_lt F))

  pub right_below : Below F.size (stored (w * (c - h)) (part work (16 * h) (length work)) (zeros 528))
  right_below =
      below_stored F.size (w * (c - h)) (part work (16 * h) (length work)) (zeros 528)
      (omega (arith, right_most, length-replicate {A = ℕ} 528 0)) (below_part F.size work (16 * h) (length work) p.work_below)
      (below_zeros F.size 528 (zero_lt F))

  -- left and right are copies, and the two products are added to zeros
  pub combined_rows : (left right cleared once out : List ℕ) → left ≡ stored (w * h) work (zeros 512)
      → right ≡ stored (w * (c - h)) (part work (16 * h) (length work)) (zeros 528) → cleared ≡ zeros (length work)
      → ProductAdded F w (w * h) g left cleared once (length g) → ProductAdded F w (w * (c - h)) f right once out (length f)
      → Combined F w h c f g work out
  combined_rows left right cleared once out is_left is_right is_cleared a b =
      combined left right out
      (λ e l. ap (λ (s : List ℕ). get_or s e 0) is_left
      ∙ stored_in (w * h) work (zeros 512) e l (omega (arith, left_most, length-replicate {A = ℕ} 512 0)))
      (λ e l. ap (λ (s : List ℕ). get_or s e 0) is_right
      ∙ stored_in (w * (c - h)) (part work (16 * h) (length work)) (zeros 528) e l (omega (arith, right_most, length-replicate {A = ℕ} 528 0))
      ∙ ap (λ (s : List ℕ). get_or s e 0) (part_rest work (16 * h)))
      (λ i t k m.
      let e = 16 * i + t in
      b.is e
      ∙ ap₂ plus
      (a.is e ∙ ap (λ (v : ℕ). plus v (convolved F w (w * h) g left (length g) e))
      (ap (λ (s : List ℕ). get_or s e 0) is_cleared ∙ get_or_zeros (length work) e)
      ∙ zero_plus (convolved F w (w * h) g left (length g) e) ∙ ap (λ (n : ℕ). convolved F w (w * h) g left n e) p.g_long)
      (ap (λ (n : ℕ). convolved F w (w * (c - h)) f right n e) p.f_long))
      b.below
