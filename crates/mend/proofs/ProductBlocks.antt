-- The loops that write the grids of products, block by block: of x^0, x^1, .. times one polynomial; and those of y^0, y^1, .. times it.
-- Assumes nothing.
use mathlib.Core.List.{List}
use mathlib.Core.Path.{◌≡◌, refl, sym, ap, ◌∙◌, subst}
use Prim.Native.Nat.{ℕ, ◌+◌, ◌-◌, ◌*◌, ◌/◌, ◌%◌, ◌≤◌, ◌<◌}
use native.Mathlib.Decide.{ℕ_discrete}
use native.Mathlib.Nat.{mul-zero, mul-suc, mul-le-mul_left}
use native.Mathlib.Numerals.{add-one}
use native.Mathlib.Omega.{arith}
use borrow.Rule.Slice.PartMut.{put_mid}
use lib.ListN.{length, replicate, length-replicate}
use Rattle.field.specs.Curve.{IsCurve}
use Rattle.field.proofs.Curves.{sizes}
use Rattle.field.proofs.Fields.{field_of}
use Rattle.poly.specs.Inner.Ranges.{Below, writes, part, put}
use Rattle.poly.specs.Inner.Rows.{stored}
use Rattle.poly.proofs.Multiples.{stored_all}
use Rattle.poly.proofs.Parts.{length_part, put_is, length_put, part_put, part_before}
use Rattle.poly.proofs.Writes.{length_writes}
use Rattle.points.specs.Inner.Columns.{Columns}
use Rattle.mend.specs.Inner.Products.{Takes, TimesX, times_y_at, product, block, Multiples, Products}
use Rattle.mend.proofs.ProductGrids.{product_x, product_y}

-- the start of a block after the first i
pub next_start : (width i : ℕ) → width * i + width ≡ width * (i + 1)
next_start width i = omega (arith, ap (λ (k : ℕ). width * k) (add-one i), mul-suc width i)

pub block_before : (width i k : ℕ) → i < k → width * i + width ≤ width * k
block_before width i k l = omega (arith, mul-suc width i, mul-le-mul_left width l)

-- a list with room for q parts has room for one
pub one_part : (q count : ℕ) → IsCurve q → 64 * count ≤ 64 * count * q
one_part q count curve = let l : 0 < q = omega (arith, (sizes q curve).low) in omega (arith, mul-zero (64 * count), block_before (64 * count) 0 q l)

module _ (q : ℕ) (columns : List ℕ) (over : Columns q columns) (all : length columns ≡ q * q) where
  -- ---- x^0, x^1, ..

  -- the first i blocks are written, and grid is the next
  pub record Multiplying (first out₀ out grid : List ℕ) (i at : ℕ) : Type 0 where
    pub is_at : at ≡ 64 * i
    pub long : length out ≡ length out₀
    pub grid_long : length grid ≡ 64
    pub symbols : Below (field_of q).size grid
    pub next : (word : List ℕ) (j : ℕ) → Takes q columns (product q columns word 0 j) first → Takes q columns (product q columns word i j) grid
    pub done : Multiples q columns first out i

  pub multiplying_none : (first out : List ℕ) → length first ≡ 64 → Below (field_of q).size first → Multiplying first out out first 0 0
  multiplying_none first out l b =
      record { is_at = refl; long = refl; grid_long = l; symbols = b; next = λ word j h. h; done = λ word j h i k. absurd (omega arith) }

  module _ (n : ℕ) (is_n : n ≡ q * length columns) where
    pub multiplying_more : (first out₀ out grid r last : List ℕ) (i at : ℕ) → Multiplying first out₀ out grid i at → at + 64 ≤ length out
        → last ≡ stored 64 grid (part out at (at + 64)) → TimesX q n grid r
        → Multiplying first out₀ (put_mid at (at + 64 - at) out last) r (i + 1) (at + 64)
    multiplying_more first out₀ out grid r last i at h fits is_last x =
        record {
          is_at = ap (λ (k : ℕ). k + 64) h.is_at ∙ next_start 64 i;
          long = ap length new ∙ length_put out at (at + 64) last (omega arith) fits last_long ∙ h.long;
          grid_long = x.long;
          symbols = x.symbols;
          next = λ word j t. product_x q columns over all word grid r n i j is_n x (h.next word j t);
          done = λ word j t k l. subst (Takes q columns (product q columns word k j)) (sym (ap
              (λ (x : List ℕ). block x k) new)) (go word j t k l (ℕ_discrete k i));
        }
      where
        new : put_mid at (at + 64 - at) out last ≡ put out at (at + 64) last
        new = put_is out at (at + 64) last (omega arith)

        is_grid : last ≡ grid
        is_grid = is_last ∙ stored_all 64 grid (part out at (at + 64)) h.grid_long (length_part out at (at + 64) (omega arith) fits ∙ omega arith)

        last_long : length last ≡ at + 64 - at
        last_long = ap length is_grid ∙ h.grid_long ∙ omega arith

        go : (word : List ℕ) (j : ℕ) → Takes q columns (product q columns word 0 j) first → (k : ℕ) → k < i + 1 → Dec (k ≡ i)
            → Takes q columns (product q columns word k j) (block (put out at (at + 64) last) k)
        go word j t k l (yes e) =
            let here : at ≡ 64 * k = h.is_at ∙ ap (λ (x : ℕ). 64 * x) (sym e) in
            subst (Takes q columns (product q columns word k j))
            (sym (ap (λ (a : ℕ). part (put out at (at + 64) last) a (a + 64)) (sym here)
            ∙ part_put out at (at + 64) last (omega arith) fits last_long ∙ is_grid))
            (subst (λ (x : ℕ). Takes q columns (product q columns word x j) grid) (sym e) (h.next word j t))
        go word j t k l (no d) =
            let b : k < i = omega arith in
            subst (Takes q columns (product q columns word k j))
            (sym (part_before out at (at + 64) last (omega arith) fits last_long (64 * k) (64 * k + 64) (omega arith)
            (omega (arith, block_before 64 k i b, h.is_at))))
            (h.done word j t k b)

  -- ---- y^0, y^1, ..

  -- the parts of y^0, y^1, .. up to j are written, and grid is that of y^j
  pub record Producing (word : List ℕ) (count : ℕ) (grids₀ grids grid : List ℕ) (j at : ℕ) : Type 0 where
    pub is_at : at ≡ 64 * count * j
    pub long : length grids ≡ length grids₀
    pub grid_long : length grid ≡ 64
    pub next : Takes q columns (product q columns word 0 j) grid
    pub done : Products q columns word count grids j

  pub producing_none : (word : List ℕ) (count : ℕ) (grids grid : List ℕ) → length grid ≡ 64 → Takes q columns (product q columns word 0 0) grid
      → Producing word count grids grids grid 0 0
  producing_none word count grids grid l t =
      record { is_at = omega arith; long = refl; grid_long = l; next = t; done = record { at = λ j i a b. absurd (omega arith) } }

  module _ (n : ℕ) (is_n : n ≡ q * length columns) (most : n ≤ 64) where
    pub producing_more : (word : List ℕ) (count : ℕ) (grids₀ grids grid r last : List ℕ) (j at : ℕ) → Producing word count grids₀ grids grid j at
        → at + 64 * count ≤ length grids → length last ≡ 64 * count → Multiples q columns grid last count
        → r ≡ writes (replicate 64 0) n (λ e. times_y_at q grid (e / q) (e % q))
        → Producing word count grids₀ (put_mid at (at + 64 * count - at) grids last) r (j + 1) (at + 64 * count)
    producing_more word count grids₀ grids grid r last j at h fits last_long made is_r =
        record {
          is_at = ap (λ (k : ℕ). k + 64 * count) h.is_at ∙ next_start (64 * count) j;
          long = ap length new ∙ length_put grids at end last (omega arith) fits back ∙ h.long;
          grid_long = ap length is_r ∙ length_writes (replicate 64 0) (λ e. times_y_at q grid (e / q) (e % q)) n ∙ length-replicate {A = ℕ} 64 0;
          next = product_y q columns over all word grid r n 0 j is_n most is_r h.next;
          done = record {
            at = λ k i a b. subst (λ (l : List ℕ). Takes q columns (product q columns word i k) (block (part l (64 * count * k)
                (64 * count * k + 64 * count)) i))
                (sym new) (go k i a b (ℕ_discrete k j));
          };
        }
      where
        end : ℕ
        end = at + 64 * count

        new : put_mid at (end - at) grids last ≡ put grids at end last
        new = put_is grids at end last (omega arith)

        back : length last ≡ end - at
        back = last_long ∙ omega arith

        go : (k i : ℕ) → k < j + 1 → i < count → Dec (k ≡ j)
            → Takes q columns (product q columns word i k) (block (part (put grids at end last) (64 * count * k) (64 * count * k + 64 * count)) i)
        go k i a b (yes e) =
            let here : at ≡ 64 * count * k = h.is_at ∙ ap (λ (x : ℕ). 64 * count * x) (sym e) in
            subst (λ (l : List ℕ). Takes q columns (product q columns word i k) (block l i))
            (sym (ap (λ (a : ℕ). part (put grids at end last) a (a + 64 * count)) (sym here)
            ∙ part_put grids at end last (omega arith) fits back))
            (subst (λ (x : ℕ). Takes q columns (product q columns word i x) (block last i)) (sym e) (made word j h.next i b))
        go k i a b (no d) =
            let l : k < j = omega arith in
            subst (λ (l : List ℕ). Takes q columns (product q columns word i k) (block l i))
            (sym (part_before grids at end last (omega arith) fits back (64 * count * k) (64 * count * k + 64 * count) (omega arith)
            (omega (arith, block_before (64 * count) k j l, h.is_at))))
            (h.done.at k i l b)
