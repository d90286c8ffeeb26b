-- Interpolation of w polynomials at once. Their numbers are interleaved in one list, in rows of w: number i of polynomial j stands at
-- w * i + j. What is given is in rows of 16, of which the first w count, and the others are 0.
-- A column is a place x at which a polynomial is given or asked for; l and columns are lists of columns.
use Rattle.std.specs.Prelude.{cond, ◌≡◌, List, ℕ, zero, suc, ◌+◌, ◌-◌, ◌*◌, ◌/◌, ◌^◌, ◌≤◌, ◌<◌, leb, length, get_or, take, drop}
use Rattle.field.specs.Plus.{plus}
use Rattle.field.specs.Field.{Field}
use Rattle.field.specs.Sum.{sum}
use Rattle.poly.specs.Inner.Ranges.{Below}
use Rattle.poly.specs.Inner.Polynomials.{value, vanishing, others, Vanishing}

-- the numbers of polynomial j
abbrev pub interleaved : ℕ → List ℕ → ℕ → ℕ → ℕ
interleaved w s j i = get_or s (w * i + j) 0

-- row i of a list in rows of d, its first w numbers as a polynomial in y, at y
unfoldable pub row : Field → ℕ → ℕ → List ℕ → ℕ → ℕ → ℕ
row F d w s i y = value F w (λ j. interleaved d s j i) y

-- the sum of s[w * i + j] * x^i * y^j over i < n and j < w
unfoldable pub bivariate : Field → ℕ → ℕ → List ℕ → ℕ → ℕ → ℕ
bivariate F w n s x y = value F n (λ i. row F w w s i y) x

-- the sum over the columns of f t times the product of (x - b) over the other columns b
unfoldable pub lagrange_sum : Field → List ℕ → (ℕ → ℕ) → ℕ → ℕ
lagrange_sum F l f x = sum (length l) (λ t. F.times (f t) (others F l t x))

-- f t divided by the product of (a - b) over the other columns b, where a is the column t
abbrev pub divided : Field → List ℕ → (ℕ → ℕ) → ℕ → ℕ
divided F l f t = F.times (F.inverse (others F l t (get_or l t 0))) (f t)

-- ---- the two halves of c columns: the first h, and the c - h others

abbrev pub half : List ℕ → ℕ
half columns = length columns / 2

-- how many coefficients the vanishing polynomial of the larger half has
abbrev pub coefficient_count : List ℕ → ℕ
coefficient_count columns = suc (length columns - half columns)

-- from at on, the vanishing polynomials of the two halves
pub record Node (F : Field) (tree : List ℕ) (at : ℕ) (columns : List ℕ) : Type 0 where
  pub room : at + (coefficient_count columns + coefficient_count columns) ≤ length tree
  pub first : (i : ℕ) → i < coefficient_count columns → get_or tree (at + i) 0 ≡ vanishing F (take (half columns) columns) i
  pub others : (i : ℕ) → i < coefficient_count columns
      → get_or tree (at + (coefficient_count columns + i)) 0 ≡ vanishing F (drop (half columns) columns) i

-- the tree of the vanishing polynomials of all halves, halves of halves, .., n levels of it: what belongs to the two halves stands
-- a stride further on, each two numbers a column
abbrev pub Levels : ℕ → Field → ℕ → List ℕ → ℕ → List ℕ → Type 0
Levels zero F stride tree at columns = Unit {0}
Levels (suc n) F stride tree at columns =
    2 ≤ length columns → Node F tree at columns × Levels n F stride tree (at + stride) (take (half columns) columns)
    × Levels n F stride tree (at + stride + 2 * half columns) (drop (half columns) columns)

abbrev pub Tree : Field → ℕ → List ℕ → ℕ → List ℕ → Type 0
Tree F stride tree at columns = (n : ℕ) → Levels n F stride tree at columns

-- what c columns need from at on in a list of the length long: a stride for each level but the last, and there are `levels` of them
-- at most
pub record TreeRoom (c stride at long : ℕ) : Type 0 where
  pub levels : ℕ
  pub few : c ≤ 2 ^ levels
  pub wide : 2 * c ≤ stride
  pub room : at + stride * levels + 2 * c ≤ long + stride
  pub stride_small : stride ≤ 128
  pub short : long ≤ 1024

-- i isn't one of the n numbers from `from` on
abbrev pub Outside : ℕ → ℕ → ℕ → Type 0
Outside from n i = from ≤ i → i < from + n → ⊥

-- the two lists agree but at the n numbers from at on, the n from at + stride on, and so on
abbrev pub SameOutside : (stride at n : ℕ) → (tree tree' : List ℕ) → Type 0
SameOutside stride at n tree tree' = (i : ℕ) → ((l : ℕ) → Outside (at + stride * l) n i) → get_or tree' i 0 ≡ get_or tree i 0

-- the whole tree: the vanishing polynomial of all columns, and from there on those of the halves
pub record VanishingTree (F : Field) (columns tree : List ℕ) : Type 0 where
  pub root : Vanishing F columns (take (length columns + 1) tree)
  pub halves : Tree F (2 * length columns) tree (length columns + 1) columns
  pub below : Below F.size tree
  pub short : length tree ≤ 1024

-- ---- joining

-- the list is a multiple of 16 long, or goes on, with zeros from n up to the next multiple of 16
abbrev pub Padded : ℕ → List ℕ → Type 0
Padded n s = (b t : ℕ) → 16 * b < n → t < 16 → n ≤ 16 * b + t → get_or s (16 * b + t) 0 ≡ 0

-- 32 zeros, the first n elements of src, and zeros
pub record Placed (n : ℕ) (src out : List ℕ) : Type 0 where
  pub low : (i : ℕ) → i < 32 → get_or out i 0 ≡ 0
  pub is : (e : ℕ) → get_or out (32 + e) 0 ≡ get_or (take n src) e 0

-- the blocks of 16 that begin before n hold f
abbrev pub Written : ℕ → (ℕ → ℕ) → List ℕ → Type 0
Written n f out = (b t : ℕ) → 16 * b < n → t < 16 → get_or out (16 * b + t) 0 ≡ f (16 * b + t)

-- number p of left times g plus right times f, the k coefficients of f and g being numbers
unfoldable pub crossed : Field → ℕ → ℕ → (f g left right : List ℕ) → ℕ → ℕ
crossed F w k f g left right p =
    sum k (λ i. plus (F.times (get_or left (p - w * i) 0) (get_or g i 0)) (F.times (get_or right (p - w * i) 0) (get_or f i 0)))

-- two polynomials with their vanishing polynomials, and a place from which their products can be read
pub record Crossable (F : Field) (w : ℕ) (f g left right : List ℕ) (at : ℕ) : Type 0 where
  pub f_below : Below F.size f
  pub g_below : Below F.size g
  pub left_below : Below F.size left
  pub right_below : Below F.size right
  pub same : length g ≡ length f
  pub narrow : w ≤ 4
  pub low : w * length f ≤ at + w
  pub high : at + 16 ≤ 96

-- what is to be joined: a row of 16 for each column
pub record Joinable (F : Field) (w : ℕ) (columns work : List ℕ) : Type 0 where
  pub columns_below : Below F.size columns
  pub work_below : Below F.size work
  pub few : length columns ≤ 64
  pub narrow : w ≤ 8
  pub long : length work ≡ 16 * length columns
  pub zeros : (t j : ℕ) → t < length columns → w ≤ j → j < 16 → get_or work (16 * t + j) 0 ≡ 0

-- the two halves are joined, the first from 0 on and the other from 16 * h on; f and g are the vanishing polynomials of the first half
-- and of the other
pub record Halves (F : Field) (w h c : ℕ) (f g work : List ℕ) : Type 0 where
  pub some : 1 ≤ h
  pub more : h < c
  pub even : c ≤ h + h + 1
  pub smaller : h + h ≤ c
  pub few : c ≤ 64
  pub narrow : w ≤ 8
  pub long : length work ≡ 16 * c
  pub work_below : Below F.size work
  pub f_below : Below F.size f
  pub g_below : Below F.size g
  pub f_long : length f ≡ suc (c - h)
  pub g_long : length g ≡ suc (c - h)
  pub degree : (i : ℕ) → h < i → get_or f i 0 ≡ 0
  pub first : Padded (w * h) work
  pub others : Padded (w * (c - h)) (drop (16 * h) work)

-- number p of the first n elements of src, moved on by i rows of w
abbrev pub moved_on : ℕ → ℕ → List ℕ → ℕ → ℕ → ℕ
moved_on w n src i p = cond (leb (w * i) p) (get_or (take n src) (p - w * i) 0) 0

-- number p of the first n elements of src, which are w polynomials, times the first k coefficients of f
unfoldable pub convolved : Field → (w n : ℕ) → (f src : List ℕ) → ℕ → ℕ → ℕ
convolved F w n f src k p = sum k (λ i. F.times (moved_on w n src i p) (get_or f i 0))

-- such a product is added
pub record ProductAdded (F : Field) (w n : ℕ) (f src work₀ work : List ℕ) (k : ℕ) : Type 0 where
  pub below : Below F.size work
  pub is : (p : ℕ) → get_or work p 0 ≡ plus (get_or work₀ p 0) (convolved F w n f src k p)

-- each half times the vanishing polynomial of the other, and both added
pub record Combined (F : Field) (w h c : ℕ) (f g work₀ work : List ℕ) : Type 0 where
  pub below : Below F.size work
  pub is : (j x : ℕ) → j < w → value F c (interleaved w work j) x
      ≡ plus (F.times (value F (suc (c - h)) (λ i. get_or g i 0) x) (value F h (interleaved w work₀ j) x))
      (F.times (value F (suc (c - h)) (λ i. get_or f i 0) x) (value F (c - h) (interleaved w (drop (16 * h) work₀) j) x))
  pub padded : Padded (w * c) work

-- the polynomials of work are the sums over the columns
pub record Joined (F : Field) (w : ℕ) (columns work₀ work : List ℕ) : Type 0 where
  pub below : Below F.size work
  pub is : (j x : ℕ) → j < w → value F (length columns) (interleaved w work j) x ≡ lagrange_sum F columns (interleaved 16 work₀ j) x
  pub padded : Padded (w * length columns) work

-- ---- interpolation

-- the values of the derivative of the columns' vanishing polynomial, at the columns from number from up to number to
pub record SlopesAt (F : Field) (columns : List ℕ) (from to : ℕ) (slopes : List ℕ) : Type 0 where
  pub at : (t : ℕ) → from + t < to → get_or slopes t 0 ≡ others F columns (from + t) (get_or columns (from + t) 0)

-- the first count rows, which belong to the columns from number from on, are divided, and the others are as they were
pub record RowsDivided (F : Field) (columns : List ℕ) (from count : ℕ) (rows₀ rows : List ℕ) : Type 0 where
  pub below : Below F.size rows
  pub done : (j t : ℕ) → j < 16 → t < count
      → interleaved 16 rows j t ≡ F.times (F.inverse (others F columns (from + t) (get_or columns (from + t) 0))) (interleaved 16 rows₀ j t)
  pub rest : (p : ℕ) → 16 * count ≤ p → get_or rows p 0 ≡ get_or rows₀ p 0

-- the row of each column is divided
pub record Divided (F : Field) (columns work₀ work : List ℕ) : Type 0 where
  pub below : Below F.size work
  pub is : (j t : ℕ) → j < 16 → t < length columns → interleaved 16 work j t ≡ divided F columns (interleaved 16 work₀ j) t

-- the polynomials of s take at each column the first w numbers of that column's row of d
pub record Interpolated (F : Field) (d w : ℕ) (columns rows s : List ℕ) : Type 0 where
  pub below : Below F.size s
  pub is : (j t : ℕ) → j < w → t < length columns → value F (length columns) (interleaved w s j) (get_or columns t 0) ≡ interleaved d rows j t
