-- How the mender finds the wrong places: by a polynomial f of order s = t + g, not 0, whose product with the word, place by place, is a word
-- of order m + s. Where f is 0 the word is taken as missing.
use Rattle.std.specs.Prelude.{true, cond, List, ◌↔◌, ◌≡◌, ℕ, ◌+◌, ◌*◌, ◌≤◌, ◌<◌, eqb, length, get_or}
use Rattle.field.specs.Curve.{IsShort, curve_of}
use Rattle.field.proofs.Fields.{field_of}
use Rattle.poly.specs.Inner.Linear.{dot}
use Rattle.poly.specs.Messages.{Vector}
use Rattle.linear.specs.Inner.Systems.{flat, Satisfies, WellFormed}
use Rattle.points.specs.Series.{is_series, columns_of}
use Rattle.code.specs.Inner.Grid.{weight_of}
use Rattle.code.specs.Inner.Rows.{row_of}
use Rattle.code.specs.Terms.{size}
use Rattle.code.specs.Word.{word_of}
use Rattle.mend.specs.Mended.{radius, differing}

-- g
abbrev pub genus : ℕ → ℕ
genus q = (curve_of q).genus

-- the symbol of a message of order m at place p
abbrev pub symbol_at : ℕ → ℕ → ℕ → List ℕ → ℕ → ℕ
symbol_at q series m v p = get_or (word_of q (columns_of q series) m v) p 0

-- s
abbrev pub reach : ℕ → ℕ → ℕ
reach q m = radius q m + genus q

-- a whole word that a call may mend: past the checks
pub record Mendable (q series m : ℕ) (word : List ℕ) : Type 0 where
  pub curve : IsShort q
  pub named : is_series series ≡ true
  pub order : m + 1 + genus q ≤ q * q * q
  pub long : length word ≡ q * q * q
  pub symbols : (p : ℕ) → p < q * q * q → get_or word p 0 < q * q

-- v is a message whose word differs from the given one in at most t places
pub record Near (q series m : ℕ) (word v : List ℕ) : Type 0 where
  pub vector : Vector (q * q) (size q m) v
  pub within : differing word (word_of q (columns_of q series) m v) ≤ radius q m

-- h, of order m + s, has the word of f, of order s, times the given word
pub record Product (q series m s : ℕ) (word f h : List ℕ) : Type 0 where
  pub vector : Vector (q * q) (size q (m + s)) h
  pub is : (p : ℕ) → p < q * q * q → symbol_at q series (m + s) h p ≡ (field_of q).times (symbol_at q series s f p) (get_or word p 0)

-- f, of order s, is a message other than 0, and its product with the word is a word of order m + s
pub record Locator (q series m : ℕ) (word f : List ℕ) : Type 0 where
  pub vector : Vector (q * q) (size q (reach q m)) f
  pub place : ℕ
  pub some : get_or f place 0 ≡ 0 → ⊥
  pub product : List ℕ
  pub is : Product q series m (reach q m) word f product

-- what stands at place p of the word where its symbols are taken out wherever located is 0
abbrev pub erased_at : List ℕ → List ℕ → ℕ → ℕ
erased_at word located p = cond (eqb (get_or located p 0) 0) 255 (get_or word p 0)

-- broken is the word with 255 where the word of f is 0
pub record Erased (q series s : ℕ) (word f broken : List ℕ) : Type 0 where
  pub long : length broken ≡ q * q * q
  pub missing : (p : ℕ) → p < q * q * q → symbol_at q series s f p ≡ 0 → get_or broken p 0 ≡ 255
  pub kept : (p : ℕ) → p < q * q * q → (symbol_at q series s f p ≡ 0 → ⊥) → get_or broken p 0 ≡ get_or word p 0

-- products has, for each term of order s, the word of that term times the given word
pub record TermProducts (q series s : ℕ) (word : List ℕ) (products : ℕ → List ℕ) : Type 0 where
  pub at : (i p : ℕ) → i < size q s → p < q * q * q → get_or (products i) p 0 ≡ (field_of q).times (row_of q (columns_of q series) s p i) (get_or word p 0)

-- the equation of entry e in the coefficients v of f: in the grid of f times the word, that entry is 0. Each term has the grid of its product
abbrev pub Vanishes : ℕ → ℕ → (ℕ → List ℕ) → (ℕ → ℕ) → ℕ → Type 0
Vanishes q s grids v e = dot (field_of q) (size q s) (λ i. get_or (grids i) e 0) v ≡ 0

-- those of all entries below n of a weight above m + s
abbrev pub NoHeavy : ℕ → ℕ → ℕ → (ℕ → List ℕ) → ℕ → (ℕ → ℕ) → Type 0
NoHeavy q m s grids n v = (e : ℕ) → e < n → m + s < weight_of q e → Vanishes q s grids v e

-- work holds these equations
pub record HoldsHeavy (q m s stride : ℕ) (grids : ℕ → List ℕ) (work : List ℕ) (n : ℕ) : Type 0 where
  pub formed : WellFormed (field_of q) stride (size q s) work
  pub same : (v : ℕ → ℕ) → NoHeavy q m s grids n v ↔ Satisfies (field_of q) (size q s) (flat stride (size q s) work) v

-- work' holds the equations of work, and one more, with the coefficients r and the right-hand side 0
pub record HoldsMore (q stride k : ℕ) (work : List ℕ) (r : ℕ → ℕ) (work' : List ℕ) : Type 0 where
  pub both : (v : ℕ → ℕ) → (Satisfies (field_of q) k (flat stride k work) v × (dot (field_of q) k r v ≡ 0))
      ↔ Satisfies (field_of q) k (flat stride k work') v
