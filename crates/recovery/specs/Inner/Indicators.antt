-- The polynomial that is 1 at one point and 0 at every other of all columns, in blocks of sixteen entries of its grid.
use Rattle.std.specs.Prelude.{List, ◌≡◌, ℕ, ◌+◌, ◌-◌, ◌*◌, ◌/◌, ◌%◌, ◌≤◌, ◌<◌, length}
use Rattle.field.specs.Power.{power}
use Rattle.field.proofs.Fields.{field_of}
use Rattle.poly.specs.Inner.Ranges.{Below}
use Rattle.poly.specs.Inner.Linear.{entry}
use Rattle.poly.specs.Inner.Indicators.{indicator}

-- how many blocks of sixteen a grid of all columns has
abbrev pub blocks_of : ℕ → ℕ
blocks_of q = (q * q * q + 15) / 16

-- the factors in y of sixteen entries, for each symbol y
pub record YFactors (q : ℕ) (list : List ℕ) : Type 0 where
  pub long : 16 * (q * q) ≤ length list
  pub symbols : Below (field_of q).size list
  pub at : (y t : ℕ) → y < q * q → t < 16 → entry list (16 * y + t) ≡ indicator (field_of q) q y (t % q)

-- the powers of x in the entries of the last block, for each symbol x; zeros stand after the last entry
pub record XPowers (q : ℕ) (list : List ℕ) : Type 0 where
  pub long : 16 * (q * q) ≤ length list
  pub symbols : Below (field_of q).size list
  pub at : (x t : ℕ) → x < q * q → t < 16 → 16 * (blocks_of q - 1) + t < q * q * q
      → entry list (16 * x + t) ≡ power (field_of q) x (q * q - 1 - (16 * (blocks_of q - 1) + t) / q)
  pub zeros : (x t : ℕ) → x < q * q → t < 16 → q * q * q ≤ 16 * (blocks_of q - 1) + t → entry list (16 * x + t) ≡ 0

-- count blocks of sixteen, of which each but the last is c times the one after it; what stands after them is as it was
pub record BlocksWritten (q c count : ℕ) (last grid₀ grid : List ℕ) : Type 0 where
  pub symbols : Below (field_of q).size grid
  pub at : (b t : ℕ) → b < count → t < 16 → entry grid (16 * b + t) ≡ (field_of q).times (entry last t) (power (field_of q) c (count - 1 - b))
  pub kept : (i : ℕ) → 16 * count ≤ i → entry grid i ≡ entry grid₀ i
