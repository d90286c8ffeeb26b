-- Lists of which a range is written anew, and parts of lists.
use Rattle.std.specs.Prelude.{List, ◌++◌, ◌≡◌, ℕ, zero, suc, ◌+◌, ◌-◌, ◌*◌, ◌<◌, get_or, set, take, drop}

-- every element is below n, and so is 0
abbrev pub Below : ℕ → List ℕ → Type 0
Below n l = (i : ℕ) → get_or l i 0 < n

-- l with f j at j, for each j below n: what a loop of stores from the front leaves
unfoldable pub writes : List ℕ → ℕ → (ℕ → ℕ) → List ℕ
writes l zero f = l
writes l (suc n) f = set (writes l n f) n (f n)

-- the elements of l from a up to e
abbrev pub part : List ℕ → ℕ → ℕ → List ℕ
part l a e = take (e - a) (drop a l)

-- l with ys in the place of those
unfoldable pub put : List ℕ → ℕ → ℕ → List ℕ → List ℕ
put l a e ys = take a l ++ (ys ++ drop e l)

-- a list of blocks: each block i below n holds f i 0, f i 1, .., f i (width - 1)
pub record Blocks (width : ℕ) (f : ℕ → ℕ → ℕ) (l : List ℕ) (n : ℕ) : Type 0 where
  pub at : (i j : ℕ) → i < n → j < width → get_or l (width * i + j) 0 ≡ f i j
