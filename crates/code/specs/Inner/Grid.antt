-- The grid: a polynomial laid out as a list whose entry e is the coefficient of x^(e / q)·y^(e % q).
use Rattle.std.specs.Prelude.{Bool, true, cond, ◌&&◌, ◌||◌, List, map, ◌≡◌, ℕ, zero, suc, ◌+◌, ◌-◌, ◌*◌, ◌%◌, leb, eqb, length, get_or, set, replicate}
use Rattle.points.specs.Passing.{passing}
use Rattle.code.specs.Terms.{is_term, weights}

-- the weight of entry e, and the entry of weight w
abbrev pub weight_of : ℕ → ℕ → ℕ
weight_of q e = e + q * (e % q)

abbrev pub entry_of : ℕ → ℕ → ℕ
entry_of q w = w - q * (w % q)

-- the entries of the terms of the order m, by ascending weight
abbrev pub entries_of : ℕ → ℕ → List ℕ
entries_of q m = map (entry_of q) (weights q m)

-- the coefficients of a grid at the entries of a list
abbrev pub listed : List ℕ → List ℕ → ℕ → ℕ
listed entries grid n = get_or grid (get_or entries n 0) 0

-- how many terms have a weight below w: the index of the coefficient of weight w in a message
abbrev pub rank : ℕ → ℕ → ℕ
rank q w = length (passing (is_term q) w)

-- w is the weight of term n, the terms being counted from 0 by ascending weight
abbrev pub WeightOfTerm : ℕ → ℕ → ℕ → Type 0
WeightOfTerm q n w = (is_term q w ≡ true) × (rank q w ≡ n)

-- the grid of n entries with the coefficients of the terms of weight below w, zero elsewhere
unfoldable pub scatter_below : ℕ → ℕ → List ℕ → ℕ → List ℕ
scatter_below q n message zero = replicate n 0
scatter_below q n message (suc w) =
    cond (is_term q w) (set (scatter_below q n message w) (entry_of q w) (get_or message (rank q w) 0)) (scatter_below q n message w)

abbrev pub scatter : ℕ → ℕ → ℕ → List ℕ → List ℕ
scatter q n m message = scatter_below q n message (suc m)

-- the message of a grid
unfoldable pub gather : ℕ → ℕ → List ℕ → List ℕ
gather q m grid = map (λ w. get_or grid (entry_of q w) 0) (weights q m)

-- "no term of weight above m" among the first n entries
unfoldable pub order_at_most : ℕ → ℕ → ℕ → List ℕ → Bool
order_at_most q m zero grid = true
order_at_most q m (suc e) grid = order_at_most q m e grid && (leb (weight_of q e) m || eqb (get_or grid e 0) 0)
