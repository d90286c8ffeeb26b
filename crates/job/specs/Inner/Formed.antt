-- A test of any bytes: whether a work slice is well formed.
use Rattle.std.specs.Prelude.{Bool, false, not, ◌||◌, ◌&&◌, List, ℕ, ◌+◌, ◌*◌, eqb, leb, ltb, length}
use Rattle.field.specs.Tests.{every}
use Rattle.field.specs.Values.{bad_value, first_bad}
use Rattle.poly.specs.Inner.Linear.{entry}

-- row p has 0 or 1 at its own unknown, and if 1, 0 at each later one
unfoldable pub row_formed : (stride k : ℕ) → List ℕ → ℕ → Bool
row_formed stride k work p =
    leb (entry work (p * stride + p)) 1
    && (not (eqb (entry work (p * stride + p)) 1) || every k (λ j. leb j p || eqb (entry work (p * stride + j)) 0))

abbrev pub rows_formed : (stride k : ℕ) → List ℕ → Bool
rows_formed stride k work = every k (row_formed stride k work)

-- every byte is a symbol
abbrev pub symbols_below : ℕ → List ℕ → Bool
symbols_below Q work = not (ltb (first_bad (bad_value false Q) work) (length work))

unfoldable pub well_formed : (Q stride k : ℕ) → List ℕ → Bool
well_formed Q stride k work =
    ltb k stride && (eqb (length work) (stride * stride) && (symbols_below Q work && rows_formed stride k work))
