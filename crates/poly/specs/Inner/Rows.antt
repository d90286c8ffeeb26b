-- Row operations on lists.
use Rattle.std.specs.Prelude.{List, ℕ, ◌+◌, ◌*◌, length}
use Rattle.field.specs.Plus.{plus}
use Rattle.field.specs.Field.{Field}
use Rattle.poly.specs.Inner.Ranges.{writes, part, put}
use Rattle.poly.specs.Inner.Linear.{entry}

-- dst with c times src added, at the first n places
unfoldable pub added : Field → ℕ → ℕ → List ℕ → List ℕ → List ℕ
added F c n src dst = writes dst n (λ j. plus (entry dst j) (F.times c (entry src j)))

-- dst with src added, at the first n places
unfoldable pub summed : ℕ → List ℕ → List ℕ → List ℕ
summed n src dst = writes dst n (λ j. plus (entry dst j) (entry src j))

-- row with its first n elements multiplied by c
unfoldable pub scaled : Field → ℕ → ℕ → List ℕ → List ℕ
scaled F c n row = writes row n (λ j. F.times c (entry row j))

-- row with its first n elements divided by that at i
unfoldable pub divided : Field → ℕ → ℕ → List ℕ → List ℕ
divided F i n row = scaled F (F.inverse (entry row i)) n row

-- dst with the first n elements of src in the place of its own
unfoldable pub stored : ℕ → List ℕ → List ℕ → List ℕ
stored n src dst = writes dst n (entry src)

-- work with the first n elements of row in row i, which stands from i * stride on
unfoldable pub placed : ℕ → ℕ → ℕ → List ℕ → List ℕ → List ℕ
placed stride n i row work = put work (i * stride) (i * stride + stride) (stored n row (part work (i * stride) (i * stride + stride)))

-- w with c times its entry i times v added
unfoldable pub cleared : Field → ℕ → ℕ → (ℕ → ℕ) → List ℕ → List ℕ
cleared F i c v w = writes w (length w) (λ j. plus (entry w j) (F.times (F.times (entry w i) c) (v j)))
