-- Sixteen numbers side by side, a lane for each.
use Rattle.std.specs.Prelude.{List, ℕ, replicate}
use Rattle.poly.specs.Inner.Ranges.{writes}

-- f 0, f 1, .., f 15
unfoldable pub lanes : (ℕ → ℕ) → List ℕ
lanes f = writes (replicate 16 0) 16 f
