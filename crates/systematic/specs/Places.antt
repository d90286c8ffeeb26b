-- "k places, strictly ascending" (T-10).
use Rattle.std.specs.Prelude.{Bool, ◌&&◌, List, ℕ, eqb, length}
use Rattle.poly.specs.Ascending.{is_ascending_below}

-- not "15: places not ascending, not k, or n or more"
unfoldable pub good_places : ℕ → ℕ → List ℕ → Bool
good_places k n places = eqb (length places) k && is_ascending_below n places
