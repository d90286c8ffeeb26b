-- The highest of a list of numbers, as an inner function finds it.
use Rattle.std.specs.Prelude.{List, ◌≡◌, ℕ, ◌≤◌, ◌<◌, get_or}

-- high is the highest of the first n numbers, or 0 where there are none
pub record Highest (values : List ℕ) (n high : ℕ) : Type 0 where
  pub bound : (i : ℕ) → i < n → get_or values i 0 ≤ high
  pub one : (high ≡ 0 → ⊥) → (i : ℕ) × (i < n) × (get_or values i 0 ≡ high)
