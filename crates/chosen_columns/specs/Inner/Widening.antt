-- A broken word over some columns as one over all of them.
use Rattle.std.specs.Prelude.{List, ◌≡◌, ℕ, ◌+◌, ◌*◌, ◌<◌, length, get_or}

-- wide has over all columns, ascending, what broken has over its own, and gaps elsewhere
pub record Widened (q : ℕ) (columns broken wide : List ℕ) : Type 0 where
  pub long : length wide ≡ q * q * q
  pub inside : (t s : ℕ) → t < length columns → s < q → get_or wide (q * get_or columns t 0 + s) 0 ≡ get_or broken (q * t + s) 0
  pub outside : (x s : ℕ) → x < q * q → s < q → ((t : ℕ) → t < length columns → get_or columns t 0 ≡ x → ⊥) → get_or wide (q * x + s) 0 ≡ 255
