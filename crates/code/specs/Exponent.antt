-- The r for which Q^r is n, worked out as the least r with Q^r at least n.
use Rattle.std.specs.Prelude.{cond, ℕ, zero, suc, ◌^◌, leb}

-- from r upwards, at most `steps` steps
unfoldable pub exponent_from : ℕ → ℕ → ℕ → ℕ → ℕ
exponent_from zero Q n r = r
exponent_from (suc steps) Q n r = let higher = exponent_from steps Q n (suc r) in cond (leb n (Q ^ r)) r higher

unfoldable pub exponent : ℕ → ℕ → ℕ
unfolding exponent_from
exponent Q n = exponent_from n Q n 0
