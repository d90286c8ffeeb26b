-- The partner of an order (T-13): "n + 2g − 2 − m".
use Rattle.std.specs.Prelude.{ℕ, ◌+◌, ◌-◌, ◌*◌}
use Rattle.field.specs.Curve.{curve_of}

abbrev pub partner : ℕ → ℕ → ℕ
partner q m = (curve_of q).points + 2 * (curve_of q).genus - 2 - m
