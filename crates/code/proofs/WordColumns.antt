-- Words column by column.
-- Assumes nothing.
use mathlib.Core.List.{List}
use mathlib.Core.Path.{◌≡◌, ap, ◌∙◌}
use Prim.Native.Nat.{ℕ, ◌+◌, ◌*◌, ◌<◌}
use native.Mathlib.Omega.{arith}
use lib.ListN.{length, get_or}
use Rattle.field.specs.Curve.{IsCurve}
use Rattle.poly.proofs.Blocks.{block_fits}
use Rattle.points.specs.Points.{ys_of}
use Rattle.points.proofs.Points.{length_points, points_at}
use Rattle.code.specs.Word.{value_at, word_of}
use Rattle.code.proofs.Word.{length_word, word_at_point}

module _ (q m : ℕ) (curve : IsCurve q) (message columns : List ℕ) (small : (t : ℕ) → t < length columns → get_or columns t 0 < q * q) where
  pub word_length : length (word_of q columns m message) ≡ q * length columns
  word_length = length_word q columns m message ∙ length_points q curve columns small

  -- the symbol at place q * t + s is the value at the point s of column t
  pub word_at : (t s : ℕ) → t < length columns → s < q
      → get_or (word_of q columns m message) (q * t + s) 0 ≡ value_at q m message (get_or columns t 0) (get_or (ys_of q (get_or columns t 0)) s 0)
  word_at t s a b =
      word_at_point q columns m message (q * t + s) (omega (arith, length_points q curve columns small, block_fits q t (length columns) a))
      ∙ ap (λ (p : ℕ × ℕ). value_at q m message p.0 p.1) (points_at q curve columns small t s a b)
