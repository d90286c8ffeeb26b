-- Interleaved polynomials: where their numbers stand, in parts of the list too, and the sum in two variables that they make.
-- Assumes nothing.
use mathlib.Core.Path.{◌≡◌, sym, ap, ◌∙◌}
use mathlib.Core.List.{List}
use Prim.Native.Nat.{ℕ, ◌+◌, ◌*◌, ◌<◌}
use native.Mathlib.Nat.{mul-suc, mul-add, mul-le-mul_left}
use native.Mathlib.Omega.{arith}
use lib.ListN.{get_or, take, drop}
use lib.Seq.{get_or-take, get_or-drop}
use Rattle.field.specs.Field.{Field}
use Rattle.poly.specs.Inner.Polynomials.{value}
use Rattle.poly.specs.Inner.Interpolation.{interleaved, row, bivariate}
use Rattle.poly.proofs.Values.{value_swap}

-- number j of row i stands before the end of row i
pub place_lt : (w i j n : ℕ) → j < w → i < n → w * i + j < w * n
place_lt w i j n h l = omega (arith, mul-suc w i, mul-le-mul_left w l)

pub place_add : (w h i j : ℕ) → w * (h + i) + j ≡ w * h + (w * i + j)
place_add w h i j = omega (arith, mul-add w h i)

pub interleaved_take : (w : ℕ) (s : List ℕ) (j h i : ℕ) → j < w → i < h → interleaved w (take (w * h) s) j i ≡ interleaved w s j i
interleaved_take w s j h i jw l = get_or-take (w * h) s (w * i + j) 0 (place_lt w i j h jw l)

pub interleaved_drop : (w : ℕ) (s : List ℕ) (j h i : ℕ) → interleaved w (drop (w * h) s) j i ≡ interleaved w s j (h + i)
interleaved_drop w s j h i = get_or-drop (w * h) s (w * i + j) 0 ∙ ap (λ (p : ℕ). get_or s p 0) (sym (place_add w h i j))

module _ (F : Field) where
  -- the sum in two variables, as a polynomial in y
  pub bivariate_interleaved : (w n : ℕ) (s : List ℕ) (x y : ℕ) → bivariate F w n s x y ≡ value F w (λ j. value F n (interleaved w s j) x) y
  unfolding bivariate row
  bivariate_interleaved w n s x y = value_swap F n w (λ i j. interleaved w s j i) x y
