-- Polynomials over a field of characteristic 2: f i is the coefficient of x^i. Since - is +, x - a is plus x a.
use Rattle.std.specs.Prelude.{◌≡◌, List, [], ◌∷◌, ℕ, zero, suc, ◌*◌, ◌%◌, ◌≤◌, ◌<◌, length, get_or}
use Rattle.field.specs.Plus.{plus}
use Rattle.field.specs.Field.{Field}
use Rattle.field.specs.Power.{power}
use Rattle.field.specs.Sum.{sum}
use Rattle.poly.specs.Lists.{without}

-- f 0 + f 1 * x + .. + f (n - 1) * x^(n - 1)
unfoldable pub value : Field → ℕ → (ℕ → ℕ) → ℕ → ℕ
value F n f x = sum n (λ i. F.times (f i) (power F x i))

-- at least one of the first count coefficients, and all that are not 0
pub record Terms (f : ℕ → ℕ) (count n : ℕ) : Type 0 where
  pub some : 1 ≤ n
  pub within : n ≤ count
  pub zeros : (i : ℕ) → n ≤ i → i < count → f i ≡ 0

-- the derivative: i + 1 times the coefficient of x^(i + 1). In characteristic 2 a term of even degree vanishes
unfoldable pub derivative : (ℕ → ℕ) → ℕ → ℕ
derivative f i = suc i % 2 * f (suc i)

-- f times (x - a)
unfoldable pub linear : Field → ℕ → (ℕ → ℕ) → ℕ → ℕ
linear F a f zero = F.times a (f zero)
linear F a f (suc i) = plus (F.times a (f (suc i))) (f i)

-- the vanishing polynomial of l: the product of (x - a) over the numbers a of l
unfoldable pub vanishing : Field → List ℕ → ℕ → ℕ
unfolding linear
vanishing F [] zero = 1
vanishing F [] (suc i) = 0
vanishing F (a ∷ l) i = linear F a (vanishing F l) i

-- its value at x
unfoldable pub product : Field → List ℕ → ℕ → ℕ
product F [] x = 1
product F (a ∷ l) x = F.times (plus x a) (product F l x)

-- the product without the factor of the number t of l
unfoldable pub others : Field → List ℕ → ℕ → ℕ → ℕ
others F l t x = product F (without l t) x

-- out has the coefficients of the vanishing polynomial of the columns
pub record Vanishing (F : Field) (columns out : List ℕ) : Type 0 where
  pub long : length columns < length out
  pub is : (i : ℕ) → get_or out i 0 ≡ vanishing F columns i
