-- Lists of numbers that strictly ascend.
use Rattle.std.specs.Prelude.{Bool, ◌&&◌, List, ℕ, suc, ◌-◌, ltb, length, get_or}
use Rattle.field.specs.Tests.{every}

-- each is less than the next
unfoldable pub is_ascending : List ℕ → Bool
is_ascending list = every (length list - 1) (λ i. ltb (get_or list i 0) (get_or list (suc i) 0))

-- each is below n
unfoldable pub are_below : ℕ → List ℕ → Bool
are_below n list = every (length list) (λ i. ltb (get_or list i 0) n)

unfoldable pub is_ascending_below : ℕ → List ℕ → Bool
is_ascending_below n list = is_ascending list && are_below n list
