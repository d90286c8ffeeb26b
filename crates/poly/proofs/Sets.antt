-- Lists of the elements that have a property.
-- Assumes nothing.
use mathlib.Core.Path.{◌≡◌}
use mathlib.Core.Logic.{◌↔◌}
use mathlib.Core.List.{List}
use Prim.Native.Nat.{◌≤◌}
use native.Mathlib.Omega.{arith}
use lib.ListN.{length}
use Rattle.poly.specs.Sets.{ListOf}
use Rattle.poly.proofs.Lists.{pigeonhole}

module _ {A : Type 0} where
  fits_in : (P : A → Type 0) (l m : List A) → ListOf P l → ListOf P m → length l ≤ length m
  fits_in P l m h k = pigeonhole l m h.distinct (λ x i. k.whole x (h.sound x i))

  -- two lists of the same elements are as long as each other
  pub same_length : (P : A → Type 0) (l m : List A) → ListOf P l → ListOf P m → length l ≡ length m
  same_length P l m h k = omega (arith, fits_in P l m h k, fits_in P m l k h)

  -- a property that comes to the same has the same list
  pub list_iff : (P R : A → Type 0) (l : List A) → ((x : A) → P x ↔ R x) → ListOf P l → ListOf R l
  list_iff P R l e h =
      record { distinct = h.distinct; sound = λ x m. (e x).0 (h.sound x m); whole = λ x r. h.whole x ((e x).1 r) }
