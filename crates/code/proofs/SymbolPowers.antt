-- Each symbol is a root of x^(q·q) + x.
-- Assumes nothing.
use mathlib.Core.Path.{◌≡◌, ◌∙◌}
use Prim.Native.Nat.{ℕ, ◌*◌, ◌<◌}
use lib.Dec.{T, eqb, eqb→eq}
use Rattle.field.specs.Power.{power}
use Rattle.field.specs.Product.{times}
use Rattle.field.specs.Curve.{IsCurve}
use Rattle.field.specs.Tests.{every}
use Rattle.field.proofs.Fields.{field_of}
use Rattle.field.proofs.Curves.{each_curve}
use Rattle.field.proofs.Powers.{squared, power_squared}
use Rattle.field.proofs.Search.{of_every}

powers_2 : T (every 4 (λ x. eqb (power (field_of 2) x 4) x))
unfolding times power every
powers_2 = tt

powers_4 : T (every 16 (λ x. eqb (power (field_of 4) x 16) x))
unfolding times power every
powers_4 = tt

-- by six squarings
powers_8 : T (every 64 (λ x. eqb (squared (field_of 8) 6 x) x))
unfolding times every squared
powers_8 = tt

pub power_size : (q : ℕ) → IsCurve q → (x : ℕ) → x < q * q → power (field_of q) x (q * q) ≡ x
power_size =
    each_curve (λ q. (x : ℕ) → x < q * q → power (field_of q) x (q * q) ≡ x)
    (λ x l. eqb→eq (power (field_of 2) x 4) x (of_every 4 (λ x. eqb (power (field_of 2) x 4) x) powers_2 x l))
    (λ x l. eqb→eq (power (field_of 4) x 16) x (of_every 16 (λ x. eqb (power (field_of 4) x 16) x) powers_4 x l))
    (λ x l. power_squared (field_of 8) 6 x l
    ∙ eqb→eq (squared (field_of 8) 6 x) x (of_every 64 (λ x. eqb (squared (field_of 8) 6 x) x) powers_8 x l))
