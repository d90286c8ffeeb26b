-- `field::symbol::times_four_bits` meets its contract: bit by bit.
-- Assumes nothing.
use mathlib.Core.Path.{◌≡◌, ap, ap₂, ◌∙◌}
use Prim.Native.Nat.{ℕ, ◌*◌, ◌/◌, ◌%◌, ◌^◌, ◌<◌}
use native.Mathlib.Omega.{arith}
use Rattle.field.specs.Curve.{bits_of}
use Rattle.field.specs.Plus.{plus}
use Rattle.field.specs.Product.{times_z}
use Rattle.field.proofs.Plus.{is_plus}
use Rattle.field.proofs.Formula.{times_z_symbol}
use Rattle.field.proofs.symbol.times_four_bits.Goals as goal

-- what is z times a number is a symbol
symbol : (q size a r : ℕ) → size ≡ 2 ^ bits_of q → r ≡ times_z (bits_of q) a → r < size
symbol q size a r e f = omega (arith, e, times_z_symbol q a r f)

pub shift-a2-requires : goal.shift-a2-requires
shift-a2-requires c = let x = c.args in (c.requires.0, symbol x.q x.size x.a c.shift-a1.result c.requires.0 c.shift-a1.ensures)

pub shift-a3-requires : goal.shift-a3-requires
shift-a3-requires c = let x = c.args in (c.requires.0, symbol x.q x.size c.shift-a1.result c.shift-a2.result c.requires.0 c.shift-a2.ensures)

pub returns : goal.returns
returns c =
    let q = c.args.q in
    let z : ℕ → ℕ = times_z (bits_of q) in
    let e1 = c.shift-a1.ensures in
    let e2 = c.shift-a2.ensures ∙ ap z e1 in
    let e3 = c.shift-a3.ensures ∙ ap z e2 in
    let b1 = c.args.b / 2 in
    let low = is_plus _ _ ∙ ap₂ plus c.times_bit.ensures
    (c.times_bit-2.ensures ∙ ap (λ (x : ℕ). b1 % 2 * x) e1) in
    let high = is_plus _ _ ∙ ap₂ plus (c.times_bit-3.ensures ∙ ap (λ (x : ℕ). b1 / 2 % 2 * x) e2)
    (c.times_bit-4.ensures ∙ ap (λ (x : ℕ). b1 / 2 / 2 % 2 * x) e3) in
    is_plus _ _ ∙ ap₂ plus low high
