-- The product of long blocks meets its contract: by the four lowest bits, and by two more.
-- Assumes nothing.
use mathlib.Core.Path.{refl, sym, ap, ap₂, ◌∙◌}
use Prim.Native.Nat.{ℕ, ◌*◌, ◌/◌, ◌%◌}
use Rattle.field.specs.Curve.{bits_of}
use Rattle.field.specs.Plus.{plus}
use Rattle.field.specs.Product.{times_z, times}
use Rattle.field.proofs.Plus.{is_plus}
use Rattle.field.proofs.Formula.{times_z_symbol, times_by_six}
use Rattle.field.proofs.symbol.LongBlocksProduct.times.Goals as goal

pub shift-a5-requires : goal.shift-a5-requires
shift-a5-requires c = (refl, times_z_symbol 8 _ c.times_z_4-a4.result c.times_z_4-a4.ensures)

pub returns : goal.returns
returns c =
    let a = c.args.a in
    let b = c.args.b in
    let b4 : ℕ = b / 2 / 2 / 2 / 2 in
    let e4 = c.times_z_4-a4.ensures in
    let e5 = c.shift-a5.ensures ∙ ap (times_z 6) e4 in
    let high = is_plus _ _ ∙ ap₂ plus (c.times_bit.ensures ∙ ap (λ (x : ℕ). b4 % 2 * x) e4)
    (c.times_bit-2.ensures ∙ ap (λ (x : ℕ). b4 / 2 % 2 * x) e5) in
    let long = rw c.requires.blocks at c.requires.symbols in
    is_plus _ _ ∙ ap₂ plus c.times_four_bits-low.ensures high ∙ sym (times_by_six a b long.0)
    ∙ ap (λ q. times (bits_of q) a b) (sym c.requires.blocks)
