-- `field::symbol::shift` meets its contract: the comparison tells whether a bit comes out.
-- Assumes nothing.
use mathlib.Core.Path.{sym, ap, ◌∙◌}
use Prim.Native.Nat.{ℕ, ◌+◌}
use native.Mathlib.Omega.{arith}
use Rattle.field.specs.Curve.{bits_of}
use Rattle.field.specs.Plus.{plus}
use Rattle.field.proofs.Plus.{is_plus}
use Rattle.field.proofs.Fields.{two_bits}
use Rattle.field.proofs.Formula.{times_z_within, times_z_out}
use Rattle.field.proofs.symbol.shift.Goals as goal

pub returns-then-double-size : goal.returns-then-double-size
returns-then-double-size c =
    let x = c.args in
    sym (times_z_within (bits_of x.q) x.a (omega (arith, c.requires.0, c.if-double-size.true)))

pub returns-else-double-size : goal.returns-else-double-size
returns-else-double-size c =
    let x = c.args in
    let e = c.requires.0 in
    is_plus (x.a + x.a) (x.size + 3) ∙ ap (λ (n : ℕ). plus (x.a + x.a) (n + 3)) e
    ∙ sym (times_z_out (bits_of x.q) x.a (two_bits x.q) (omega (arith, e, c.if-double-size.false)) (omega (arith, e, c.requires.1)))
