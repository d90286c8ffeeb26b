-- `code::encoding::evaluate_rows` meets its contract: each turn writes the row of one power of y.
use mathlib.Core.Path.{◌≡◌}
use Prim.Native.Nat.{◌-◌, ◌*◌}
use lib.ListN.{length}
use Rattle.code.specs.Inner.Encodable.{Rowed}
use Rattle.code.proofs.encoding.evaluate_rows.Given as goal

abbrev pub invariant-loop-j : goal.invariant-loop-j
invariant-loop-j l =
    (l.at ≡ 16 * l.j) × (length l.rows ≡ length l.initial.rows) × Rowed l.q l.columns l.n l.grid l.rows l.j
