-- `text::digits` meets its contract.
use mathlib.Core.Path.{◌≡◌}
use mathlib.Core.List.{map}
use Prim.Native.Nat.{◌+◌}
use lib.ListN.{length, take}
use lib.Seq.{sets}
use Rattle.lines.specs.Text.{hex_digit}
use Rattle.lines.proofs.text.digits.Given as goal

abbrev pub invariant-loop-value : goal.invariant-loop-value
invariant-loop-value l =
    (l.end ≡ l.at + l.value-index) × (length l.out ≡ length l.initial.out) × (l.out ≡ sets l.initial.out l.at (map hex_digit (take l.value-index l.values)))
