-- `interpolation::write_crossed` meets its contract: block by block. Assumes nothing.
use Prim.Native.Nat.{◌+◌, ◌-◌}
use lib.ListN.{length}
use Rattle.field.proofs.Fields.{field_of}
use Rattle.poly.specs.Inner.Interpolation.{crossed}
use Rattle.poly.proofs.Fillings.{Filled}
use Rattle.poly.proofs.interpolation.write_crossed.Given as goal

abbrev pub invariant-loop-at : goal.invariant-loop-at
invariant-loop-at l =
    Filled 0 (λ p. crossed (field_of l.q) l.w (length l.f) l.f l.g l.left l.right (32 + p)) l.initial.work l.work l.at

abbrev pub decreases-loop-at : goal.decreases-loop-at
decreases-loop-at l = l.n - l.at
