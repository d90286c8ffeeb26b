-- `code::term::entries` meets its contract: the entries of the first n terms are written.
-- Assumes nothing.
use mathlib.Core.Path.{refl}
use Prim.Native.Nat.{◌<◌}
use native.Mathlib.Omega.{arith}
use lib.ListN.{get_or}
use Rattle.poly.specs.Inner.Ranges.{writes}
use Rattle.poly.proofs.Writes.{writes_turn}
use Rattle.code.specs.Terms.{size}
use Rattle.code.specs.Inner.Grid.{entries_of}
use Rattle.code.proofs.Weights.{curve_pos}
use Rattle.code.proofs.GridEntries.{entry_at_most}
use Rattle.code.proofs.term.entries.Goals as goal
use Rattle.code.proofs.term.entries.Goals.{In-loop-n}

-- n is the number of a term
number : (c : goal.In-loop-n) → let x = c.args in c.loop-n.n < size x.q x.m
number c = omega (arith, c.loop-n-test.true, c.size-k.ensures)

pub loop-n-init : goal.loop-n-init
unfolding writes
loop-n-init c = (omega arith, refl)

pub overflow_cast-list : goal.overflow_cast-list
overflow_cast-list c =
    let q = c.args.q in
    let i = number (goal.at.overflow_cast-list c).In-loop-n in
    omega (arith, c.entry.ensures c.args.m i, entry_at_most q (curve_pos q c.requires.0) c.args.m c.loop-n.n i, c.requires.1)

pub loop-n-preserved : goal.loop-n-preserved
loop-n-preserved c =
    let l = c.loop-n in
    let x = c.args in (
      omega arith,
      writes_turn x.list.now (λ n. get_or (entries_of x.q x.m) n 0) l.list l.n _ l.invariant.1
          (c.entry.ensures x.m (number (goal.at.loop-n-preserved c).In-loop-n)),
    )
