-- `code::grid::gather` meets its contract: the first n coefficients are gathered.
-- Assumes nothing.
use mathlib.Core.Path.{refl, ap, ◌∙◌}
use Prim.Native.Nat.{ℕ, ◌<◌}
use native.Mathlib.Omega.{arith}
use lib.ListN.{length, get_or, length-set}
use Rattle.poly.specs.Inner.Ranges.{writes}
use Rattle.poly.proofs.Writes.{writes_turn, writes_end}
use Rattle.code.specs.Terms.{size}
use Rattle.code.specs.Inner.Grid.{entries_of, listed}
use Rattle.code.proofs.Weights.{curve_pos}
use Rattle.code.proofs.GridEntries.{gather_written, entry_at_most}
use Rattle.code.proofs.grid.gather.Goals as goal
use Rattle.code.proofs.grid.gather.Goals.{In-loop-n}

-- n is the number of a term
number : (c : goal.In-loop-n) → let x = c.args in c.loop-n.n < size x.q x.m
number c = omega (arith, c.loop-n-test.true, c.loop-n.invariant.1, c.requires.2)

pub loop-n-init : goal.loop-n-init
unfolding writes
loop-n-init c = (omega arith, refl, refl)

pub bounds-grid-e : goal.bounds-grid-e
bounds-grid-e c =
    let q = c.args.q in
    let i = number (goal.at.bounds-grid-e c).In-loop-n in
    omega (
      arith,
      c.entry-e.ensures c.args.m i,
      entry_at_most q (curve_pos q c.requires.0) c.args.m
          c.loop-n.n i,
      c.requires.1,
    )

pub loop-n-preserved : goal.loop-n-preserved
loop-n-preserved c =
    let l = c.loop-n in
    let x = c.args in (
      omega (arith, l.invariant.1, c.loop-n-test.true),
      simp length-set l.invariant.1,
      writes_turn x.message.now (listed (entries_of x.q x.m) x.grid.now) l.message l.n _ l.invariant.2
          (ap (λ (e : ℕ). get_or x.grid.now e 0) (c.entry-e.ensures x.m (number (goal.at.loop-n-preserved c).In-loop-n))),
    )

pub returns : goal.returns
returns c =
    let l = c.loop-n in
    let x = c.args in
    writes_end x.message.now (listed (entries_of x.q x.m) x.grid.now) l.message l.n (length x.message.now) l.invariant.2
    l.invariant.0
    (omega (arith, l.invariant.1, c.loop-n-test.false))
    ∙ gather_written x.q (curve_pos x.q c.requires.0) x.m x.grid.now x.message.now c.requires.2
