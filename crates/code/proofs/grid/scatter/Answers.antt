-- `code::grid::scatter` meets its contract: the first n coefficients are laid out.
-- Assumes nothing.
use mathlib.Core.Path.{refl, sym, ◌∙◌}
use Prim.Native.Nat.{◌<◌}
use native.Mathlib.Nat.{le_antisymm}
use native.Mathlib.Omega.{arith}
use lib.ListN.{length-set}
use Rattle.code.specs.Inner.Grid.{entries_of}
use Rattle.code.specs.Terms.{size}
use Rattle.code.proofs.Weights.{curve_pos}
use Rattle.code.proofs.GridEntries.{laid_none, laid_turn, laid_all, entry_at_most}
use Rattle.code.proofs.grid.scatter.Goals as goal
use Rattle.code.proofs.grid.scatter.Goals.{In-loop-n}

-- n is the number of a term
number : (c : goal.In-loop-n) → let x = c.args in c.loop-n.n < size x.q x.m
number c = omega (arith, c.loop-n-test.true, c.requires.curve.2)

pub loop-n-init : goal.loop-n-init
loop-n-init c = let x = c.args in
    (omega arith, refl, sym (laid_none (entries_of x.q x.m) x.message.now x.grid.now))

pub bounds-grid-e : goal.bounds-grid-e
bounds-grid-e c =
    let q = c.args.q in
    let i = number (goal.at.bounds-grid-e c).In-loop-n in
    omega (
      arith,
      c.entry-e.ensures c.args.m i,
      entry_at_most q (curve_pos q c.requires.curve.0) c.args.m
          c.loop-n.n i,
      c.requires.curve.1,
      c.loop-n.invariant.1,
    )

pub loop-n-preserved : goal.loop-n-preserved
loop-n-preserved c =
    let l = c.loop-n in
    let x = c.args in (
      omega arith,
      simp length-set l.invariant.1,
      laid_turn (entries_of x.q x.m) x.message.now x.grid.now l.grid l.n _ l.invariant.2
          (c.entry-e.ensures x.m (number (goal.at.loop-n-preserved c).In-loop-n)),
    )

pub returns : goal.returns
returns c =
    let l = c.loop-n in
    let x = c.args in
    laid_all x.q (curve_pos x.q c.requires.curve.0) x.m x.message.now x.grid.now l.grid l.n c.requires.grid_value l.invariant.2
    (le_antisymm l.invariant.0 c.loop-n-test.false ∙ c.requires.curve.2)
