-- `mend::locator::write_starts` meets its contract: term by term. Assumes nothing.
use mathlib.Core.Path.{refl}
use Prim.Native.Nat.{◌+◌, ◌*◌, ◌≤◌, ◌<◌}
use native.Mathlib.Omega.{arith}
use Rattle.poly.specs.Inner.Ranges.{writes}
use Rattle.poly.proofs.Writes.{writes_turn}
use Rattle.code.specs.Terms.{size}
use Rattle.mend.specs.Inner.Products.{start_of}
use Rattle.mend.proofs.TermStarts.{start_is, start_small, starts_written}
use Rattle.mend.proofs.locator.write_starts.Goals as goal
use Rattle.mend.proofs.locator.write_starts.Goals.{After-divide-d, In-loop-n}

-- n is the number of a term
number : (c : goal.In-loop-n) → let x = c.args in c.loop-n.n < size x.q x.s
number c = omega (arith, c.loop-n-test.true, c.size-k.ensures)

-- its start is small
small : (c : goal.After-divide-d) → let x = c.args in
    64 * x.count * c.divide-d.result.rest + 64 * c.divide-d.result.whole ≤ 8192
small c =
    let n = number (goal.at.After-divide-d c).In-loop-n in
    start_small c.args.q c.requires.0 c.args.s c.loop-n.n c.entry-e.result _ _ n
    (c.entry-e.ensures c.args.s n) c.divide-d.ensures c.requires.1 c.args.count c.requires.2

pub loop-n-init : goal.loop-n-init
unfolding writes
loop-n-init c = (omega arith, refl)

pub overflow_mul-starts-in-loop-n-2 : goal.overflow_mul-starts-in-loop-n-2
overflow_mul-starts-in-loop-n-2 c = omega (arith, small (goal.at.overflow_mul-starts-in-loop-n-2 c).After-divide-d)

pub overflow_add-starts : goal.overflow_add-starts
overflow_add-starts c = omega (arith, small (goal.at.overflow_add-starts c).After-divide-d)

pub overflow_cast-starts : goal.overflow_cast-starts
overflow_cast-starts c = omega (arith, small (goal.at.overflow_cast-starts c).After-divide-d)

pub loop-n-preserved : goal.loop-n-preserved
loop-n-preserved c =
    let x = c.args in
    let l = c.loop-n in
    let n = number (goal.at.loop-n-preserved c).In-loop-n in (
      omega (arith, c.loop-n-test.true),
      writes_turn x.starts.now (start_of x.q x.s x.count) l.starts l.n _ l.invariant.1
          (start_is x.q c.requires.0 x.s l.n c.entry-e.result _ _ n
          (c.entry-e.ensures x.s n) c.divide-d.ensures x.count),
    )

pub returns : goal.returns
returns c =
    let x = c.args in
    let l = c.loop-n in
    starts_written x.q x.s x.count x.starts.now l.starts l.n l.invariant.1
    (omega (arith, l.invariant.0, c.loop-n-test.false, c.size-k.ensures)) c.requires.3
