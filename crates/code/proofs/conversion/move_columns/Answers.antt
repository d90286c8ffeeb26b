-- `code::conversion::move_columns` meets its contract: each turn moves one column.
-- Assumes nothing.
use Prim.Native.Nat.{◌+◌, ◌*◌, ◌≤◌, ◌<◌}
use native.Mathlib.Omega.{arith}
use lib.ListN.{length, get_or}
use Rattle.field.proofs.Curves.{sizes}
use Rattle.code.proofs.Moving.{part_fits, moved_more}
use Rattle.code.proofs.conversion.move_columns.Goals as goal
use Rattle.code.proofs.conversion.move_columns.Goals.{In-loop-t}

-- the column's parts are within the word and within out, which are short
fits : (c : goal.In-loop-t) → let x = c.args in let l = c.loop-t in
    (x.q * get_or x.from.now l.t 0 + x.q ≤ length x.word.now)
    × (x.q * get_or x.to.now l.t 0 + x.q ≤ length l.out)
    × (length l.out ≤ 512)
    × (length x.word.now ≤ 512)
    × (l.t < length x.to.now)
fits c =
    let x = c.args in
    let l = c.loop-t in
    let k : l.t < length x.to.now = omega (arith, c.loop-t-test.true, c.requires.within.2) in (
      c.requires.within.0 l.t c.loop-t-test.true,
      omega (arith, part_fits x.q x.to.now c.requires.within.1 l.t k, l.invariant.1.long),
      omega (arith, (sizes x.q c.requires.within.1.curve).points, l.invariant.1.long),
      omega (arith, (sizes x.q c.requires.within.1.curve).points, c.requires.word_len_bound.0),
      k,
    )

pub loop-t-preserved : goal.loop-t-preserved
loop-t-preserved c =
    let x = c.args in
    let l = c.loop-t in
    let e = c.copy in (
      omega arith,
      moved_more x.q x.from.now x.to.now x.word.now x.out.now l.out e.new.dst l.t c.requires.within.1 (fits (goal.at.loop-t-preserved c).In-loop-t).4 l.invariant.1 e.ensures,
    )
