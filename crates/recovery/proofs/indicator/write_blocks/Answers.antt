-- `recovery::indicator::write_blocks` meets its contract. The invariant of its loop: the blocks from b on are written.
-- Assumes nothing.
use Rattle.field.proofs.Fields.{field_of}
use Rattle.field.proofs.Powers.{power_lt}
use Rattle.recovery.proofs.IndicatorBlocks.{blocks_none, blocks_turn}
use Rattle.recovery.proofs.indicator.write_blocks.Goals as goal

pub loop-b-init : goal.loop-b-init
loop-b-init c =
    blocks_none c.args.q c.args.c c.args.count c.args.last.now c.args.grid.now c.requires.count_in_bounds.1

pub scale-block-requires : goal.scale-block-requires
scale-block-requires c =
    (rw c.loop-b.invariant.is_factor (power_lt (field_of c.args.q) c.args.c _), c.requires.c_bound.1)

pub times-factor-requires : goal.times-factor-requires
times-factor-requires c =
    let l = c.loop-b in
    (c.requires.c_bound.0, rw l.invariant.is_factor (power_lt (field_of c.args.q) c.args.c _))

pub loop-b-preserved : goal.loop-b-preserved
loop-b-preserved c =
    let l = c.loop-b in
    let a = c.args in
    let test = c.loop-b-test.true in
    rw c.times-factor.ensures
    (blocks_turn a.q a.c a.count a.last.now a.grid.now l.grid l.factor l.b l.invariant test c.requires.count_in_bounds.0 _ _
    c.scale-block.ensures c.copy.ensures)
