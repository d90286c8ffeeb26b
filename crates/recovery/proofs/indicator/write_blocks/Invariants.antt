-- `recovery::indicator::write_blocks` meets its contract. The invariant of its loop: the blocks from b on are written.
use Rattle.recovery.proofs.IndicatorBlocks.{BlocksFrom}
use Rattle.recovery.proofs.indicator.write_blocks.Given as goal

abbrev pub invariant-loop-b : goal.invariant-loop-b
invariant-loop-b l = BlocksFrom l.q l.c l.count l.last l.initial.grid l.grid l.factor l.b
