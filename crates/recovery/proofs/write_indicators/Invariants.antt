-- `recovery::write_indicators` meets its contract. The invariant of its loop: the rows of the gaps below p are written.
use Prim.Native.Nat.{◌-◌}
use lib.ListN.{length}
use Rattle.recovery.proofs.IndicatorRows.{RowsBelow}
use Rattle.recovery.proofs.write_indicators.Given as goal

abbrev pub invariant-loop-p : goal.invariant-loop-p
invariant-loop-p l =
    RowsBelow l.q l.columns l.word l.stride l.initial.vectors l.vectors l.count l.at l.p
