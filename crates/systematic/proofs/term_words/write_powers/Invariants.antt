-- `systematic::term_words::write_powers` meets its contract. The invariant of its loop: the rows of the powers below i are written.
use Prim.Native.Nat.{◌-◌}
use Rattle.systematic.proofs.TermRows.{PowersBelow}
use Rattle.systematic.proofs.term_words.write_powers.Given as goal

abbrev pub invariant-loop-i : goal.invariant-loop-i
invariant-loop-i l = PowersBelow l.q l.base l.initial.table l.table l.row l.at l.i
