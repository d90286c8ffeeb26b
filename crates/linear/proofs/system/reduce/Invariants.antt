-- `linear::system::reduce` meets its contract. The invariant of its loop is `Reducing`, and a turn is a lemma of `Reduction`.
use Rattle.field.proofs.Fields.{field_of}
use Rattle.linear.specs.Inner.Systems.{flat, Reducing}
use Rattle.linear.proofs.system.reduce.Given as goal

abbrev pub invariant-loop-i : goal.invariant-loop-i
invariant-loop-i l = Reducing (field_of l.q) l.k (flat l.stride l.k l.work) l.initial.row l.row l.i
