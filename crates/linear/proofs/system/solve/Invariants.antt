-- `linear::system::solve` meets its contract. The invariant of its loop is `Solving`, and a turn is a lemma of `Substitution`.
use Rattle.field.proofs.Fields.{field_of}
use Rattle.linear.specs.Inner.Systems.{flat}
use Rattle.linear.proofs.Substitution.{Solving}
use Rattle.linear.proofs.system.solve.Given as goal

abbrev pub invariant-loop-p : goal.invariant-loop-p
invariant-loop-p l = Solving (field_of l.q) l.k (flat l.stride l.k l.work) l.initial.message l.message l.p
