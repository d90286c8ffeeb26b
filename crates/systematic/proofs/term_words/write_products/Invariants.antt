-- `systematic::term_words::write_products` meets its contract. The invariant of its loop: the rows of the terms below t are written.
use Prim.Native.Nat.{◌-◌}
use Rattle.systematic.proofs.TermRows.{ProductsBelow}
use Rattle.systematic.proofs.term_words.write_products.Given as goal

abbrev pub invariant-loop-t : goal.invariant-loop-t
invariant-loop-t l = ProductsBelow l.q l.m l.xpowers l.ypowers l.initial.vectors l.vectors l.at l.t
