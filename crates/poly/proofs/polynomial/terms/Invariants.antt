-- `poly::polynomial::terms` meets its contract. The invariant of its loop: the coefficients from i on are 0.
use Prim.Native.Nat.{◌+◌, ◌*◌}
use lib.ListN.{get_or}
use Rattle.poly.specs.Inner.Polynomials.{Terms}
use Rattle.poly.proofs.polynomial.terms.Given as goal

abbrev pub invariant-loop-i : goal.invariant-loop-i
invariant-loop-i l = Terms (λ k. get_or l.list (l.stride * k + l.start) 0) l.count l.i
