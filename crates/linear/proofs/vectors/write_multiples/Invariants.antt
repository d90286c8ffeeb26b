-- `linear::vectors::write_multiples` meets its contract. The invariant of its loop: the rows before 2·a, as far as they are asked for,
use Prim.Native.Nat.{ℕ, ◌+◌, ◌*◌, ◌≤◌}
use Rattle.field.specs.Inner.Halves.{half_of}
use Rattle.field.proofs.Fields.{field_of}
use Rattle.poly.specs.Inner.Linear.{entry}
use Rattle.linear.specs.Inner.Eliminating.{Table, Multiples}
use Rattle.linear.proofs.vectors.write_multiples.Given as goal

abbrev pub invariant-loop-a : goal.invariant-loop-a
invariant-loop-a l =
    Table (field_of l.q) l.n (half_of l.q) l.table
    × ((m : ℕ) → m ≤ 2 * l.a → m ≤ half_of l.q → Multiples (field_of l.q) l.n m (λ j. entry l.initial.table (l.n + j)) l.table)
