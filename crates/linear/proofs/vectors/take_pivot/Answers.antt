-- `linear::vectors::take_pivot` meets its contract.
-- Assumes nothing.
use mathlib.Core.List.{List, ◌++◌}
use mathlib.Core.Path.{◌≡◌}
use Prim.Native.Nat.{ℕ}
use lib.ListN.{length, take, drop}
use Rattle.field.specs.Inner.Halves.{half_of}
use Rattle.field.proofs.Fields.{field_of}
use Rattle.poly.specs.Inner.Linear.{entry}
use Rattle.poly.proofs.Entries.{zeros}
use Rattle.poly.proofs.Parts.{below_part}
use Rattle.field.proofs.Halves.{two_le_half}
use Rattle.linear.proofs.Eliminating.{symbols_fit, Factors, factors_lent, factors_written, Tabulated, first_long, others_long}
use Rattle.linear.proofs.Eliminating.{tabulated, clearing_of, pivot_taken}
use Rattle.linear.proofs.vectors.take_pivot.Goals as goal
use Rattle.linear.proofs.vectors.take_pivot.Goals.{After-write_factors, After-write_tables}

abbrev factors : (c : goal.After-write_factors) → List ℕ
factors c = c.write_factors.new.factors ++ drop c.size-symbols.result (zeros 64)

written : (c : goal.After-write_factors)
    → Factors (field_of c.args.q) ((field_of c.args.q).inverse (entry c.args.vectors.now c.args.i)) (factors (goal.at.After-write_factors c).After-write_factors)
written c =
    let F = field_of c.args.q in
    let e = c.inverse-c.ensures in
    factors_written F (F.inverse (entry c.args.vectors.now c.args.i)) c.size-symbols.result (symbols_fit c.args.q)
    c.size-symbols.ensures c.write_factors.new.factors (rw e at c.write_factors.ensures)

tables : (c : goal.After-write_tables)
    → Tabulated (field_of c.args.q) (half_of c.args.q) c.args.n c.args.i c.args.vectors.now
    (factors (goal.at.After-write_tables c).After-write_factors) c.write_tables.new.low c.write_tables.new.top
tables c =
    tabulated (field_of c.args.q) (half_of c.args.q) c.args.n c.args.i c.args.count c.args.vectors.now c.requires.table.2
    c.requires.vectors_len.0 c.requires.vectors_len.1 (factors (goal.at.After-write_tables c).After-write_factors)
    c.write_tables.new.low c.write_tables.new.top (two_le_half c.args.q)
    (written (goal.at.After-write_tables c).After-write_factors) (c.write_tables.ensures.table_2, c.write_tables.ensures.multiples)

first_is : (c : goal.After-write_tables)
    → length (take c.args.n c.args.vectors.now) ≡ c.args.n
first_is c =
    first_long c.args.n c.args.count c.args.vectors.now c.requires.vectors_len.0

pub write_factors-requires : goal.write_factors-requires
write_factors-requires c = (
  rw c.inverse-c.ensures ((field_of c.args.q).inverse_lt _),
  factors_lent (field_of c.args.q) 0 c.size-symbols.result (symbols_fit c.args.q) c.size-symbols.ensures,
)

pub clear_all-requires : goal.clear_all-requires
clear_all-requires c =
    record {
      clearing = (tables (goal.at.clear_all-requires c).After-write_tables).clearing;
      vectors_len = (
        others_long c.args.n c.args.count c.args.vectors.now c.requires.vectors_len.0,
        below_part (field_of c.args.q).size c.args.vectors.now c.args.n (length c.args.vectors.now) c.requires.vectors_len.1,
      );
    }

pub clear-requires : goal.clear-requires
clear-requires c =
    let f = factors (goal.at.clear-requires c).After-write_factors in
    let t = c.write_tables in record {
      clearing = clearing_of (field_of c.args.q) (half_of c.args.q) c.args.n (length c.args.grid.now) c.args.i (entry f 1) f
          t.new.low t.new.top c.requires.grid_len.0 (tables (goal.at.clear-requires c).After-write_tables).clearing;
      below = c.requires.grid_len.1;
    }

pub returns : goal.returns
returns c =
    let t = c.write_tables in
    let e = first_is (goal.at.returns c).After-write_tables in record {
      table_2 = rw e at t.ensures.table_2;
      pivot_taken = pivot_taken (field_of c.args.q) (half_of c.args.q) c.args.n c.args.i c.args.count c.args.vectors.now c.requires.table.2
          c.requires.vectors_len.0 c.requires.vectors_len.1 (factors (goal.at.returns c).After-write_factors) t.new.low
          t.new.top (tables (goal.at.returns c).After-write_tables) c.clear_all.new.vectors c.args.grid.now
          c.clear.new.w c.clear_all.auto.vectors c.clear_all.ensures
          c.requires.grid_len.0 c.requires.grid_len.1 c.clear.ensures;
    }
