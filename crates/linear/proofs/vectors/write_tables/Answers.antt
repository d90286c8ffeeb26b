-- `linear::vectors::write_tables` meets its contract: z times the multiple by half of the half is the multiple by the half.
-- Assumes nothing.
use mathlib.Core.Path.{refl, ◌∙◌}
use Prim.Native.Nat.{◌+◌, ◌*◌, ◌/◌}
use lib.ListN.{length}
use Rattle.field.specs.Inner.Halves.{half_of}
use Rattle.field.proofs.Fields.{field_of}
use Rattle.poly.specs.Inner.Ranges.{part}
use Rattle.poly.specs.Inner.Linear.{entry}
use Rattle.linear.specs.Inner.Eliminating.{Multiples}
use Rattle.linear.proofs.PivotTables.{multiples_cong, row_copied, row_doubled}
use Rattle.linear.proofs.PivotTables.{half_row_long, half_row_doubled}
use Rattle.linear.proofs.vectors.write_tables.Goals as goal
use Rattle.linear.proofs.vectors.write_tables.Goals.{After-write_multiples}

-- the multiples of v in low
low_rows : (c : goal.After-write_multiples) → let a = c.args in
    Multiples (field_of a.q) (length a.v.now) (half_of a.q) (entry a.v.now) c.write_multiples.new.table
low_rows c =
    let a = c.args in
    let n = length a.v.now in
    let k = c.copy_from_slice in
    let m = c.write_multiples in
    multiples_cong (field_of a.q) n (half_of a.q) _ (entry a.v.now) m.new.table
    (row_copied a.q n a.low.now c.requires.table.0 k.new.self a.v.now refl c.requires.below k.ensures.after).1 m.ensures.multiples

pub write_multiples-requires : goal.write_multiples-requires
write_multiples-requires c =
    let a = c.args in
    let k = c.copy_from_slice in
    (row_copied a.q (length a.v.now) a.low.now c.requires.table.0 k.new.self a.v.now refl c.requires.below k.ensures.after).0

pub write_multiples-requires-2 : goal.write_multiples-requires-2
write_multiples-requires-2 c =
    let a = c.args in
    let n = length a.v.now in
    let m = c.write_multiples in
    let half = c.half in
    let from = n * (half.result / 2) in
    (row_doubled a.q n a.top.now c.requires.table.1 c.times_z.new.dst (part m.new.table from (from + n))
    (half_row_long a.q n half.result m.new.table half.ensures m.ensures.table) c.times_z.ensures).0

pub returns : goal.returns
returns c =
    let a = c.args in
    let F = field_of a.q in
    let n = length a.v.now in
    let m = c.write_multiples in
    let m2 = c.write_multiples-2 in
    let half = c.half in
    let low = m.new.table in
    let rows = low_rows (goal.at.returns c).After-write_multiples in
    let from = n * (half.result / 2) in
    let doubled = (row_doubled a.q n a.top.now c.requires.table.1 c.times_z.new.dst (part low from (from + n))
    (half_row_long a.q n half.result low half.ensures m.ensures.table) c.times_z.ensures).1 in record {
      table_2 = (m.ensures.table, m2.ensures.table);
      multiples = (
        rows,
        multiples_cong F n (half_of a.q) _ (λ j. F.times (half_of a.q) (entry a.v.now j)) m2.new.table
            (λ j l. doubled j l ∙ half_row_doubled a.q n half.result low half.ensures (entry a.v.now) rows j l) m2.ensures.multiples,
      );
    }
