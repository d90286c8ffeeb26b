-- `code::encoding::write_columns` meets its contract: both stages leave the values of the grid's polynomial.
-- Assumes nothing.
use native.Mathlib.Omega.{arith}
use Rattle.field.proofs.Fields.{field_of}
use Rattle.field.proofs.FieldLaws.{zero_lt}
use Rattle.field.proofs.Curves.{sizes}
use Rattle.poly.proofs.Entries.{below_zeros}
use Rattle.code.proofs.Stages.{columns_grid}
use Rattle.code.proofs.encoding.write_columns.Goals as goal

pub evaluate_rows-requires : goal.evaluate_rows-requires
evaluate_rows-requires c =
    let F = field_of c.args.q in
    let p = c.requires.staged in
    record {
      staged = (p.0, below_zeros F.size 128 (zero_lt F));
      le_n = (p.1, p.2, omega (arith, (sizes c.args.q p.0.curve).high));
    }

pub returns : goal.returns
returns c =
    let r = c.evaluate_rows in
    let e = c.evaluate_columns in
    columns_grid c.args.q c.args.columns.now c.requires.staged.0.few c.args.n c.args.grid.now _ _ r.ensures e.ensures
