-- `interpolation::interpolate` meets its contract: each row is divided, and then they are joined. Assumes nothing.
use native.Mathlib.Omega.{arith}
use Rattle.field.proofs.Fields.{field_of}
use Rattle.poly.proofs.Joins.{joined_one}
use Rattle.poly.proofs.Divisions.{divided_joinable, interpolated}
use Rattle.poly.proofs.interpolation.interpolate.Goals as goal

pub join-requires : goal.join-requires
join-requires c =
    let d = c.divide in record {
      joinable = (
        divided_joinable (field_of c.args.q) c.args.w c.args.columns.now c.args.work.now _
            c.requires.joinable.0 d.auto.work d.ensures,
        c.if-columns-gt1.true,
        c.requires.w_bound,
      );
      tree = (c.requires.vanishing_tree.halves, c.requires.vanishing_tree.below);
      stride_bound = (omega (arith, c.requires.joinable.0.few), c.requires.vanishing_tree.short);
    }

pub returns-then-columns-gt1 : goal.returns-then-columns-gt1
returns-then-columns-gt1 c =
    interpolated (field_of c.args.q) c.args.w c.args.columns.now c.args.work.now _ _ c.requires.joinable.0 c.requires.joinable.2
    c.divide.ensures c.join.ensures

-- one column is joined as it is
pub returns-else-columns-gt1 : goal.returns-else-columns-gt1
returns-else-columns-gt1 c =
    let d = c.divide in
    let F = field_of c.args.q in
    interpolated F c.args.w c.args.columns.now c.args.work.now _ _ c.requires.joinable.0 c.requires.joinable.2 d.ensures
    (joined_one F c.args.w c.args.columns.now _
    (divided_joinable F c.args.w c.args.columns.now c.args.work.now _ c.requires.joinable.0 d.auto.work d.ensures)
    (omega (arith, c.requires.joinable.1, c.if-columns-gt1.false)))
