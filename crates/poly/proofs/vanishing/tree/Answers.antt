-- `vanishing::tree` meets its contract. Assumes nothing.
use Rattle.field.proofs.Fields.{field_of}
use Rattle.poly.proofs.VanishingTrees.{begun_below, begun_room, tree_of_one}
use Rattle.poly.proofs.vanishing.tree.Goals as goal

pub write_halves-requires : goal.write_halves-requires
write_halves-requires c =
    let F = field_of c.args.q in
    let columns = c.args.columns.now in
    let root = c.write_polynomial in record {
      below = (c.requires.0, c.if-columns-gt1.true, c.requires.3);
      tree_room = (
        begun_room F columns c.requires.2 root.new.out root.auto.out root.ensures,
        begun_below F columns c.requires.2 root.new.out root.auto.out root.ensures,
      );
    }

pub returns-else-columns-gt1 : goal.returns-else-columns-gt1
returns-else-columns-gt1 c =
    let root = c.write_polynomial in
    tree_of_one (field_of c.args.q) c.args.columns.now c.requires.2 root.new.out root.auto.out root.ensures c.if-columns-gt1.false
