-- `vanishing::write_node` meets its contract. Assumes nothing.
use Rattle.field.proofs.Fields.{field_of}
use Rattle.poly.proofs.VanishingTrees.{node_written}
use Rattle.poly.proofs.vanishing.write_node.Goals as goal

pub returns : goal.returns
returns c =
    let first = c.write_polynomial in
    let others = c.write_polynomial-2 in
    let all =
    node_written (field_of c.args.q) c.args.columns.now c.args.tree.now c.args.at c.requires.below.1 c.requires.columns_in_bounds.0
    first.new.out first.auto.out others.new.out others.auto.out first.ensures others.ensures c.requires.columns_in_bounds.2 in
    record { node = all.0; by_index = all.1 }
