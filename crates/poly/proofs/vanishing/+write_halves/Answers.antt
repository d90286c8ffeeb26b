-- `vanishing::write_halves` meets its contract, by recursion on the number of columns. Assumes nothing.
use mathlib.Core.Path.{sym, subst}
use Prim.Native.Nat.{ℕ}
use native.Mathlib.Omega.{arith}
use lib.ListN.{length}
use lib.Seq.{length-take-le}
use Rattle.field.proofs.Fields.{field_of}
use Rattle.poly.specs.Inner.Interpolation.{half}
use Rattle.poly.proofs.Parts.{below_take, below_part}
use Rattle.poly.proofs.VanishingTrees.{node_room, first_falls, others_fall, other_columns, left_room, right_room}
use Rattle.poly.proofs.VanishingTrees.{WithNode, with_node, WithFirst, with_first, first_alone, with_others, others_alone}
use Rattle.poly.proofs.vanishing.+write_halves.Goals as goal
use Rattle.poly.proofs.vanishing.+write_halves.Goals.{After-write_node, Joined-h-gt1, then-h-gt1, else-h-gt1}

-- the node is there; and where the two arms of the first `if` meet, the tree of the first half too
after_node : (t : ℕ) (c : goal.After-write_node t) →
    WithNode (field_of c.args.q) c.args.columns.now c.args.tree.now c.args.stride c.args.at c.requires.below.1 c.requires.tree_room.0
    c.write_node.new.tree
after_node t c =
    with_node (field_of c.args.q) c.args.columns.now c.args.tree.now c.args.stride c.args.at c.requires.below.1 c.requires.tree_room.0
    c.write_node.new.tree c.write_node.auto.tree (c.write_node.ensures.node, c.write_node.ensures.by_index)

after_first : (t : ℕ) (c : goal.Joined-h-gt1 t) →
    WithFirst (field_of c.args.q) c.args.columns.now c.args.tree.now c.args.stride c.args.at c.requires.below.1 c.requires.tree_room.0
    c.if-h-gt1.tree
after_first t c =
    let F = field_of c.args.q in
    let columns = c.args.columns.now in
    let tree = c.args.tree.now in
    let two = c.requires.below.1 in
    let room = c.requires.tree_room.0 in
    let node = after_node t (goal.at.Joined-h-gt1 t c).After-write_node in
    elim c.if-h-gt1.branch [
      | then-h-gt1 w ↦ subst (WithFirst F columns tree c.args.stride c.args.at two room) (sym w.tree-is)
          (with_first F columns tree c.args.stride c.args.at two room _ w.write_halves.new.tree node
          w.write_halves.auto.tree w.write_halves.ensures.tree w.write_halves.ensures.same_outside)
      | else-h-gt1 w ↦ subst (WithFirst F columns tree c.args.stride c.args.at two room) (sym w.tree-is)
          (first_alone F columns tree c.args.stride c.args.at two room _ node w.if-h-gt1.false)
    ]

pub write_node-requires-clause-columns_in_bounds : goal.write_node-requires-clause-columns_in_bounds
write_node-requires-clause-columns_in_bounds t c =
    let room = c.requires.tree_room.0 in
    (node_room _ _ _ _ room c.requires.below.1, room.short, c.requires.tree_room.1)

pub write_halves-requires : goal.write_halves-requires
write_halves-requires t c =
    let two = c.requires.below.1 in
    let room = c.requires.tree_room.0 in
    let F = field_of c.args.q in
    let columns = c.args.columns.now in
    let w = after_node t (goal.at.write_halves-requires t c).After-write_node in (
      first_falls columns two c.decreases,
      (
        (below_take F.size columns (half columns) c.requires.below.0, omega (arith, length-take-le (half columns) columns (omega arith)), c.requires.below.2),
        (left_room F columns c.args.tree.now c.args.stride c.args.at two room c.write_node.new.tree w, w.below),
      ),
    )

pub write_halves-requires-then-h-c : goal.write_halves-requires-then-h-c
write_halves-requires-then-h-c t c =
    let two = c.requires.below.1 in
    let room = c.requires.tree_room.0 in
    let columns = c.args.columns.now in
    let w = after_first t (goal.at.write_halves-requires-then-h-c t c).Joined-h-gt1 in (
      others_fall columns two c.decreases,
      (
        (
          below_part _ columns (half columns) (length columns) c.requires.below.0,
          omega (arith, other_columns columns two, c.if-h-c.true),
          c.requires.below.2,
        ),
        (right_room _ _ _ _ _ two room _ w, w.with_node.below),
      ),
    )

pub returns-then-h-c : goal.returns-then-h-c
returns-then-h-c t c =
    let call = c.write_halves-then-h-c in
    let all =
    with_others _ _ _ _ _ c.requires.below.1 c.requires.tree_room.0 _ call.new.tree (after_first t (goal.at.returns-then-h-c t c).Joined-h-gt1)
    call.auto.tree call.ensures.tree call.ensures.same_outside in
    record { tree = all.0; same_outside = all.1 }

pub returns-else-h-c : goal.returns-else-h-c
returns-else-h-c t c =
    let all =
    others_alone _ _ _ _ _ c.requires.below.1 c.requires.tree_room.0 _ (after_first t (goal.at.returns-else-h-c t c).Joined-h-gt1) c.if-h-c.false in
    record { tree = all.0; same_outside = all.1 }
